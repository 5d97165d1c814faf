use Rattle.ifl_desc.proofs.Looking.{bells_Credits}
use Rattle.ifl_desc.proofs.laws.credits_ring_nothing.Goals as goal

pub returns : goal.returns
returns c = λ a b n k. bells_Credits a n b k
