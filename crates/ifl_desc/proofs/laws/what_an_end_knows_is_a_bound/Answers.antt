use Rattle.ifl_desc.proofs.Lengths.{known_bounds}
use Rattle.ifl_desc.proofs.laws.what_an_end_knows_is_a_bound.Goals as goal

pub returns : goal.returns
returns c = λ size h d v e. known_bounds size h d v e
