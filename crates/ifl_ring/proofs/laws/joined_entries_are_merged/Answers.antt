use Rattle.ifl_ring.proofs.Merging.{merge-joined}
use Rattle.ifl_ring.proofs.laws.joined_entries_are_merged.Goals as goal

pub returns : goal.returns
returns c = λ size v w both j. merge-joined size v w both j
