use Rattle.ifl_desc.proofs.Lengths.{met_ends}
use Rattle.ifl_desc.proofs.laws.ends_that_met_are_of_one_history.Goals as goal

pub returns : goal.returns
returns c = λ d v d' v' m k. met_ends d d' v v' m k
