use Rattle.ifl_desc.proofs.Lengths.{met_heard}
use Rattle.ifl_desc.proofs.laws.ends_that_met_heard_all.Goals as goal

pub returns : goal.returns
returns c = λ d v d' v' m. met_heard d d' v v' m
