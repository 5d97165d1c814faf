use Rattle.ifl_line.proofs.Taking.{ended_done}
use Rattle.ifl_line.proofs.laws.ended_jobs_are_done.Goals as goal

pub returns : goal.returns
returns g c = λ line jobs ran at set long each. ended_done line jobs ran at set long each
