use Rattle.ifl_line.proofs.Taking.{set_may}
use Rattle.ifl_line.proofs.laws.set_jobs_may_begin.Goals as goal

pub returns : goal.returns
returns g c = λ line jobs at set k d low lt. set_may line 0 jobs at set k d lt
