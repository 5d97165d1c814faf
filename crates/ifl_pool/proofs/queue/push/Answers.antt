use Rattle.ifl_pool.proofs.QueueSteps.{pushes, learns_nothing}
use Rattle.ifl_pool.proofs.queue.push.Goals as goal

pub push_by-requires-clause-rule : goal.push_by-requires-clause-rule
push_by-requires-clause-rule g c = (pushes _ _ _ _, learns_nothing _ _)
