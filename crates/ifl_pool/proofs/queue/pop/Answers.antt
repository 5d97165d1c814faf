use Rattle.std.proofs.Common.{◌∙◌}
use Rattle.ifl_pool.proofs.QueueSteps.{pops, learns_nothing}
use Rattle.ifl_pool.proofs.queue.pop.Goals as goal

pub pop_as-requires-clause-queue : goal.pop_as-requires-clause-queue
pop_as-requires-clause-queue g c = (c.loop.invariant.0.0 ∙ c.requires.0, c.loop.invariant.0.2 ∙ c.requires.1)

pub pop_as-requires-clause-rule : goal.pop_as-requires-clause-rule
pop_as-requires-clause-rule g c = (pops _ _, learns_nothing _ _)
