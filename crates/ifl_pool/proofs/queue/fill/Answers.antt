use Rattle.std.proofs.Common.{ap, ◌∙◌}
use Rattle.ifl_pool.specs.declared.moves.Moved.{Moved}
use Rattle.ifl_pool.proofs.QueueSteps.{fills, learns_nothing}
use Rattle.ifl_pool.proofs.queue.fill.Goals as goal

pub push_by-requires-clause-rule : goal.push_by-requires-clause-rule
push_by-requires-clause-rule g c = (fills _ _ _ _ (ap (λ (z : Moved). z.part) c.loop-cluster.invariant.3 ∙ c.requires.whole), learns_nothing _ _)
