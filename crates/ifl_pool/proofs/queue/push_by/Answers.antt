use Rattle.std.proofs.Common.{ℕ, sym, subst, ◌∙◌}
use Rattle.crossbeam_queue.specs.Fifo.{Pushes, Learns}
use Rattle.crossbeam_queue.specs.Passes.{ruled_capacity}
use Rattle.ifl_pool.specs.declared.moves.Moved.{Moved}
use Rattle.ifl_pool.specs.Queue.{IsConserved}
use Rattle.ifl_pool.proofs.queue.push_by.Goals as goal

pub push_as-requires-clause-queue : goal.push_as-requires-clause-queue
push_as-requires-clause-queue g c = (c.loop.invariant.0.0 ∙ c.requires.pass.0, c.loop.invariant.0.2 ∙ c.requires.pass.1)

pub push_as-requires-clause-rule : goal.push_as-requires-clause-rule
push_as-requires-clause-rule g c = let same = c.loop.invariant in
    subst (λ (z : ℕ × Moved × ℕ). Pushes IsConserved (ruled_capacity c.args.queue.now) z.0 z.1 z.2 (g.M.Outcome.then z.1 z.2) × Learns IsConserved z.0 z.1 (g.M.Lesson.fact z.1))
    (λ i. (sym same.0.1 i, sym same.1 i, sym same.2 i)) c.requires.rule
