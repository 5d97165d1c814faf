use Rattle.std.proofs.Common.{arith}
use Rattle.ifl_pool.proofs.QueueSteps.{merges}
use Rattle.ifl_pool.proofs.pool.Pool.join.Goals as goal

pub absorb-requires-clause-rule : goal.absorb-requires-clause-rule
absorb-requires-clause-rule c = let idle = c.pass.invariant.0 in let alive = idle.pass.alive in let same = idle.part in merges _ _ _ _ (omega arith)
