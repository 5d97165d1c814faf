use Rattle.std.proofs.Common.{◌≤◌, sym, arith, subst}
use Rattle.ifl_pool.specs.Pools.{PassState}
use Rattle.ifl_pool.proofs.QueueSteps.{forks}
use Rattle.ifl_pool.proofs.pool.Pool.split.Goals as goal

pub another-moved-requires-clause-rule : goal.another-moved-requires-clause-rule
another-moved-requires-clause-rule c = let two = subst (λ (z : PassState). 2 ≤ z.known.part) (sym c.pass.view_is) c.requires.part in let same = c.pass.invariant.0.part in forks _ _ (omega arith)
