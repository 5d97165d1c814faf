use Rattle.std.proofs.Common.{◌≡◌}
use Rattle.ifl_txq.proofs.tests.doorbells.batch_of.Given as goal

abbrev pub invariant-loop-index : goal.invariant-loop-index
invariant-loop-index g l = l.pass.pool ≡ l.pool
