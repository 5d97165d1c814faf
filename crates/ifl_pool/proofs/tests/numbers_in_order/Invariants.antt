use Rattle.std.proofs.Common.{◌≡◌}
use Rattle.ifl_pool.proofs.tests.numbers_in_order.Given as goal

abbrev pub invariant-loop-number : goal.invariant-loop-number
invariant-loop-number g l = l.pass.pool ≡ l.pool
