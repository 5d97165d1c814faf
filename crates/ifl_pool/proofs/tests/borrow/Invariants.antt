use Rattle.std.proofs.Common.{◌≡◌}
use Rattle.ifl_pool.specs.Passes.{OwesTheSame}
use Rattle.ifl_pool.proofs.tests.borrow.Given as goal

abbrev pub invariant-loop : goal.invariant-loop
invariant-loop g l = (l.pass.pool ≡ l.pool) × OwesTheSame l.initial.pass.known l.pass.known
