use Rattle.std.proofs.Common.{◌≡◌}
use Rattle.ifl_reset.proofs.tests.packets.load.Given as goal

abbrev pub invariant-loop-index : goal.invariant-loop-index
invariant-loop-index g l = (l.pass.pool ≡ l.pool) × (l.pass.known.part ≡ l.fn.pass.known.part)
