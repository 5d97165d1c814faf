use Rattle.std.proofs.Common.{◌≡◌}
use Rattle.ifl_txq.proofs.tests.packet.Given as goal

abbrev pub invariant-loop : goal.invariant-loop
invariant-loop g l = (l.pass.pool ≡ l.pool) × (l.pass.known.part ≡ l.fn.pass.known.part)
