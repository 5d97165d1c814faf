use Rattle.std.proofs.Common.{◌≡◌, false}
use Rattle.ifl_reset.proofs.tests.beside.stop.Given as goal

abbrev pub invariant-loop : goal.invariant-loop
invariant-loop g l = (l.seat.turnstile ≡ l.line.turnstile) × (l.seat.held ≡ false) × (l.seat.part ≡ l.fn.seat.part)
