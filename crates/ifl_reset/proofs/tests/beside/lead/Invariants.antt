use Rattle.std.proofs.Common.{◌≡◌, false}
use Rattle.ifl_reset.proofs.tests.beside.lead.Given as goal

abbrev pub invariant-loop-round : goal.invariant-loop-round
invariant-loop-round g l = (l.seat.turnstile ≡ l.line.turnstile) × (l.seat.held ≡ false) × (l.seat.part ≡ l.fn.seat.part)
