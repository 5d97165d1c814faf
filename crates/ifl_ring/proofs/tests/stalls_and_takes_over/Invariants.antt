use Rattle.std.proofs.Common.{◌≡◌}
use Rattle.ifl_ring.proofs.tests.stalls_and_takes_over.Given as goal

abbrev pub invariant-loop-tag : goal.invariant-loop-tag
invariant-loop-tag g l = l.seat.table ≡ l.initial.seat.table
