use Rattle.std.proofs.Common.{◌≡◌, ◌++◌, take, drop}
use Rattle.ifl_ring.proofs.bare.BareRing.turn_by.Given as goal

abbrev pub invariant-loop : goal.invariant-loop
invariant-loop g l = (l.seat.table_id ≡ l.initial.seat.table_id) × (l.seat.id ≡ l.initial.seat.id) × (l.seat.me.0 ≡ l.initial.seat.me.0) × (l.seat.me.1 ≡ drop l.counter l.initial.seat.me.1 ++ take l.counter l.initial.seat.me.1)
