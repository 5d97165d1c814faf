use Rattle.std.proofs.Common.{◌≡◌, ◌≤◌, [], List}
use Rattle.std.specs.VecDeque.{deque_capacity}
use Rattle.ifl_ring.specs.Calls.{publishing}
use Rattle.ifl_ringcore.specs.declared.history.Entry.{Entry}
use Rattle.ifl_line.specs.Hands.{AreSeats}
use Rattle.ifl_line.specs.Steps.{Stepped}
use Rattle.ifl_line.proofs.offering.publish.Given as goal

abbrev pub invariant-loop : goal.invariant-loop
invariant-loop g l = AreSeats l.line l.seats × (l.seats.turn.part ≡ l.initial.seats.turn.part) × ((es : List Entry) × Stepped l.initial.seats.ring.known es l.seats.ring.known × (publishing es ≡ [])) × (l.items.items ≡ l.initial.items.items) × (deque_capacity l.initial.items ≤ deque_capacity l.items)
