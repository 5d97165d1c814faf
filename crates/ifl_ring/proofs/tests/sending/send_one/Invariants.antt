use Rattle.std.proofs.Common.{◌≡◌, ◌≤◌, length}
use Rattle.std.specs.VecDeque.{deque_capacity}
use Rattle.ifl_ring.proofs.tests.sending.send_one.Given as goal

abbrev pub invariant-loop : goal.invariant-loop
invariant-loop g l = (l.seat.table ≡ l.initial.seat.table) × (l.seat.known.part ≡ l.initial.seat.known.part) × (length l.items.items ≡ 1) × (1 ≤ deque_capacity l.items)
