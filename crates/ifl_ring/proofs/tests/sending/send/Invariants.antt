use Rattle.std.proofs.Common.{◌≡◌, ◌≤◌, []}
use Rattle.std.specs.VecDeque.{deque_capacity}
use Rattle.ifl_ring.proofs.tests.sending.send.Given as goal

abbrev pub invariant-loop-i : goal.invariant-loop-i
invariant-loop-i g l = (l.seat.table ≡ l.initial.seat.table) × (l.seat.known.part ≡ l.initial.seat.known.part) × (l.items.items ≡ []) × (1 ≤ deque_capacity l.items)
