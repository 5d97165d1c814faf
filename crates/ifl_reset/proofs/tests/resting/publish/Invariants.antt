use Rattle.std.proofs.Common.{◌≡◌, ◌≤◌, []}
use Rattle.std.specs.VecDeque.{deque_capacity}
use Rattle.ifl_reset.proofs.tests.resting.publish.Given as goal

abbrev pub invariant-loop-index : goal.invariant-loop-index
invariant-loop-index g l = (l.seat.table ≡ l.ring.table) × (l.pass.pool ≡ l.pool) × (l.seat.known.part ≡ l.fn.seat.known.part) × (l.items.items ≡ []) × (1 ≤ deque_capacity l.items)
