use Rattle.std.proofs.Common.{◌≡◌, ◌≤◌, false, []}
use Rattle.std.specs.VecDeque.{deque_capacity}
use Rattle.ifl_reset.proofs.tests.beside.send.Given as goal

abbrev pub invariant-loop-index : goal.invariant-loop-index
invariant-loop-index g l = (l.sender.seat.table ≡ l.line.ring.table) × (l.sender.turn.turnstile ≡ l.line.turnstile) × (l.sender.turn.held ≡ false) × (l.sender.pass.pool ≡ l.line.pool.now)
    × (l.sender.seat.known.part ≡ l.fn.sender.seat.known.part) × (l.sender.turn.part ≡ l.fn.sender.turn.part) × (l.sender.pass.known.part ≡ l.fn.sender.pass.known.part)
    × (l.sender.items.items ≡ []) × (1 ≤ deque_capacity l.sender.items)
