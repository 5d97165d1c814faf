use Rattle.std.proofs.Common.{◌≡◌, ◌≤◌, false, length}
use Rattle.std.specs.VecDeque.{deque_capacity}
use Rattle.ifl_reset.proofs.tests.beside.publish.Given as goal

abbrev pub invariant-loop : goal.invariant-loop
invariant-loop g l = (l.sender.seat.table ≡ l.line.ring.table) × (l.sender.turn.turnstile ≡ l.line.turnstile) × (l.sender.turn.held ≡ false) × (l.sender.pass.pool ≡ l.line.pool.now)
    × (l.sender.seat.known.part ≡ l.fn.sender.seat.known.part) × (l.sender.turn.part ≡ l.fn.sender.turn.part) × (l.sender.pass.known.part ≡ l.fn.sender.pass.known.part)
    × (length l.sender.items.items ≡ 1) × (1 ≤ deque_capacity l.sender.items)
