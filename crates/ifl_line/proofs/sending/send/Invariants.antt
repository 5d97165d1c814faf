use Rattle.std.proofs.Common.{◌≡◌, ◌≤◌, [], take}
use Rattle.std.specs.Prelude.{vec_len, vec_capacity}
use Rattle.std.specs.VecDeque.{deque_capacity}
use Rattle.ifl_line.specs.Hands.{AreOf}
use Rattle.ifl_line.specs.Sent.{Handled}
use Rattle.ifl_line.proofs.sending.send.Given as goal

abbrev pub invariant-loop-index : goal.invariant-loop-index
invariant-loop-index g l = AreOf l.line l.hands × (l.hands.seats.turn.part ≡ l.initial.hands.seats.turn.part)
    × Handled l.line.ring.size l.line.rules l.initial.sender.number 0 (take l.index l.capture.frames) l.initial.hands.seats.ring.known l.initial.hands.pass.known [] l.hands.seats.ring.known l.hands.pass.known l.sender.away.items
    × (l.sender.number ≡ l.initial.sender.number) × (vec_len l.sender.away ≤ l.index) × (vec_capacity l.sender.away ≡ vec_capacity l.initial.sender.away) × (l.sender.items.items ≡ []) × (1 ≤ deque_capacity l.sender.items)
