use Rattle.std.proofs.Common.{◌≡◌, ◌≤◌, false, []}
use Rattle.std.specs.VecDeque.{deque_capacity}
use Rattle.ifl_txq.specs.Items.{meaning_of}
use Rattle.ifl_txq.specs.declared.item.Item.TheVariants.{Kick}
use Rattle.ifl_reset.proofs.Quieting.{SoQuiet}
use Rattle.ifl_reset.proofs.resting.quiesce.Given as goal

abbrev pub invariant-loop : goal.invariant-loop
invariant-loop g l = (l.seat.table ≡ l.fn.seat.table) × SoQuiet (meaning_of Kick) l.ring.size l.fn.seat.known l.seat.known
    × (l.turn.turnstile ≡ l.fn.turn.turnstile) × (l.turn.part ≡ l.fn.turn.part) × (l.turn.held ≡ false) × (l.kick.items ≡ []) × (deque_capacity l.fn.kick ≤ deque_capacity l.kick)
