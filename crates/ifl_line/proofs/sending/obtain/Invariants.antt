use Rattle.std.proofs.Common.{◌≡◌, ◌≤◌, [], List, ℕ}
use Rattle.std.specs.VecDeque.{deque_capacity}
use Rattle.ifl_ringcore.specs.declared.history.Entry.{Entry}
use Rattle.ifl_line.specs.declared.rules.Policy.TheVariants.{Drop}
use Rattle.ifl_line.specs.Hands.{AreOf}
use Rattle.ifl_line.specs.Sent.{Rises}
use Rattle.ifl_line.specs.Steps.{OnlyKicks, Stepped}
use Rattle.ifl_line.proofs.sending.obtain.Given as goal

abbrev pub invariant-loop : goal.invariant-loop
invariant-loop g l = AreOf l.line l.hands × (l.hands.seats.turn.part ≡ l.initial.hands.seats.turn.part) × ((es : List Entry) × Stepped l.initial.hands.seats.ring.known es l.hands.seats.ring.known × OnlyKicks es)
    × ((given : ℕ) × (empty : ℕ) × Rises given given empty l.initial.hands.pass.known l.hands.pass.known × (l.line.rules.policy ≡ Drop → (given ≡ 0) × (empty ≡ 0)))
    × (l.items.items ≡ []) × (1 ≤ deque_capacity l.items)
