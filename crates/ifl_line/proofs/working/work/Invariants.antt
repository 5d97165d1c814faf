use Rattle.std.proofs.Common.{◌≡◌, ◌≤◌, [], List}
use Rattle.std.specs.VecDeque.{deque_capacity}
use Rattle.ifl_ringcore.specs.declared.history.Entry.{Entry}
use Rattle.ifl_line.specs.Hands.{AreSeats}
use Rattle.ifl_line.specs.Steps.{OnlyKicks, Stepped}
use Rattle.ifl_line.proofs.working.work.Given as goal

abbrev pub invariant-loop : goal.invariant-loop
invariant-loop g l = AreSeats l.line l.worker.seats × (l.worker.seats.turn.part ≡ l.initial.worker.seats.turn.part)
    × ((es : List Entry) × Stepped l.initial.worker.seats.ring.known es l.worker.seats.ring.known × OnlyKicks es)
    × (l.worker.items.items ≡ []) × (1 ≤ deque_capacity l.worker.items) × (l.idle ≤ 1000000)
