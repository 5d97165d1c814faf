use Rattle.std.proofs.Common.{◌≡◌, ◌<◌, ◌≤◌, length}
use Rattle.std.specs.VecDeque.{deque_capacity}
use Rattle.ifl_ring.specs.Acts.{InFront, Gathered}
use Rattle.ifl_ring.proofs.bare.BareRing.gather.Given as goal

abbrev pub invariant-loop-more : goal.invariant-loop-more
invariant-loop-more g l = (l.seat.table_id ≡ l.initial.seat.table_id) × (l.seat.id ≡ l.initial.seat.id) × (l.seat.me.0 ≡ l.initial.seat.me.0) × (deque_capacity l.batch ≡ deque_capacity l.initial.batch) × (l.slot < l.self.size)
    × (length l.batch.items ≤ 32) × ((front : InFront l.self.size l.at l.left l.initial.seat.me.1) → Gathered l.self.size front.start front.items front.behind l.initial.batch.items l.batch.items l.slot l.more l.seat.me.1)

abbrev pub decreases-loop-more : goal.decreases-loop-more
decreases-loop-more g l = l.more
