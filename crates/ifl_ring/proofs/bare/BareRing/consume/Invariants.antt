use Rattle.std.proofs.Common.{◌≡◌, ◌<◌, ◌+◌, length}
use Rattle.ifl_ring.specs.Draining.{Consuming, GoesOn}
use Rattle.ifl_ring.specs.Calls.{IsTotal}
use Rattle.ifl_ring.proofs.bare.BareRing.consume.Given as goal

abbrev pub decreases-loop : goal.decreases-loop
decreases-loop g l = l.round.left + length l.batch.items

abbrev pub invariant-loop : goal.invariant-loop
invariant-loop g l = (l.seat.table_id ≡ l.initial.seat.table_id) × (l.seat.id ≡ l.initial.seat.id) × (l.seat.me.0 ≡ l.initial.seat.me.0) × (l.round.at < l.self.size)
    × ((c : Consuming g.D.Item.RingItem.meaning g.D.Drainer.origin g.D.Drainer.settled g.D.Drainer.stands_for l.self.size 0 l.left l.at l.initial.drainer l.initial.batch l.initial.seat.me) → IsTotal l.before c.consumer.total → c.consumer.budget ≡ l.budget
    → (x : Consuming g.D.Item.RingItem.meaning g.D.Drainer.origin g.D.Drainer.settled g.D.Drainer.stands_for l.self.size l.round.count l.round.left l.round.at l.drainer l.batch l.seat.me) × (x.consumer ≡ c.consumer) × IsTotal l.round.total (c.consumer.total + l.round.count) × GoesOn l.round.count (l.round.left + length l.batch.items) c.consumer)
