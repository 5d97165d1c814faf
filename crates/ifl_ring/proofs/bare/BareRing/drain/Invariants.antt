use Rattle.std.proofs.Common.{◌≡◌, ◌<◌, List}
use Rattle.ifl_ringcore.specs.Counters.{nothing_counted}
use Rattle.ifl_ringcore.specs.declared.history.Entry.{Entry}
use Rattle.ifl_ring.specs.Calls.{AreOfDrain, IsTotal, released_in}
use Rattle.ifl_ring.specs.Draining.{Drives}
use Rattle.ifl_ring.specs.Trails.{Trails}
use Rattle.ifl_ring.proofs.bare.BareRing.drain.Given as goal

abbrev pub invariant-loop : goal.invariant-loop
invariant-loop g l = (l.seat.table_id ≡ l.initial.seat.table_id) × (l.seat.id ≡ l.initial.seat.id) × (l.place < l.self.size) × (l.items < l.self.size)
    × ((es : List Entry) × (v : Drives g.D.Item.RingItem.meaning g.D.Drainer.origin g.D.Drainer.settled g.D.Drainer.stands_for l.self.size l.items l.place l.seat.me)
    × AreOfDrain es × (released_in es ≡ v.consumer.total) × Trails l.self.size l.initial.seat.me.0.known es nothing_counted l.seat.me.0.known
    × IsTotal l.total v.consumer.total × (v.consumer.budget ≡ l.budget) × (v.consumer.from ≡ l.fn.from))
