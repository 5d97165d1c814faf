use Rattle.std.proofs.Common.{◌≡◌}
use Rattle.std.specs.Prelude.{List}
use Rattle.ifl_ringcore.specs.declared.history.Entry.{Entry}
use Rattle.ifl_ringcore.specs.Counters.{nothing_counted}
use Rattle.ifl_ring.specs.Calls.{AreLooks}
use Rattle.ifl_ring.specs.Trails.{Trails}
use Rattle.ifl_ring.specs.Tells.{Parked}
use Rattle.ifl_ring.proofs.bare.BareRing.settle.Given as goal

abbrev pub invariant-loop : goal.invariant-loop
invariant-loop g l = (l.seat.table_id ≡ l.initial.seat.table_id) × (l.seat.id ≡ l.initial.seat.id) × ((es : List Entry) × AreLooks es × Trails l.self.size l.initial.seat.me.0.known es nothing_counted l.seat.me.0.known)
    × ((p : Parked g.D.Item.RingItem.meaning g.D.Drainer.origin g.D.Drainer.settled g.D.Drainer.full g.D.Drainer.stands_for l.self.size l.n l.initial.seat.me)
    → (p' : Parked g.D.Item.RingItem.meaning g.D.Drainer.origin g.D.Drainer.settled g.D.Drainer.full g.D.Drainer.stands_for l.self.size l.n l.seat.me) × (p'.consumer ≡ p.consumer) × (p'.outlet.value.drainer ≡ p.outlet.value.drainer) × (p'.items ≡ p.items))
