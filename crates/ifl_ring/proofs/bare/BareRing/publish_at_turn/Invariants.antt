use Rattle.std.proofs.Common.{◌≡◌, List}
use Rattle.ifl_base.specs.Word.{IsWithin}
use Rattle.ifl_ringcore.specs.Counters.{nothing_counted}
use Rattle.ifl_ringcore.specs.declared.history.Entry.{Entry}
use Rattle.ifl_ring.specs.Calls.{AreLooks}
use Rattle.ifl_ring.specs.Tells.{HoldsAt}
use Rattle.ifl_ring.specs.Trails.{Trails}
use Rattle.ifl_ring.proofs.bare.BareRing.publish_at_turn.Given as goal

abbrev pub invariant-loop : goal.invariant-loop
invariant-loop g l = (l.seat.table_id ≡ l.initial.seat.table_id) × (l.seat.id ≡ l.initial.seat.id) × (l.seat.me.1 ≡ l.initial.seat.me.1) × HoldsAt l.self.size l.n l.place l.seat.me
    × ((es : List Entry) × AreLooks es × Trails l.self.size l.initial.seat.me.0.known es nothing_counted l.seat.me.0.known) × IsWithin l.self.size l.w
