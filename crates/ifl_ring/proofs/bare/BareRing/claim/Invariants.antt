use Rattle.std.proofs.Common.{◌≡◌, List}
use Rattle.ifl_base.specs.Word.{IsWithin}
use Rattle.ifl_ringcore.specs.Counters.{nothing_counted}
use Rattle.ifl_ringcore.specs.declared.history.Entry.{Entry}
use Rattle.ifl_ring.specs.Calls.{AreLooks}
use Rattle.ifl_ring.specs.Law.{Rests}
use Rattle.ifl_ring.specs.Seats.{last_word}
use Rattle.ifl_ring.specs.Trails.{Trails}
use Rattle.ifl_ring.proofs.bare.BareRing.claim.Given as goal

abbrev pub invariant-loop : goal.invariant-loop
invariant-loop g l = (l.seat.table_id ≡ l.initial.seat.table_id) × (l.seat.id ≡ l.initial.seat.id) × Rests l.seat.me × IsWithin l.self.size l.seen × (l.seen ≡ last_word l.self.size l.seat.me.0.known)
    × ((es : List Entry) × AreLooks es × Trails l.self.size l.initial.seat.me.0.known es nothing_counted l.seat.me.0.known)
