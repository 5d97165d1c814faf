use Rattle.std.proofs.Common.{List, [], ◌∷◌, ap, sym, subst, ◌∙◌}
use Rattle.ifl_ring.specs.declared.view.Known.{Known}
use Rattle.ifl_ring.specs.declared.view.View.{View}
use Rattle.ifl_ring.specs.Seats.{AreAmong}
use Rattle.ifl_ring.specs.Rings.{SeatState}
use Rattle.ifl_ringcore.specs.State.{first_state}
use Rattle.ifl_ring.proofs.Ending.{counters_among-whole}
use Rattle.ifl_ring.proofs.ring.Ring.close.Goals as goal

abbrev known_in : {O : Type 0} → Known → List (View O) → Known
known_in d [] = d
known_in d (v ∷ vs) = v.known

pub returns-clause-counted : goal.returns-clause-counted
returns-clause-counted g c = let known = ap (known_in c.into_seat.result.me.0.known) (sym c.into_seat.ensures.2 ∙ c.into_badge-badge.ensures.2) ∙ ap (λ (z : SeatState). z.known) c.seat.view_is in
    counters_among-whole c.args.seat.known.stands first_state c.args.seat.known.seen (subst (λ (z : Known). AreAmong z.stands z.seen) known c.close-left.ensures.all)
