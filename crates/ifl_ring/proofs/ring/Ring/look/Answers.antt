use Rattle.std.proofs.Common.{ap, sym, subst, ◌∙◌}
use Rattle.ifl_ring.specs.declared.view.Known.{Known}
use Rattle.std.specs.Prelude.{ℕ, [], ◌∷◌}
use Rattle.ifl_base.specs.Word.{pack}
use Rattle.ifl_ringcore.specs.declared.history.Step.TheVariants.{Look}
use Rattle.ifl_ring.specs.Seats.{Went, entry}
use Rattle.ifl_ring.specs.Rings.{SeatState}
use Rattle.ifl_ring.proofs.Calls.{made_went}
use Rattle.ifl_ring.proofs.Tallying.{tally-looked}
use Rattle.ifl_ring.proofs.ring.Ring.look.Goals as goal

pub invariant_of-seat : goal.invariant_of-seat
invariant_of-seat g c = let look = c.look.ensures.look in let i = c.seat.invariant in
    (c.look.ensures.rest, i.1 ∙ ap (λ (z : Known). z.part) (sym look.0.is), i.2, tally-looked c.self.inside.bare.size c.seat.inside.tally c.seat.inside.seat.me.0.known c.look.result _ i.0.0.named i.3 look)

pub returns-clause-went : goal.returns-clause-went
returns-clause-went g c = let look = c.look.ensures.look in let i = c.seat.invariant in
    subst (λ (n : ℕ). Went n c.args.seat.now.known (entry c.args.seat.now.known.number (pack c.look.result) Look ∷ []) c.look.new.seat.me.0.known) (ap (λ z. z.size) c.self.view_is)
    (subst (λ (v : Known). Went c.self.inside.bare.size v (entry v.number (pack c.look.result) Look ∷ []) c.look.new.seat.me.0.known) (ap (λ (z : SeatState). z.known) c.seat.view_is)
    (made_went c.self.inside.bare.size c.seat.inside.seat.me.0.known (entry c.seat.inside.seat.me.0.known.number (pack c.look.result) Look) c.look.new.seat.me.0.known i.0.0.named look.0))
