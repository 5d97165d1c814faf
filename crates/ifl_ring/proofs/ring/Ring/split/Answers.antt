use Rattle.std.proofs.Common.{arith, ap, sym, ◌∙◌, subst, ◌≤◌}
use Rattle.ifl_ringcore.specs.Counters.{capped}
use Rattle.ifl_ring.specs.declared.view.Known.{Known}
use Rattle.ifl_ring.specs.Rings.{SeatState}
use Rattle.ifl_ring.specs.Tally.{tally_of}
use Rattle.ifl_ring.proofs.Tallying.{capped-nothing, tally-named}
use Rattle.ifl_ring.proofs.ring.Ring.split.Goals as goal

pub split-new-requires-clause-part : goal.split-new-requires-clause-part
split-new-requires-clause-part g c κs within = subst (λ (z : SeatState). 2 ≤ z.known.part) (sym c.seat.view_is) c.requires.part

pub invariant_of-seat : goal.invariant_of-seat
invariant_of-seat g c = let i = c.seat.invariant in let s = c.split-new.ensures.same.1 in let part = i.1 in let most = i.2 in let new = ap (λ (z : Known). z.part) s in
    (c.split-new.ensures.rest.0, omega arith, omega arith, i.3 ∙ ap (λ (z : Known). capped (tally_of z)) (sym s))

pub invariant_of-result : goal.invariant_of-result
invariant_of-result g c = let i = c.seat.invariant in let n = c.split-new.ensures.new in let part = n.part in let most = i.2 in let same = i.1 in
    (c.split-new.ensures.rest.1, omega arith, omega arith, sym capped-nothing ∙ ap capped (sym (tally-named _ _ _ n)))
