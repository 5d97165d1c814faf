use Rattle.std.proofs.Common.{◌≡◌, ℕ, ◌-◌, ◌<◌, ◌∙◌, ap, sym, arith, subst, List, [], ◌∷◌, ◌++◌, length, append_assoc, length-append}
use Rattle.ifl_desc.specs.declared.desc.Desc.{Desc}
use Rattle.ifl_desc.specs.declared.history.Side.{Side}
use Rattle.ifl_desc.specs.declared.history.Event.{Event}
use Rattle.ifl_desc.specs.declared.history.View.{View}
use Rattle.ifl_desc.specs.declared.rack.Rack.{Rack}
use Rattle.ifl_desc.specs.Rack.{seen_of, ahead}
use Rattle.ifl_desc.proofs.Racks.{taken_next}
use Rattle.ifl_desc.proofs.rack.Rack.take_all.Goals as goal

pub loop-preserved : goal.loop-preserved
loop-preserved g c =
    let r : Side = g.R.IsSide.side in
    let h : Rack = c.loop.self in
    let d : Desc = c.take.result in
    let i = c.loop.invariant in
    let s = c.take.ensures.seat in
    let q = c.take.ensures.counts in
    let m : ℕ = c.take.new.self.left in
    let before : List Event = seen_of c.args.self.now in
    let some_left : 0 < h.left = omega arith in
    let one : h.left - 1 ≡ m = omega arith in
    let same : seen_of h ≡ before = ap (λ (v : View). v.seen) i.1.2 in
    let next : ahead r before h.left ≡ d ∷ ahead r before m =
    subst (λ (z : List Event). ahead r z h.left ≡ d ∷ ahead r z (h.left - 1)) same (taken_next r h i.0 some_left d c.take.ensures.value) ∙ ap (λ (z : ℕ). d ∷ ahead r before z) one in
    let old : List Desc = c.loop.out.items in (
      c.take.ensures.rack,
      (s.0 ∙ i.1.0, s.1 ∙ i.1.1, s.2 ∙ i.1.2),
      c.take.ensures.placed ∙ i.2,
      ap (λ (z : List Desc). z ++ ahead r before m) c.push_reserved.ensures.items ∙ append_assoc old (d ∷ []) (ahead r before m) ∙ ap (λ (z : List Desc). old ++ z) (sym next) ∙ i.3,
      c.push_reserved.ensures.capacity ∙ i.4,
      ap length c.push_reserved.ensures.items ∙ length-append old (d ∷ []) ∙ (omega arith),
      omega arith,
      omega arith,
      omega arith,
      q.3 ∙ i.9,
      q.4 ∙ i.10,
    )
