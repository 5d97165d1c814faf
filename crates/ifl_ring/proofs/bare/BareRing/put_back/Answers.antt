use Rattle.std.proofs.Common.{arith, ap, ◌∙◌, ◌+◌, ◌<◌, refl, mod-lt}
use Rattle.ifl_ring.proofs.Offering.{back_none, back_front, back_one}
use Rattle.ifl_ring.proofs.bare.BareRing.put_back.Goals as goal

pub loop-item-init : goal.loop-item-init
loop-item-init g c = (refl, refl, refl, refl, c.requires.at, λ a d here is. back_none _ a d _ _ _ here is)

pub refill-requires-clause-slot : goal.refill-requires-clause-slot
refill-requires-clause-slot g c κs within = let f = c.requires.front in back_front _ f.0 f.1 _ _ _ _ _ _ (c.loop-item.invariant.5 f.0 f.1 f.2 f.3) c.in-Some.ensures.items

pub loop-item-preserved : goal.loop-item-preserved
loop-item-preserved g c = let i = c.loop-item.invariant in let e = c.refill.ensures.filled in let pos = mod-lt (c.loop-item.slot + 1) (let r = c.args.self.now.range in let f : 0 < c.args.self.now.size = omega arith in f) in (
  c.refill.ensures.same.0 ∙ i.0,
  c.refill.ensures.same.1 ∙ i.1,
  ap (λ z. z.0) e ∙ i.2,
  c.pop_front.ensures.capacity ∙ i.3,
  rw c.advance-slot.ensures pos,
  λ a d here is. back_one _ a d _ _ _ _ _ _ _ c.in-Some.item (i.5 a d here is) c.in-Some.ensures.items (ap (λ z. z.1) e) c.advance-slot.ensures,
)
