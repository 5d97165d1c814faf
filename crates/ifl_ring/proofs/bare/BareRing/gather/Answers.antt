use Rattle.std.proofs.Common.{arith, ap, ◌∙◌, refl, length, length-append, ◌∷◌, [], mod-lt, ◌+◌, ◌<◌}
use Rattle.ifl_ring.proofs.Gathering.{gather_none, first_item, gather_one}
use Rattle.ifl_ring.proofs.bare.BareRing.gather.Goals as goal

pub take_item-item-requires-clause-slot : goal.take_item-item-requires-clause-slot
take_item-item-requires-clause-slot g c κs within = let f = c.requires.front in first_item _ f.start f.items f.behind _ _ _ _ _ (c.loop-more.invariant.6 f) (omega arith)

pub loop-more-preserved : goal.loop-more-preserved
loop-more-preserved g c = let i = c.loop-more.invariant in let pos = mod-lt (c.loop-more.slot + 1) (let r = c.args.self.now.range in let f : 0 < c.args.self.now.size = omega arith in f) in (
  c.take_item-item.ensures.same.0 ∙ i.0,
  c.take_item-item.ensures.same.1 ∙ i.1,
  ap (λ z. z.0) c.take_item-item.ensures.turned ∙ i.2,
  c.push_back_reserved.ensures.capacity ∙ i.3,
  rw c.advance-slot.ensures pos,
  (let a = ap length c.push_back_reserved.ensures.items in let b = length-append c.loop-more.batch.items (c.take_item-item.result ∷ []) in omega arith),
  λ front. gather_one _ front.start front.items front.behind _ _ _ _ _ _ _ _ _ c.take_item-item.result (i.6 front) (omega arith) c.take_item-item.ensures.item (ap (λ z. z.1) c.take_item-item.ensures.turned) c.push_back_reserved.ensures.items c.advance-slot.ensures refl,
)

pub loop-more-init : goal.loop-more-init
loop-more-init g c = (refl, refl, refl, refl, c.requires.at, c.requires.few, λ front. gather_none _ front.start front.items front.behind _ _ _ _ front.count front.here front.is)
