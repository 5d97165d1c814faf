use Rattle.std.proofs.Common.{◌∙◌, ◌++◌, ◌%◌, [], refl, ap, sym, subst, map, ℕ}
use Rattle.ifl_ringcore.specs.Counters.{nothing_counted}
use Rattle.ifl_ring.specs.Acts.{items_in}
use Rattle.ifl_ring.specs.Publishing.{IsPublished}
use Rattle.ifl_ring.proofs.Bridge.{held_still}
use Rattle.ifl_ring.proofs.Trails.{looks-append, lived, trail-after, trail-look, trail-none}
use Rattle.ifl_ring.proofs.bare.BareRing.publish_at_turn.Goals as goal

pub look_again-w-requires-clause-named : goal.look_again-w-requires-clause-named
look_again-w-requires-clause-named g c κs within = let h = c.requires.held.0 in (h.named, h.still)

pub loop-init : goal.loop-init
loop-init g c = let s = c.look_again-w.ensures.same in let x = c.look_again-w.ensures.look in let held = c.requires.held in
    let one = trail-look _ _ _ _ [] _ tt (trail-none _ _ c.requires.lived) held.0.named x.0 in
    let h = held_still c.args.self.now.size c.args.n _ c.args.seat.now.me c.look_again-w.new.seat.me held.0 (x, s.2, s.3) in (
      refl,
      refl,
      refl,
      (h.0, held.1 ∙ ap (λ (z : ℕ). z % c.args.self.now.size) (sym h.1)),
      ([], tt, trail-none _ _ (lived _ _ _ _ _ one.2)),
      c.look_again-w.ensures.within,
    )

pub publish-requires-clause-turn : goal.publish-requires-clause-turn
publish-requires-clause-turn g c κs within = let h = c.loop.invariant.3 in (h.0, c.if-w-place.true ∙ h.1)

pub publish-requires-clause-word : goal.publish-requires-clause-word
publish-requires-clause-word g c κs within = c.loop.invariant.5

pub returns-in-Ok-clause-within : goal.returns-in-Ok-clause-within
returns-in-Ok-clause-within g c = c.loop.invariant.5

pub returns-in-Ok-clause-published : goal.returns-in-Ok-clause-published
returns-in-Ok-clause-published g c = let i = c.loop.invariant in let s = c.look_again-w.ensures.same in
    let one = trail-look _ _ _ _ [] _ tt (trail-none _ _ c.requires.lived) c.requires.held.0.named c.look_again-w.ensures.look.0 in (
      one.0 ++ i.4.0,
      c.loop.seat.me.0.known,
      looks-append one.0 i.4.0 one.1 i.4.1,
      trail-after _ _ _ _ one.0 i.4.0 nothing_counted one.2 i.4.2,
      subst (λ z. IsPublished c.args.self.now.size c.args.budget c.args.n c.args.abdicate (map g.D.Item.RingItem.meaning (items_in z)) c.loop.w c.loop.seat.me.0.known c.in-Ok.published c.publish.new.seat.me.0.known) (i.2 ∙ s.2) c.in-Ok.ensures.ok.0,
    )

pub loop-preserved-in-Err : goal.loop-preserved-in-Err
loop-preserved-in-Err g c = let i = c.loop.invariant in let s = c.publish.ensures.same in let x = c.in-Err.ensures.err in
    let h = held_still c.args.self.now.size c.args.n c.in-Err.found c.loop.seat.me c.publish.new.seat.me i.3.0 x in (
      s.0 ∙ i.0,
      s.1 ∙ i.1,
      x.1 ∙ i.2,
      (h.0, i.3.1 ∙ ap (λ (z : ℕ). z % c.args.self.now.size) (sym h.1)),
      trail-look _ _ _ _ i.4.0 _ i.4.1 i.4.2 i.3.0.named x.0.0,
      c.read-w.ensures.within,
    )

pub loop-preserved : goal.loop-preserved
loop-preserved g c = let i = c.loop.invariant in let s = c.look_again-w-else-w-place.ensures.same in let x = c.look_again-w-else-w-place.ensures.look in
    let h = held_still c.args.self.now.size c.args.n _ c.loop.seat.me c.look_again-w-else-w-place.new.seat.me i.3.0 (x, s.2, s.3) in (
      s.0 ∙ i.0,
      s.1 ∙ i.1,
      s.2 ∙ i.2,
      (h.0, i.3.1 ∙ ap (λ (z : ℕ). z % c.args.self.now.size) (sym h.1)),
      trail-look _ _ _ _ i.4.0 _ i.4.1 i.4.2 i.3.0.named x.0,
      c.look_again-w-else-w-place.ensures.within,
    )
