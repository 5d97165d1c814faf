use Rattle.std.proofs.Common.{arith, Bool, ℕ, sym, subst, map, List, ◌∙◌}
use Rattle.ifl_ringcore.specs.declared.history.Meaning.{Meaning}
use Rattle.ifl_ring.specs.Acts.{items_in}
use Rattle.ifl_ring.specs.Publishing.{IsPublished}
use Rattle.ifl_ring.specs.declared.published.Published.TheVariants.{Behind, Abdicated, Elected}
use Rattle.ifl_ring.specs.declared.view.Known.{Known}
use Rattle.ifl_ring.specs.Seats.{Has}
use Rattle.ifl_ring.proofs.Enqueueing.{count-held, published-abdicating, published-behind, published-elected}
use Rattle.ifl_ring.proofs.Settling.{over_elected}
use Rattle.ifl_ring.proofs.bare.BareRing.publish.Goals as goal

pub returns-then-abdicate-clause-ok : goal.returns-then-abdicate-clause-ok
returns-then-abdicate-clause-ok g c = let o = c.in_ok-publish_abdicating.ensures.ok in let h = c.requires.turn.0 in let size : ℕ = c.args.self.now.size in
    let xs : List Meaning = map g.D.Item.RingItem.meaning (items_in c.args.seat.now.me.1) in let v : Known = c.args.seat.now.me.0.known in let v' : Known = c.publish_abdicating.new.seat.me.0.known in (
      subst (λ (z : Bool). IsPublished size c.args.budget c.args.n z xs c.args.w.now v Abdicated v') (sym c.if-abdicate.true)
          (published-abdicating size c.args.budget c.args.n xs c.args.w.now v v' h.named (count-held g.D.Item.RingItem.meaning size c.args.n c.args.seat.now.me h) o.1.made),
      (record { named = subst (λ (z : Known). Has z.number z.stands) (sym o.1.made.is) h.named; role = o.1.role }, o.0.0, o.2),
    )

pub returns-then-is_busy-clause-ok : goal.returns-then-is_busy-clause-ok
returns-then-is_busy-clause-ok g c = let o = c.in_ok-publish_behind.ensures.ok in let h = c.requires.turn.0 in let size : ℕ = c.args.self.now.size in
    let xs : List Meaning = map g.D.Item.RingItem.meaning (items_in c.args.seat.now.me.1) in let v : Known = c.args.seat.now.me.0.known in let v' : Known = c.publish_behind.new.seat.me.0.known in (
      subst (λ (z : Bool). IsPublished size c.args.budget c.args.n z xs c.args.w.now v Behind v') (sym c.if-abdicate.false)
          (published-behind size c.args.budget c.args.n xs c.args.w.now v v' h.named (count-held g.D.Item.RingItem.meaning size c.args.n c.args.seat.now.me h) o.1.made),
      (record { named = subst (λ (z : Known). Has z.number z.stands) (sym o.1.made.is) h.named; role = o.1.role }, o.0.0, o.2),
    )

pub returns-clause-ok : goal.returns-clause-ok
returns-clause-ok g c = let o = c.in_ok-publish_elected.ensures.ok in let h = c.requires.turn.0 in let size : ℕ = c.args.self.now.size in let range = c.args.self.now.range in
    let xs : List Meaning = map g.D.Item.RingItem.meaning (items_in c.args.seat.now.me.1) in let v : Known = c.args.seat.now.me.0.known in let v' : Known = c.publish_elected.new.seat.me.0.known in
    let count = count-held g.D.Item.RingItem.meaning size c.args.n c.args.seat.now.me h in (
      subst (λ (z : Bool). IsPublished size c.args.budget c.args.n z xs c.args.w.now v (Elected c.distance-items.result) v') (sym c.if-abdicate.false)
          (published-elected size c.args.budget c.args.n xs c.args.w.now v v' h.named count c.distance-items.result (omega arith) range.1 c.requires.word o.1.made),
      (
        c.distance-items.ensures.less,
        over_elected g.D.Item.RingItem.meaning g.D.Drainer.origin g.D.Drainer.settled g.D.Drainer.full g.D.Drainer.stands_for size c.args.budget c.args.n xs c.args.w.now c.args.seat.now.me c.publish_elected.new.seat.me c.distance-items.result (omega arith) range.1 c.requires.word h.named o.0 o.1 o.2 count c.distance-items.ensures.less (c.distance-items.ensures.there ∙ c.advance.ensures),
      ),
    )
