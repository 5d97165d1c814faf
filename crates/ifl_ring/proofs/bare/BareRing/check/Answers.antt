use Rattle.std.proofs.Common.{rules, arith, sym, ap, ◌∙◌, refl, [], ◌∷◌, ℕ}
use Rattle.ifl_base.specs.Word.{pack}
use Rattle.ifl_ringcore.specs.Counters.{nothing_counted}
use Rattle.ifl_ringcore.specs.declared.history.Entry.{Entry}
use Rattle.ifl_ringcore.specs.declared.history.Step.TheVariants.{Look, TakeOver}
use Rattle.ifl_ring.specs.declared.view.Known.{Known}
use Rattle.ifl_ring.specs.Tally.{drain_rise}
use Rattle.ifl_ring.specs.Seats.{entry}
use Rattle.ifl_ring.proofs.Rests.{rests_after_look}
use Rattle.ifl_ring.proofs.Settling.{over_taken}
use Rattle.ifl_ring.proofs.Rising.{rises-nothing}
use Rattle.ifl_ring.proofs.Trails.{lived-made, trail-after, trail-made}
use Rattle.ifl_ring.proofs.bare.BareRing.check.Goals as goal

pub drain-left-requires-clause-lived : goal.drain-left-requires-clause-lived
drain-left-requires-clause-lived g c κs within = let o = c.in-Ok.ensures.ok in lived-made _ _ _ _ c.look-seen.ensures.rest.0.named o.1.made

pub drain-left-requires-clause-drives : goal.drain-left-requires-clause-drives
drain-left-requires-clause-drives g c κs within = let range = c.args.self.now.range in let o = c.in-Ok.ensures.ok in
    over_taken g.D.Item.RingItem.meaning g.D.Drainer.origin g.D.Drainer.settled g.D.Drainer.full g.D.Drainer.stands_for c.args.self.now.size c.args.budget c.look-seen.result c.look-seen.new.seat.me c.take_over.new.seat.me _ _ (omega arith) range.1 (search rules) c.look-seen.ensures.rest.0.named o.0 o.1 o.2 refl c.distance-items.ensures.less c.distance-items.ensures.there

pub returns-in-Err-clause-rest : goal.returns-in-Err-clause-rest
returns-in-Err-clause-rest g c = let e = c.in-Err.ensures.err in let rest = c.look-seen.ensures.rest in (rests_after_look _ _ _ _ rest.0 e.0, e.2.0, e.1 ∙ rest.2)

pub returns-in-Err-clause-trail : goal.returns-in-Err-clause-trail
returns-in-Err-clause-trail g c = let size : ℕ = c.args.self.now.size in let v : Known = c.args.seat.now.me.0.known in let v1 : Known = c.look-seen.new.seat.me.0.known in let v2 : Known = c.take_over.new.seat.me.0.known in
    let look = c.look-seen.ensures.look in let e = c.in-Err.ensures.err in
    let one : Entry = entry v.number (pack c.look-seen.result) Look in let two : Entry = entry v1.number c.in-Err.found Look in
    let packs = c.read.ensures.packs in (
      one ∷ two ∷ [],
      nothing_counted,
      (c.look-seen.result, one, two, refl, (refl, refl), c.is_left.ensures.yes c.if-is_left.true, (refl, sym packs), λ same. e.3 (sym packs ∙ ap pack same)),
      trail-after size v v1 v2 (one ∷ []) (two ∷ []) nothing_counted (trail-made size v one v1 c.requires.rest.0.named look.0) (trail-made size v1 two v2 c.look-seen.ensures.rest.0.named e.0.0),
      rises-nothing _,
    )

pub returns-in-Ok-clause-trail : goal.returns-in-Ok-clause-trail
returns-in-Ok-clause-trail g c = let size : ℕ = c.args.self.now.size in let v : Known = c.args.seat.now.me.0.known in let v1 : Known = c.look-seen.new.seat.me.0.known in let v2 : Known = c.take_over.new.seat.me.0.known in
    let look = c.look-seen.ensures.look in let o = c.in-Ok.ensures.ok in let d = c.drain-left.ensures.trail in
    let one : Entry = entry v.number (pack c.look-seen.result) Look in let two : Entry = entry v1.number (pack c.look-seen.result) (TakeOver c.args.budget) in (
      one ∷ two ∷ d.0,
      drain_rise c.look-seen.result.flag c.drain-left.result.0 c.drain-left.result.1,
      (c.look-seen.result, one, two, d.0, refl, (refl, refl), c.is_left.ensures.yes c.if-is_left.true, (refl, refl), d.1),
      trail-after size v v1 _ (one ∷ []) (two ∷ d.0) _ (trail-made size v one v1 c.requires.rest.0.named look.0)
          (trail-after size v1 v2 _ (two ∷ []) d.0 _ (trail-made size v1 two v2 c.look-seen.ensures.rest.0.named o.1.made) d.2),
      c.count_drained.ensures,
    )

pub returns-else-is_left-clause-trail : goal.returns-else-is_left-clause-trail
returns-else-is_left-clause-trail g c = let size : ℕ = c.args.self.now.size in let v : Known = c.args.seat.now.me.0.known in let v1 : Known = c.look-seen.new.seat.me.0.known in let look = c.look-seen.ensures.look in
    let one : Entry = entry v.number (pack c.look-seen.result) Look in (
      one ∷ [],
      nothing_counted,
      (one, refl, (refl, refl), c.is_left.ensures.no c.if-is_left.false),
      trail-made size v one v1 c.requires.rest.0.named look.0,
      rises-nothing _,
    )
