use Rattle.std.proofs.Common.{rules, arith, sym, ap, ◌∙◌, refl, subst, [], ◌∷◌, length, ◌+◌, ◌≡◌}
use Rattle.ifl_ringcore.specs.State.{Consumer, first_state}
use Rattle.ifl_ringcore.specs.History.{state_after}
use Rattle.ifl_ring.specs.Seats.{entry}
use Rattle.ifl_ring.specs.Tells.{MayPart}
use Rattle.ifl_ring.proofs.Steps.{looks}
use Rattle.ifl_ring.proofs.Bridge.{look_sized}
use Rattle.std.proofs.Common.{◌++◌}
use Rattle.ifl_base.specs.Word.{pack}
use Rattle.ifl_ringcore.specs.declared.history.Entry.{Entry}
use Rattle.ifl_ring.specs.declared.view.Known.{Known}
use Rattle.ifl_ring.specs.Calls.{parting}
use Rattle.ifl_ring.specs.Tally.{drain_rise}
use Rattle.ifl_ring.specs.Trails.{Trails}
use Rattle.ifl_ring.proofs.Trails.{trail-after, trail-look, trail-none, trail-release}
use Rattle.ifl_ring.proofs.Settling.{parked_still, looked_busy, may_give, drives_on, drives_at}
use Rattle.ifl_ring.proofs.bare.BareRing.settle.Goals as goal

pub loop-init : goal.loop-init
loop-init g c = (refl, refl, ([], tt, trail-none _ _ c.requires.lived), λ p. (p, refl, refl, refl))

pub load-word-requires : goal.load-word-requires
load-word-requires g c = let p = (c.loop.invariant.3 c.requires.parked.0).0 in (c.loop.invariant.0 ∙ c.requires.table, search rules, looks g.D.Item.RingItem.meaning g.D.Drainer.origin g.D.Drainer.settled g.D.Drainer.full g.D.Drainer.stands_for _ _ _ _ p.still p.named)

pub read-w-requires-clause-word : goal.read-w-requires-clause-word
read-w-requires-clause-word g c = let t = look_sized c.args.self.now.table.shared.table_id.slots c.args.self.now.size c.load-word.result c.loop.seat.me c.load-word.new.seat.me c.args.self.now.sized.1 c.load-word.ensures.2 in (state_after first_state c.load-word.new.seat.me.0.known.seen, t.0.1)

pub flag_to_set-flag-requires-clause-n : goal.flag_to_set-flag-requires-clause-n
flag_to_set-flag-requires-clause-n g c = let t = look_sized c.args.self.now.table.shared.table_id.slots c.args.self.now.size c.load-word.result c.loop.seat.me c.load-word.new.seat.me c.args.self.now.sized.1 c.load-word.ensures.2 in let q = c.loop.invariant.3 c.requires.parked.0 in let r = parked_still g.D.Item.RingItem.meaning g.D.Drainer.origin g.D.Drainer.settled g.D.Drainer.full g.D.Drainer.stands_for c.args.self.now.size c.args.n c.load-word.result c.loop.seat.me c.load-word.new.seat.me t.0 t.1 t.2 q.0 in let range = c.args.self.now.range in let b = looked_busy g.D.Item.RingItem.meaning g.D.Drainer.origin g.D.Drainer.settled g.D.Drainer.full g.D.Drainer.stands_for c.args.self.now.size c.args.n c.load-word.result c.loop.seat.me c.load-word.new.seat.me c.read-w.result (omega arith) range.1 c.read-w.ensures.within c.read-w.ensures.packs t.0 r.0 in b.0

pub advance-at-requires-clause-n : goal.advance-at-requires-clause-n
advance-at-requires-clause-n g c = let t = look_sized c.args.self.now.table.shared.table_id.slots c.args.self.now.size c.load-word.result c.loop.seat.me c.load-word.new.seat.me c.args.self.now.sized.1 c.load-word.ensures.2 in let q = c.loop.invariant.3 c.requires.parked.0 in let r = parked_still g.D.Item.RingItem.meaning g.D.Drainer.origin g.D.Drainer.settled g.D.Drainer.full g.D.Drainer.stands_for c.args.self.now.size c.args.n c.load-word.result c.loop.seat.me c.load-word.new.seat.me t.0 t.1 t.2 q.0 in let range = c.args.self.now.range in let b = looked_busy g.D.Item.RingItem.meaning g.D.Drainer.origin g.D.Drainer.settled g.D.Drainer.full g.D.Drainer.stands_for c.args.self.now.size c.args.n c.load-word.result c.loop.seat.me c.load-word.new.seat.me c.read-w.result (omega arith) range.1 c.read-w.ensures.within c.read-w.ensures.packs t.0 r.0 in b.0

pub give-requires-clause-word : goal.give-requires-clause-word
give-requires-clause-word g c κs within = let t = look_sized c.args.self.now.table.shared.table_id.slots c.args.self.now.size c.load-word.result c.loop.seat.me c.load-word.new.seat.me c.args.self.now.sized.1 c.load-word.ensures.2 in let q = c.loop.invariant.3 c.requires.parked.0 in let r = parked_still g.D.Item.RingItem.meaning g.D.Drainer.origin g.D.Drainer.settled g.D.Drainer.full g.D.Drainer.stands_for c.args.self.now.size c.args.n c.load-word.result c.loop.seat.me c.load-word.new.seat.me t.0 t.1 t.2 q.0 in let range = c.args.self.now.range in let b = looked_busy g.D.Item.RingItem.meaning g.D.Drainer.origin g.D.Drainer.settled g.D.Drainer.full g.D.Drainer.stands_for c.args.self.now.size c.args.n c.load-word.result c.loop.seat.me c.load-word.new.seat.me c.read-w.result (omega arith) range.1 c.read-w.ensures.within c.read-w.ensures.packs t.0 r.0 in (c.read-w.ensures.within, b.1)

pub give-requires-clause-count : goal.give-requires-clause-count
give-requires-clause-count g c κs within = let t = look_sized c.args.self.now.table.shared.table_id.slots c.args.self.now.size c.load-word.result c.loop.seat.me c.load-word.new.seat.me c.args.self.now.sized.1 c.load-word.ensures.2 in let q = c.loop.invariant.3 c.requires.parked.0 in let r = parked_still g.D.Item.RingItem.meaning g.D.Drainer.origin g.D.Drainer.settled g.D.Drainer.full g.D.Drainer.stands_for c.args.self.now.size c.args.n c.load-word.result c.loop.seat.me c.load-word.new.seat.me t.0 t.1 t.2 q.0 in let range = c.args.self.now.range in let b = looked_busy g.D.Item.RingItem.meaning g.D.Drainer.origin g.D.Drainer.settled g.D.Drainer.full g.D.Drainer.stands_for c.args.self.now.size c.args.n c.load-word.result c.loop.seat.me c.load-word.new.seat.me c.read-w.result (omega arith) range.1 c.read-w.ensures.within c.read-w.ensures.packs t.0 r.0 in b.0

pub give-requires-clause-parked : goal.give-requires-clause-parked
give-requires-clause-parked g c κs within = let t = look_sized c.args.self.now.table.shared.table_id.slots c.args.self.now.size c.load-word.result c.loop.seat.me c.load-word.new.seat.me c.args.self.now.sized.1 c.load-word.ensures.2 in let q = c.loop.invariant.3 c.requires.parked.0 in let r = parked_still g.D.Item.RingItem.meaning g.D.Drainer.origin g.D.Drainer.settled g.D.Drainer.full g.D.Drainer.stands_for c.args.self.now.size c.args.n c.load-word.result c.loop.seat.me c.load-word.new.seat.me t.0 t.1 t.2 q.0 in let p = c.requires.parked.0 in
    let m = may_give c.args.stalled c.args.over (g.D.Drainer.full p.outlet.value.drainer) c.args.self.now.size c.args.n (length p.items) p.consumer c.read-w.result c.flag_to_set-flag.result c.flag_to_set-flag.ensures.stalled c.flag_to_set-flag.ensures.others c.requires.parked.1 c.requires.parked.2 p.all in (
      r.0,
      subst (λ (z : Consumer). MayPart c.args.self.now.size c.flag_to_set-flag.result c.args.n z c.read-w.result) (sym (r.1 ∙ q.1)) m.0,
      λ e. subst g.D.Drainer.full (sym (r.2 ∙ q.2)) (m.1 e),
    )

pub returns-then-give-clause-trail : goal.returns-then-give-clause-trail
returns-then-give-clause-trail g c = λ p. let t = look_sized c.args.self.now.table.shared.table_id.slots c.args.self.now.size c.load-word.result c.loop.seat.me c.load-word.new.seat.me c.args.self.now.sized.1 c.load-word.ensures.2 in let q = c.loop.invariant.3 p in let r = parked_still g.D.Item.RingItem.meaning g.D.Drainer.origin g.D.Drainer.settled g.D.Drainer.full g.D.Drainer.stands_for c.args.self.now.size c.args.n c.load-word.result c.loop.seat.me c.load-word.new.seat.me t.0 t.1 t.2 q.0 in
    let before = c.loop.invariant.2 in let one = trail-look _ _ _ _ _ _ before.1 before.2 q.0.named t.0.0 in
    let v : Known = c.load-word.new.seat.me.0.known in
    let two = trail-release c.args.self.now.size c.args.n (pack c.read-w.result) c.flag_to_set-flag.result v c.give.new.seat.me.0.known r.0.consumer r.0.named r.0.role (λ ne. (c.give.ensures.left c.if-give.true ne).0) (λ e. (c.give.ensures.on c.if-give.true e).0) in
    let last : Entry = entry v.number (pack c.read-w.result) (parting c.flag_to_set-flag.result c.args.n) in (
      one.0 ++ last ∷ [],
      record { looks = one.0; last = last; is = refl; quiet = one.1; parts = refl },
      subst (λ (z : Consumer). Trails c.args.self.now.size c.args.seat.now.me.0.known (one.0 ++ last ∷ []) (drain_rise z.from c.flag_to_set-flag.result (z.total + c.args.n)) c.give.new.seat.me.0.known) (r.1 ∙ q.1) (trail-after _ _ _ _ one.0 (last ∷ []) _ one.2 two),
    )

pub returns-then-give-clause-on : goal.returns-then-give-clause-on
returns-then-give-clause-on g c = λ p e. let t = look_sized c.args.self.now.table.shared.table_id.slots c.args.self.now.size c.load-word.result c.loop.seat.me c.load-word.new.seat.me c.args.self.now.sized.1 c.load-word.ensures.2 in let range = c.args.self.now.range in let q = c.loop.invariant.3 p in let r = parked_still g.D.Item.RingItem.meaning g.D.Drainer.origin g.D.Drainer.settled g.D.Drainer.full g.D.Drainer.stands_for c.args.self.now.size c.args.n c.load-word.result c.loop.seat.me c.load-word.new.seat.me t.0 t.1 t.2 q.0 in
    let u = c.give.ensures.on c.if-give.true e in
    let d = drives_on g.D.Item.RingItem.meaning g.D.Drainer.origin g.D.Drainer.settled g.D.Drainer.full g.D.Drainer.stands_for c.args.self.now.size c.args.n c.read-w.result c.load-word.new.seat.me c.give.new.seat.me (omega arith) range.1 c.read-w.ensures.within c.give.ensures.same.2 u.0 u.1 r.0 in
    let total = d.4 ∙ ap (λ (z : Consumer). z.total + c.args.n) (r.1 ∙ q.1) in let budget = d.5 ∙ ap (λ (z : Consumer). z.budget) (r.1 ∙ q.1) in let from = d.6 ∙ ap (λ (z : Consumer). z.from) (r.1 ∙ q.1) in
    let F : Consumer → Type 0 = λ d. (d.total ≡ p.consumer.total + c.args.n) × (d.budget ≡ p.consumer.budget) × (d.from ≡ p.consumer.from) in
    let u = drives_at g.D.Item.RingItem.meaning g.D.Drainer.origin g.D.Drainer.settled g.D.Drainer.full g.D.Drainer.stands_for _ _ _ _ _ F c.read-w.result _ c.advance-at.ensures d.2 c.distance.ensures.less d.3 c.distance.ensures.there d.1 (total, budget, from) in
    (search rules, c.distance.ensures.less, (u.0, u.1.0, u.1.1, u.1.2))

pub loop-preserved : goal.loop-preserved
loop-preserved g c = let t = look_sized c.args.self.now.table.shared.table_id.slots c.args.self.now.size c.load-word.result c.loop.seat.me c.load-word.new.seat.me c.args.self.now.sized.1 c.load-word.ensures.2 in let q = c.loop.invariant.3 c.requires.parked.0 in let r = parked_still g.D.Item.RingItem.meaning g.D.Drainer.origin g.D.Drainer.settled g.D.Drainer.full g.D.Drainer.stands_for c.args.self.now.size c.args.n c.load-word.result c.loop.seat.me c.load-word.new.seat.me t.0 t.1 t.2 q.0 in let v = c.loop.seat.me.0.known in let v' = c.load-word.new.seat.me.0.known in
    let before = c.loop.invariant.2 in let one = trail-look _ _ _ _ _ _ before.1 before.2 q.0.named t.0.0 in
    let x = c.give.ensures.looked c.if-give.false in
    let two = trail-look _ _ _ _ _ _ one.1 one.2 r.0.named x.1.0 in (
      c.give.ensures.same.0 ∙ (c.load-word.ensures.0 ∙ c.loop.invariant.0),
      c.give.ensures.same.1 ∙ (c.load-word.ensures.1 ∙ c.loop.invariant.1),
      two,
      λ p. let a = c.loop.invariant.3 p in let b = parked_still g.D.Item.RingItem.meaning g.D.Drainer.origin g.D.Drainer.settled g.D.Drainer.full g.D.Drainer.stands_for c.args.self.now.size c.args.n c.load-word.result c.loop.seat.me c.load-word.new.seat.me t.0 t.1 t.2 a.0 in
          let d = parked_still g.D.Item.RingItem.meaning g.D.Drainer.origin g.D.Drainer.settled g.D.Drainer.full g.D.Drainer.stands_for c.args.self.now.size c.args.n x.0 c.load-word.new.seat.me c.give.new.seat.me x.1 x.2 c.give.ensures.same.2 b.0 in
          (d.0, d.1 ∙ (b.1 ∙ a.1), d.2 ∙ (b.2 ∙ a.2), d.3 ∙ (b.3 ∙ a.3)),
    )
