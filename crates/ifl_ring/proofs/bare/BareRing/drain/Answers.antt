use Rattle.std.proofs.Common.{arith, ap, ◌∙◌, ◌+◌, ◌≡◌, ◌++◌, ℕ, sym, subst, refl, inl, []}
use Rattle.ifl_ringcore.specs.Counters.{nothing_counted}
use Rattle.ifl_ringcore.specs.declared.counters.Counters.{Counters}
use Rattle.ifl_base.specs.declared.word.Flag.{Flag}
use Rattle.ifl_ring.specs.Calls.{IsTotal}
use Rattle.ifl_ring.specs.Tally.{drain_rise}
use Rattle.ifl_ring.specs.Trails.{IsRelease, Trails}
use Rattle.ifl_ring.proofs.Trails.{drain-ends, drain_rise-total, lived, of_drain-round, released_in-append, released_in-release, trail-after, trail-none}
use Rattle.ifl_ring.proofs.bare.BareRing.drain.Goals as goal

pub loop-init : goal.loop-init
loop-init g c = let d = c.requires.drives in (refl, refl, c.requires.at.0, c.requires.at.1, ([], d.0, tt, sym d.1.0, trail-none _ _ c.requires.lived, inl (sym d.1.0), d.1.1, d.1.2))

pub round-done-requires-clause-lived : goal.round-done-requires-clause-lived
round-done-requires-clause-lived g c κs within = lived _ _ _ _ _ c.loop.invariant.4.4

pub round-done-requires-clause-drives : goal.round-done-requires-clause-drives
round-done-requires-clause-drives g c κs within = let i = c.loop.invariant.4 in (i.1, i.5, i.6)

pub returns-else-is_busy-clause-left : goal.returns-else-is_busy-clause-left
returns-else-is_busy-clause-left g c = let ne = c.is_busy.ensures.no c.if-is_busy.false in let l = c.round-done.ensures.left ne in (ne, l.0, l.1, l.2)

pub returns-else-is_busy-clause-trail : goal.returns-else-is_busy-clause-trail
returns-else-is_busy-clause-trail g c = let i = c.loop.invariant.4 in let ne = c.is_busy.ensures.no c.if-is_busy.false in let o = c.round-done.ensures.trail i.1 i.5 i.6 in
    let total : IsTotal c.round-done.result.total (i.1.consumer.total + o.0) = o.4 in
    let rise : drain_rise i.1.consumer.from c.round-done.result.flag (i.1.consumer.total + o.0) ≡ drain_rise c.args.from c.round-done.result.flag c.round-done.result.total =
    ap (λ (z : Flag). drain_rise z c.round-done.result.flag (i.1.consumer.total + o.0)) i.7 ∙ sym (drain_rise-total c.args.from c.round-done.result.flag c.round-done.result.total (i.1.consumer.total + o.0) total) in (
      i.0 ++ o.1,
      drain-ends c.round-done.result.flag c.round-done.result.total o.0 i.0 o.1 i.2 ne o.2 (subst (λ (z : ℕ). IsTotal c.round-done.result.total (z + o.0)) (sym i.3) total),
      subst (λ (z : Counters). Trails c.args.self.now.size c.args.seat.now.me.0.known (i.0 ++ o.1) z c.round-done.new.seat.me.0.known) rise (trail-after _ _ _ _ i.0 o.1 _ i.4 o.3),
    )

pub loop-preserved : goal.loop-preserved
loop-preserved g c = let i = c.loop.invariant.4 in let s = c.round-done.ensures.same in let busy = c.is_busy.ensures.yes c.if-is_busy.true in let o = c.round-done.ensures.trail i.1 i.5 i.6 in let on = o.5 busy in let x = on.2 in
    let quiet : drain_rise i.1.consumer.from c.round-done.result.flag (i.1.consumer.total + o.0) ≡ nothing_counted = ap (λ (z : Flag). drain_rise i.1.consumer.from z (i.1.consumer.total + o.0)) busy in
    let round : IsRelease c.round-done.result.flag o.0 o.1 = o.2 in (
      s.0 ∙ c.loop.invariant.0,
      s.1 ∙ c.loop.invariant.1,
      on.0,
      on.1,
      (
        i.0 ++ o.1,
        x.0,
        of_drain-round o.0 i.0 o.1 i.2 (subst (λ (z : Flag). IsRelease z o.0 o.1) busy round),
        (let a = released_in-append i.0 o.1 in let b = released_in-release c.round-done.result.flag o.0 o.1 round in let e = i.3 in let f = x.1 in omega arith),
        trail-after _ _ _ _ i.0 o.1 nothing_counted i.4 (subst (λ (z : Counters). Trails c.args.self.now.size c.loop.seat.me.0.known o.1 z c.round-done.new.seat.me.0.known) quiet o.3),
        subst (IsTotal c.round-done.result.total) (sym x.1) o.4,
        x.2,
        x.3 ∙ i.7,
      ),
    )
