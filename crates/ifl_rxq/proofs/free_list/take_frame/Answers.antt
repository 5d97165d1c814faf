use Rattle.std.proofs.Common.{◌≡◌, ℕ, suc, ◌∙◌, ap, sym, subst, arith, refl, false, List, [], length, take}
use lib.ListN.{get_elem?}
use Rattle.ifl_desc.specs.declared.desc.Desc.{Desc}
use Rattle.ifl_desc.specs.declared.history.Side.TheVariants.{Driver, Device}
use Rattle.ifl_desc.specs.declared.history.Event.{Event}
use Rattle.ifl_desc.specs.History.{sent, known}
use Rattle.ifl_desc.specs.Ends.{DriverSees}
use Rattle.ifl_desc.specs.Frames.{open_after}
use Rattle.ifl_desc.proofs.Splitting.{returned_open}
use Rattle.ifl_rxq.proofs.Splits.{take_whole}
use Rattle.ifl_rxq.proofs.Reclaiming.{Reclaiming, reclaiming_new, reclaiming_more, reclaiming_none}
use Rattle.ifl_rxq.proofs.free_list.take_frame.Goals as goal

pub loop-last-init : goal.loop-last-init
loop-last-init g c = let a : DriverSees = g.R.DescRing.driver_sees c.args.driver.now in
    (refl, c.requires.lawful, subst (λ (z : List Desc). Reclaiming (sent Device a.seen) a.back a.back z false) (sym c.requires.none) (reclaiming_new (sent Device a.seen) a.back), refl)

pub reclaim-requires : goal.reclaim-requires
reclaim-requires g c = ap (λ (z : DriverSees). z.ring) c.loop-last.invariant.0 ∙ c.requires.ring

pub returns-in_default-clause-none : goal.returns-in_default-clause-none
returns-in_default-clause-none g c =
    let a : DriverSees = g.R.DescRing.driver_sees c.args.driver.now in let b : DriverSees = g.R.DescRing.driver_sees c.loop-last.driver in let i = c.loop-last.invariant in
    let part : List Desc = c.loop-last.frame.items in let k = c.in_default.ensures.list in
    let all : b.back ≡ length (sent Device a.seen) = k.1 ∙ ap (λ (z : DriverSees). known Driver z.seen) i.0 ∙ c.requires.told in
    let t : Reclaiming (sent Device a.seen) a.back b.back part false = subst (Reclaiming (sent Device a.seen) a.back b.back part) c.loop-last-test.true i.2 in
    let ends : open_after 0 (take b.back (sent Device a.seen)) ≡ 0 = ap (λ (z : ℕ). open_after 0 (take z (sent Device a.seen))) all ∙ ap (open_after 0) (take_whole (sent Device a.seen)) ∙ returned_open a.seen c.requires.lawful.lawful.frames in
    let none : part ≡ [] = reclaiming_none (sent Device a.seen) a.back b.back part t c.requires.start ends in
    let l = ap length none in let n = t.count in
    (none, (let g : a.back ≡ length (sent Device a.seen) = omega arith in g))

pub returns-in_default-clause-same : goal.returns-in_default-clause-same
returns-in_default-clause-same g c =
    let a : DriverSees = g.R.DescRing.driver_sees c.args.driver.now in let b : DriverSees = g.R.DescRing.driver_sees c.loop-last.driver in let i = c.loop-last.invariant in
    let k = c.in_default.ensures.list in k.0 ∙ i.0 ∙ (λ j. record { ring = a.ring; seen = a.seen; pending = a.pending; back = i.2.count j })

pub push_reserved-requires : goal.push_reserved-requires
push_reserved-requires g c =
    let a : DriverSees = g.R.DescRing.driver_sees c.args.driver.now in let b : DriverSees = g.R.DescRing.driver_sees c.loop-last.driver in let i = c.loop-last.invariant in
    let k = c.in-Some.ensures.list in let n = i.2.count in let t = c.requires.told in let s = ap (λ (z : DriverSees). known Driver z.seen) i.0 in let m = k.1 in
    let cap = i.3 in let room = c.requires.room in let ok = c.loop-last.frame.ok in omega arith

pub loop-last-preserved : goal.loop-last-preserved
loop-last-preserved g c =
    let a : DriverSees = g.R.DescRing.driver_sees c.args.driver.now in let b : DriverSees = g.R.DescRing.driver_sees c.loop-last.driver in let i = c.loop-last.invariant in
    let part : List Desc = c.loop-last.frame.items in let d : Desc = c.in-Some.d in let k = c.in-Some.ensures.list in let e : DriverSees = g.R.DescRing.driver_sees c.reclaim.new.end in
    let same : b.seen ≡ a.seen = ap (λ (z : DriverSees). z.seen) i.0 in
    let t : Reclaiming (sent Device a.seen) a.back b.back part false = subst (Reclaiming (sent Device a.seen) a.back b.back part) c.loop-last-test.true i.2 in
    let more = reclaiming_more (sent Device a.seen) a.back b.back part t d (ap (λ (z : List Event). get_elem? (sent Device z) b.back) (sym same) ∙ k.2) in
    let next : suc b.back ≡ e.back = sym (ap (λ (z : DriverSees). z.back) k.0) in (
      k.0 ∙ (λ j. record { ring = (i.0 j).ring; seen = (i.0 j).seen; pending = (i.0 j).pending; back = next j }),
      c.reclaim.ensures.lawful,
      subst (λ (z : ℕ × List Desc). Reclaiming (sent Device a.seen) a.back z.0 z.1 d.last) (λ j. (next j, sym c.push_reserved.ensures.items j)) more,
      c.push_reserved.ensures.capacity ∙ i.3,
    )

pub returns-clause-same : goal.returns-clause-same
returns-clause-same g c =
    let a : DriverSees = g.R.DescRing.driver_sees c.args.driver.now in let i = c.loop-last.invariant in i.0 ∙ (λ j. record { ring = a.ring; seen = a.seen; pending = a.pending; back = i.2.count j })
