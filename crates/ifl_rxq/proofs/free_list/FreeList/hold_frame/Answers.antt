use Rattle.std.proofs.Common.{◌≡◌, ◌∙◌, ap, sym, subst, arith, [], length}
use Rattle.ifl_desc.specs.Ends.{DriverSees}
use Rattle.ifl_rxq.specs.FreeLists.{FreeSees, IsFreeList, Holds, free_list_of}
use Rattle.std.proofs.Common.{rules, true, false, eq-eqb}
use Rattle.std.specs.Prelude.{vec_len}
use Rattle.std.specs.Bool.{OnTrue, OnFalse}
use Rattle.ifl_desc.specs.Frames.{IsWholeFrame}
use Rattle.ifl_rxq.specs.FreeLists.{IsCaughtUp}
use Rattle.ifl_rxq.proofs.Trying.{held_by, holds_same, whole_held, start_open, frame_room}
use Rattle.ifl_rxq.proofs.free_list.FreeList.hold_frame.Goals as goal

pub take_frame-requires-clause-start : goal.take_frame-requires-clause-start
take_frame-requires-clause-start g c _ _ = let a : FreeSees = free_list_of (g.R.DescRing.ring c.self.inside.ring.now) c.self.inside.pool.now c.self.inside.copy_break (g.R.DescRing.driver_sees c.self.inside.driver) c.self.inside.pass.known (length c.self.inside.kept.items) c.self.inside.frame.items c.self.inside.host c.self.inside.delivered c.self.inside.copied in
    let k : IsFreeList a = c.self.invariant.0 in let none : c.self.inside.frame.items ≡ [] = search rules in start_open a k none

pub take_frame-requires-clause-room : goal.take_frame-requires-clause-room
take_frame-requires-clause-room g c _ _ = let a : FreeSees = free_list_of (g.R.DescRing.ring c.self.inside.ring.now) c.self.inside.pool.now c.self.inside.copy_break (g.R.DescRing.driver_sees c.self.inside.driver) c.self.inside.pass.known (length c.self.inside.kept.items) c.self.inside.frame.items c.self.inside.host c.self.inside.delivered c.self.inside.copied in
    let k : IsFreeList a = c.self.invariant.0 in let r = frame_room a k in let h = c.self.invariant.2.descriptors in omega arith

pub invariant_of-self : goal.invariant_of-self
invariant_of-self g c = let a : FreeSees = free_list_of (g.R.DescRing.ring c.self.inside.ring.now) c.self.inside.pool.now c.self.inside.copy_break (g.R.DescRing.driver_sees c.self.inside.driver) c.self.inside.pass.known (length c.self.inside.kept.items) c.self.inside.frame.items c.self.inside.host c.self.inside.delivered c.self.inside.copied in
    let k : IsFreeList a = c.self.invariant.0 in let none : c.self.inside.frame.items ≡ [] = search rules in let t = c.take_frame.ensures in let e : DriverSees = g.R.DescRing.driver_sees c.take_frame.new.driver in
    let by = held_by a k c.take_frame.result c.take_frame.new.frame.items e none t.same t.lawful t.taken t.none in
    let b : FreeSees = free_list_of a.ring a.pool a.copy_break e a.pass a.kept c.take_frame.new.frame.items a.host a.delivered a.copied in (by.0, c.self.invariant.1, record { clusters = c.self.invariant.2.clusters; descriptors = (let o = t.capacity in let r = c.self.invariant.2.descriptors in omega arith); host_small = c.self.invariant.2.host_small })

pub returns-then-is_empty-clause-held : goal.returns-then-is_empty-clause-held
returns-then-is_empty-clause-held g c = let a : FreeSees = free_list_of (g.R.DescRing.ring c.self.inside.ring.now) c.self.inside.pool.now c.self.inside.copy_break (g.R.DescRing.driver_sees c.self.inside.driver) c.self.inside.pass.known (length c.self.inside.kept.items) c.self.inside.frame.items c.self.inside.host c.self.inside.delivered c.self.inside.copied in
    let k : IsFreeList a = c.self.invariant.0 in let none : c.self.inside.frame.items ≡ [] = search rules in let t = c.take_frame.ensures in let e : DriverSees = g.R.DescRing.driver_sees c.take_frame.new.driver in
    let by = held_by a k c.take_frame.result c.take_frame.new.frame.items e none t.same t.lawful t.taken t.none in
    let b : FreeSees = free_list_of a.ring a.pool a.copy_break e a.pass a.kept c.take_frame.new.frame.items a.host a.delivered a.copied in subst (λ (z : FreeSees). OnTrue c.take_frame.result (Holds z b × IsWholeFrame b.held)) c.self.view_is by.1

pub returns-then-is_empty-clause-none : goal.returns-then-is_empty-clause-none
returns-then-is_empty-clause-none g c = let a : FreeSees = free_list_of (g.R.DescRing.ring c.self.inside.ring.now) c.self.inside.pool.now c.self.inside.copy_break (g.R.DescRing.driver_sees c.self.inside.driver) c.self.inside.pass.known (length c.self.inside.kept.items) c.self.inside.frame.items c.self.inside.host c.self.inside.delivered c.self.inside.copied in
    let k : IsFreeList a = c.self.invariant.0 in let none : c.self.inside.frame.items ≡ [] = search rules in let t = c.take_frame.ensures in let e : DriverSees = g.R.DescRing.driver_sees c.take_frame.new.driver in
    let by = held_by a k c.take_frame.result c.take_frame.new.frame.items e none t.same t.lawful t.taken t.none in
    let b : FreeSees = free_list_of a.ring a.pool a.copy_break e a.pass a.kept c.take_frame.new.frame.items a.host a.delivered a.copied in subst (λ (z : FreeSees). OnFalse c.take_frame.result (Holds z b × IsCaughtUp b)) c.self.view_is by.2

pub returns-clause-held : goal.returns-clause-held
returns-clause-held g c = let a : FreeSees = free_list_of (g.R.DescRing.ring c.self.inside.ring.now) c.self.inside.pool.now c.self.inside.copy_break (g.R.DescRing.driver_sees c.self.inside.driver) c.self.inside.pass.known (length c.self.inside.kept.items) c.self.inside.frame.items c.self.inside.host c.self.inside.delivered c.self.inside.copied in
    let k : IsFreeList a = c.self.invariant.0 in let w : IsWholeFrame a.held = whole_held a.held k.whole (λ e. absurd (let l = ap length e in let ok = c.self.inside.frame.ok in let z : vec_len c.self.inside.frame ≡ 0 = omega arith in let x : true ≡ false = sym (eq-eqb (vec_len c.self.inside.frame) 0 z) ∙ sym c.is_empty.ensures ∙ c.if-is_empty.false in cc)) in
    (holds_same c.args.self.now, subst (λ (z : FreeSees). IsWholeFrame z.held) c.self.view_is w)
