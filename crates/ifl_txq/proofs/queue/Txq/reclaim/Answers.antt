use Rattle.std.proofs.Common.{◌≡◌, ◌+◌, cond, Bool, List, length, drop, sym, ap, ◌∙◌, subst, arith}
use Rattle.ifl_ringcore.specs.declared.history.Meaning.{Meaning}
use Rattle.atomic_table.specs.Seated.{TableId}
use Rattle.ifl_desc.specs.Ends.{DriverSees}
use Rattle.ifl_txq.specs.Frames.{fates_of}
use Rattle.ifl_txq.specs.Queue.{QueueSees, IsQueue, origin_of, reclaimed_list}
use Rattle.ifl_txq.specs.Standing.{QueueStandsFor}
use Rattle.ifl_txq.specs.Calls.{Reclaimed}
use Rattle.ifl_txq.proofs.Moves.{looked_back_stands}
use Rattle.ifl_txq.proofs.Loops.{reclaiming_new, reclaiming_more, reclaimed_all, frames_bound}
use Rattle.ifl_txq.proofs.queue.Txq.reclaim.Goals as goal

pub loop-last-init : goal.loop-last-init
loop-last-init g c = reclaiming_new c.look_back.new.self c.look_back.ensures.lawful

pub loop-last-preserved-then-last : goal.loop-last-preserved-then-last
loop-last-preserved-then-last g c =
    reclaiming_more c.look_back.new.self c.loop-last.self c.take_back.new.self c.loop-last.frames c.loop-last.invariant c.in-Some.last c.in-Some.ensures.took c.take_back.ensures.lawful (c.loop-last.frames + 1)
    (ap (λ (z : Bool). c.loop-last.frames + cond z 1 0) (sym c.if-last.true))

pub loop-last-preserved : goal.loop-last-preserved
loop-last-preserved g c =
    reclaiming_more c.look_back.new.self c.loop-last.self c.take_back.new.self c.loop-last.frames c.loop-last.invariant c.in-Some.last c.in-Some.ensures.took c.take_back.ensures.lawful c.loop-last.frames
    ((let h : c.loop-last.frames ≡ c.loop-last.frames + 0 = omega arith in h) ∙ ap (λ (z : Bool). c.loop-last.frames + cond z 1 0) (sym c.if-last.false))

pub overflow_add-frames : goal.overflow_add-frames
overflow_add-frames g c =
    let b = frames_bound c.look_back.new.self c.loop-last.self c.loop-last.frames c.look_back.ensures.lawful c.loop-last.invariant in
    let e : c.look_back.new.self.driver.ring.slots ≡ c.slots-slots.result = ap (λ (z : TableId). z.slots) (c.look_back.ensures.lawful.of_ring ∙ ap (λ (z : QueueSees). z.ring) c.look_back.ensures.looked.1 ∙ sym (ap (λ (z : QueueSees). z.ring) c.self.view_is)) ∙ sym c.slots-slots.ensures in
    let t = c.slots-slots.type_inv in omega arith

pub returns-clause-did : goal.returns-clause-did
returns-clause-did g c = let t = c.in_default.ensures.took in
    subst (λ (z : QueueSees). Reclaimed c.args.self.now z) (sym t.0) (reclaimed_all c.args.self.now c.look_back.new.self c.loop-last.self c.loop-last.frames c.look_back.ensures.looked c.loop-last.invariant t.1)

pub returns-clause-stands : goal.returns-clause-stands
returns-clause-stands g c = let t = c.in_default.ensures.took in
    λ (ms : List Meaning) (s : QueueStandsFor c.args.self.now ms). subst (λ (z : QueueSees). QueueStandsFor z ms) (sym t.0)
    (c.loop-last.invariant.stands ms (looked_back_stands c.args.self.now c.look_back.new.self (subst IsQueue c.self.view_is c.self.invariant) c.look_back.ensures.looked ms s))

pub returns-clause-origin : goal.returns-clause-origin
returns-clause-origin g c = let t = c.in_default.ensures.took in
    ap origin_of t.0 ∙ c.loop-last.invariant.origin ∙ ap origin_of c.look_back.ensures.looked.1

pub returns-clause-frames : goal.returns-clause-frames
returns-clause-frames g c = let t = c.in_default.ensures.took in
    let back : c.look_back.new.self.driver.back ≡ c.args.self.now.driver.back = ap (λ (z : DriverSees). z.back) c.look_back.ensures.looked.0.1.same in
    c.loop-last.invariant.frames_are ∙ (λ i. length (fates_of (drop (back i) (reclaimed_list (sym t.0 i).driver))))
