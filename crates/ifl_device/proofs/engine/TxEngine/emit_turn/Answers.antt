use Rattle.std.proofs.Common.{◌≡◌, ℕ, ◌%◌, ◌∙◌, ap, sym, subst, arith, inl, inr}
use Rattle.ifl_desc.specs.declared.desc.Status.TheVariants.{Emitted}
use Rattle.ifl_desc.specs.declared.history.Side.TheVariants.{Device}
use Rattle.ifl_desc.specs.History.{known}
use Rattle.ifl_device.specs.Engine.{EngineSees}
use Rattle.ifl_device.specs.Turns.{Moves}
use Rattle.ifl_device.proofs.Moves.{moves_on, moves_stop, moves_not, full_by_itself, may_emit, stops_sooner}
use Rattle.ifl_device.proofs.engine.TxEngine.emit_turn.Goals as goal

pub loop-moved-init : goal.loop-moved-init
loop-moved-init g c = moves_not Emitted c.args.self.now c.look.new.self c.look.ensures.looked (c.look.ensures.returned Emitted) c.look.ensures.told c.look.ensures.lawful c.look.ensures.held

pub try_frame-requires-clause-may : goal.try_frame-requires-clause-may
try_frame-requires-clause-may g c _ _ = may_emit c.args.self.now c.loop-moved.self c.limit-limit.result c.loop-moved.moved c.requires.point c.limit-limit.ensures.stops c.loop-moved-test.true c.loop-moved.invariant

pub loop-moved-preserved : goal.loop-moved-preserved
loop-moved-preserved g c = let t = c.in-Sent.ensures.tried in moves_on Emitted c.args.self.now c.loop-moved.self c.try_frame.new.self c.loop-moved.moved c.loop-moved.invariant t.0 t.1 t.2 t.3 c.try_frame.ensures.lawful

pub returns-then-moved-gt0-clause-did : goal.returns-then-moved-gt0-clause-did
returns-then-moved-gt0-clause-did g c = let t = c.in-Empty.ensures.tried in let lt = c.loop-moved-test.true in let l = c.limit-limit.ensures.some.1 in (
  c.requires.point,
  c.if-moved-gt0.true,
  (omega arith),
  subst (Moves Emitted c.loop-moved.moved c.args.self.now) (sym t.0) c.loop-moved.invariant.moves,
  stops_sooner c.args.self.now.plan c.args.self.now.emitted c.limit-limit.result c.loop-moved.moved c.limit-limit.ensures.stops (omega arith),
  (λ _. inl t.1),
  λ _. t.1.0,
)

pub returns-in-Empty-clause-did : goal.returns-in-Empty-clause-did
returns-in-Empty-clause-did g c = let t = c.in-Empty.ensures.tried in let b : EngineSees = c.try_frame.new.self in
    let none : c.loop-moved.moved ≡ 0 = (let n = c.if-moved-gt0.false in omega arith) in let first = c.loop-moved.invariant.first none in (
      (
        sym first.0 ∙ ap (λ (z : EngineSees). z.held) (sym t.0) ∙ t.1.0,
        t.1,
        ap (λ (z : EngineSees). z.device.fetched) t.0 ∙ first.1,
        c.doorbell.ensures.number ∙ ap (λ (z : EngineSees). known Device z.device.seen % z.ring.slots) c.self.view_is ∙ ap (λ (i : ℕ). i % b.ring.slots) (sym t.1.1),
      ),
      inr (c.requires.point, subst (λ (z : ℕ × EngineSees). Moves Emitted z.0 c.args.self.now z.1) (λ i. (none i, sym t.0 i)) c.loop-moved.invariant.moves),
    )

pub returns-then-moved-gt0-2-clause-did : goal.returns-then-moved-gt0-2-clause-did
returns-then-moved-gt0-2-clause-did g c = let t = c.in-Full.ensures.tried in let lt = c.loop-moved-test.true in let l = c.limit-limit.ensures.some.1 in (
  c.requires.point,
  c.if-moved-gt0-2.true,
  (omega arith),
  moves_stop Emitted c.args.self.now c.loop-moved.self c.try_frame.new.self c.loop-moved.moved c.loop-moved.invariant t.0 t.1,
  stops_sooner c.args.self.now.plan c.args.self.now.emitted c.limit-limit.result c.loop-moved.moved c.limit-limit.ensures.stops (omega arith),
  (λ _. inr (inl (full_by_itself c.try_frame.new.self c.in-Full.need c.in-Full.room t.2))),
  λ e. absurd (omega arith),
)

pub returns-in-Full-clause-did : goal.returns-in-Full-clause-did
returns-in-Full-clause-did g c = let t = c.in-Full.ensures.tried in
    let none : c.loop-moved.moved ≡ 0 = (let n = c.if-moved-gt0-2.false in omega arith) in
    let stop = moves_stop Emitted c.args.self.now c.loop-moved.self c.try_frame.new.self c.loop-moved.moved c.loop-moved.invariant t.0 t.1 in
    (c.requires.point, subst (λ (z : ℕ). Moves Emitted z c.args.self.now c.try_frame.new.self) none stop, t.2)

pub returns-clause-did : goal.returns-clause-did
returns-clause-did g c =
    let is : c.loop-moved.moved ≡ c.limit-limit.result = (let a = c.loop-moved-test.false in let b = c.loop-moved.auto.moved-end in omega arith) in
    let some = c.limit-limit.ensures.some.0 in
    let none = c.loop-moved.invariant.none (omega arith) in (
      c.requires.point,
      (omega arith),
      c.limit-limit.ensures.some.1,
      subst (λ (z : ℕ). Moves Emitted z c.args.self.now c.loop-moved.self) is c.loop-moved.invariant.moves,
      c.limit-limit.ensures.stops,
      (λ less. inr (inr (c.limit-limit.ensures.reaches less, none))),
      λ _. none,
    )

pub returns-clause-lawful : goal.returns-clause-lawful
returns-clause-lawful g c = c.loop-moved.invariant.lawful
