use Rattle.std.proofs.Common.{◌≡◌, ◌∙◌, ap, sym, subst, arith, List, [], rules}
use Rattle.ifl_desc.specs.Port.{all_set}
use Rattle.ifl_desc.specs.declared.desc.Desc.{Desc}
use Rattle.ifl_desc.specs.declared.desc.Status.{Status}
use Rattle.ifl_desc.specs.declared.history.Side.TheVariants.{Device}
use Rattle.ifl_desc.specs.History.{sent}
use Rattle.ifl_desc.specs.Ends.{DeviceSees}
use Rattle.ifl_desc.specs.Frames.{IsWholeFrame}
use Rattle.ifl_device.specs.Engine.{EngineSees, IsEngine, Returns, engine_of, returned}
use Rattle.ifl_device.specs.Turns.{LooksNot, IsTold, IsDrained}
use Rattle.std.specs.Bool.{OnTrue, OnFalse}
use Rattle.ifl_device.proofs.Engines.{start_ends, held_by}
use Rattle.ifl_device.proofs.engine.TxEngine.hold_frame.Goals as goal

pub take_frame-requires-clause-start : goal.take_frame-requires-clause-start
take_frame-requires-clause-start g c _ _ = let e : EngineSees = engine_of (g.R.DescRing.ring c.self.inside.ring.now) c.self.inside.port.now c.self.inside.plan (g.R.DescRing.device_sees c.self.inside.device) (all_set c.self.inside.writer) c.self.inside.wire c.self.inside.frame.items c.self.inside.emitted c.self.inside.cleared c.self.inside.downs in
    let k : IsEngine e = c.self.invariant.0 in
    let none : c.self.inside.frame.items ≡ [] = search rules in start_ends e k none

pub take_frame-requires-clause-told : goal.take_frame-requires-clause-told
take_frame-requires-clause-told g c _ _ = subst IsTold (sym c.self.view_is) c.requires

pub invariant_of-self : goal.invariant_of-self
invariant_of-self g c = let e : EngineSees = engine_of (g.R.DescRing.ring c.self.inside.ring.now) c.self.inside.port.now c.self.inside.plan (g.R.DescRing.device_sees c.self.inside.device) (all_set c.self.inside.writer) c.self.inside.wire c.self.inside.frame.items c.self.inside.emitted c.self.inside.cleared c.self.inside.downs in
    let k : IsEngine e = c.self.invariant.0 in
    let none : c.self.inside.frame.items ≡ [] = search rules in let t = c.take_frame.ensures in
    let d : DeviceSees = g.R.DescRing.device_sees c.take_frame.new.device in let frame : List Desc = c.take_frame.new.frame.items in
    let b : EngineSees = engine_of e.ring e.port e.plan d e.writer e.wire frame e.emitted e.cleared e.downs in let r = c.take_frame.result in
    let by = held_by e k r frame d none t.same t.lawful t.taken t.none (subst IsTold (sym c.self.view_is) c.requires) in
    (by.0, (let cap = t.capacity in let v = c.self.invariant.1 in omega arith), c.self.invariant.2, c.self.invariant.3)

pub returns-then-is_empty-clause-held : goal.returns-then-is_empty-clause-held
returns-then-is_empty-clause-held g c = let e : EngineSees = engine_of (g.R.DescRing.ring c.self.inside.ring.now) c.self.inside.port.now c.self.inside.plan (g.R.DescRing.device_sees c.self.inside.device) (all_set c.self.inside.writer) c.self.inside.wire c.self.inside.frame.items c.self.inside.emitted c.self.inside.cleared c.self.inside.downs in
    let k : IsEngine e = c.self.invariant.0 in
    let none : c.self.inside.frame.items ≡ [] = search rules in let t = c.take_frame.ensures in
    let d : DeviceSees = g.R.DescRing.device_sees c.take_frame.new.device in let frame : List Desc = c.take_frame.new.frame.items in
    let b : EngineSees = engine_of e.ring e.port e.plan d e.writer e.wire frame e.emitted e.cleared e.downs in let r = c.take_frame.result in
    let by = held_by e k r frame d none t.same t.lawful t.taken t.none (subst IsTold (sym c.self.view_is) c.requires) in
    subst (λ (z : EngineSees). OnTrue r (((s : Status) → Returns s [] z b) × LooksNot z b × IsTold b × IsWholeFrame b.held)) c.self.view_is by.1

pub returns-then-is_empty-clause-none : goal.returns-then-is_empty-clause-none
returns-then-is_empty-clause-none g c = let e : EngineSees = engine_of (g.R.DescRing.ring c.self.inside.ring.now) c.self.inside.port.now c.self.inside.plan (g.R.DescRing.device_sees c.self.inside.device) (all_set c.self.inside.writer) c.self.inside.wire c.self.inside.frame.items c.self.inside.emitted c.self.inside.cleared c.self.inside.downs in
    let k : IsEngine e = c.self.invariant.0 in
    let none : c.self.inside.frame.items ≡ [] = search rules in let t = c.take_frame.ensures in
    let d : DeviceSees = g.R.DescRing.device_sees c.take_frame.new.device in let frame : List Desc = c.take_frame.new.frame.items in
    let b : EngineSees = engine_of e.ring e.port e.plan d e.writer e.wire frame e.emitted e.cleared e.downs in let r = c.take_frame.result in
    let by = held_by e k r frame d none t.same t.lawful t.taken t.none (subst IsTold (sym c.self.view_is) c.requires) in
    subst (λ (z : EngineSees). OnFalse r ((b ≡ z) × IsDrained b)) c.self.view_is by.2

pub returns-then-is_empty-clause-kept : goal.returns-then-is_empty-clause-kept
returns-then-is_empty-clause-kept g c = let e : EngineSees = engine_of (g.R.DescRing.ring c.self.inside.ring.now) c.self.inside.port.now c.self.inside.plan (g.R.DescRing.device_sees c.self.inside.device) (all_set c.self.inside.writer) c.self.inside.wire c.self.inside.frame.items c.self.inside.emitted c.self.inside.cleared c.self.inside.downs in
    let k : IsEngine e = c.self.invariant.0 in
    ap (λ (z : DeviceSees). sent Device z.seen) c.take_frame.ensures.same ∙ ap returned c.self.view_is
