use Rattle.std.proofs.Common.{◌∙◌, ap, subst, []}
use Rattle.ifl_desc.specs.Port.{all_set}
use Rattle.ifl_desc.specs.declared.desc.Status.{Status}
use Rattle.ifl_desc.specs.Ends.{DeviceSees}
use Rattle.ifl_device.specs.Engine.{EngineSees, IsEngine, Returns, engine_of, returned}
use Rattle.ifl_device.specs.Turns.{LooksOnce}
use Rattle.ifl_device.proofs.Engines.{look_engine, look_once, look_sends, look_told, look_kept}
use Rattle.ifl_device.proofs.engine.TxEngine.look.Goals as goal

pub fetch-requires : goal.fetch-requires
fetch-requires g c = c.self.invariant.0.own

pub invariant_of-self : goal.invariant_of-self
invariant_of-self g c = let e : EngineSees = engine_of (g.R.DescRing.ring c.self.inside.ring.now) c.self.inside.port.now c.self.inside.plan (g.R.DescRing.device_sees c.self.inside.device) (all_set c.self.inside.writer) c.self.inside.wire c.self.inside.frame.items c.self.inside.emitted c.self.inside.cleared c.self.inside.downs in let k : IsEngine e = c.self.invariant.0 in
    let d : DeviceSees = g.R.DescRing.device_sees c.fetch.new.end in
    (look_engine e k c.fetch.result d c.fetch.ensures.list c.fetch.ensures.lawful, c.self.invariant.1, c.self.invariant.2, c.self.invariant.3)

pub returns-clause-looked : goal.returns-clause-looked
returns-clause-looked g c = let e : EngineSees = engine_of (g.R.DescRing.ring c.self.inside.ring.now) c.self.inside.port.now c.self.inside.plan (g.R.DescRing.device_sees c.self.inside.device) (all_set c.self.inside.writer) c.self.inside.wire c.self.inside.frame.items c.self.inside.emitted c.self.inside.cleared c.self.inside.downs in let k : IsEngine e = c.self.invariant.0 in
    let d : DeviceSees = g.R.DescRing.device_sees c.fetch.new.end in
    subst (λ (z : EngineSees). LooksOnce z.device.seen d.seen) c.self.view_is (look_once e k c.fetch.result d c.fetch.ensures.list c.fetch.ensures.lawful)

pub returns-clause-returned : goal.returns-clause-returned
returns-clause-returned g c = let e : EngineSees = engine_of (g.R.DescRing.ring c.self.inside.ring.now) c.self.inside.port.now c.self.inside.plan (g.R.DescRing.device_sees c.self.inside.device) (all_set c.self.inside.writer) c.self.inside.wire c.self.inside.frame.items c.self.inside.emitted c.self.inside.cleared c.self.inside.downs in let k : IsEngine e = c.self.invariant.0 in
    let d : DeviceSees = g.R.DescRing.device_sees c.fetch.new.end in let b : EngineSees = engine_of e.ring e.port e.plan d e.writer e.wire e.held e.emitted e.cleared e.downs in
    subst (λ (z : EngineSees). (s : Status) → Returns s [] z b) c.self.view_is (look_sends e k c.fetch.result d c.fetch.ensures.list c.fetch.ensures.lawful)

pub returns-clause-told : goal.returns-clause-told
returns-clause-told g c = let e : EngineSees = engine_of (g.R.DescRing.ring c.self.inside.ring.now) c.self.inside.port.now c.self.inside.plan (g.R.DescRing.device_sees c.self.inside.device) (all_set c.self.inside.writer) c.self.inside.wire c.self.inside.frame.items c.self.inside.emitted c.self.inside.cleared c.self.inside.downs in let k : IsEngine e = c.self.invariant.0 in
    let d : DeviceSees = g.R.DescRing.device_sees c.fetch.new.end in
    look_told e k c.fetch.result d c.fetch.ensures.list c.fetch.ensures.lawful

pub returns-clause-kept : goal.returns-clause-kept
returns-clause-kept g c = let e : EngineSees = engine_of (g.R.DescRing.ring c.self.inside.ring.now) c.self.inside.port.now c.self.inside.plan (g.R.DescRing.device_sees c.self.inside.device) (all_set c.self.inside.writer) c.self.inside.wire c.self.inside.frame.items c.self.inside.emitted c.self.inside.cleared c.self.inside.downs in let k : IsEngine e = c.self.invariant.0 in
    let d : DeviceSees = g.R.DescRing.device_sees c.fetch.new.end in
    look_kept e k c.fetch.result d c.fetch.ensures.list c.fetch.ensures.lawful ∙ ap returned c.self.view_is

pub returns-clause-held : goal.returns-clause-held
returns-clause-held g c = (ap (λ (z : EngineSees). z.held) c.self.view_is, ap (λ (z : DeviceSees). z.fetched) c.fetch.ensures.list.1 ∙ ap (λ (z : EngineSees). z.device.fetched) c.self.view_is)

pub returns-clause-lawful : goal.returns-clause-lawful
returns-clause-lawful g c = (invariant_of-self g c).0
