use Rattle.std.proofs.Common.{◌≡◌, ◌⊎◌, true, ◌∙◌, ap, sym, subst}
use Rattle.ifl_desc.specs.Port.{WriterSees, WriterState, state_of, all_set}
use Rattle.ifl_device.specs.declared.point.Point.TheVariants as at
use Rattle.ifl_device.specs.Engine.{EngineSees, IsEngine, engine_of}
use Rattle.ifl_device.specs.Turns.{IsAt}
use Rattle.ifl_device.proofs.Setting.{stop_engine, stop_stops}
use Rattle.ifl_device.proofs.engine.TxEngine.stop.Goals as goal

pub returns-then-not-self-clause-stopped : goal.returns-then-not-self-clause-stopped
returns-then-not-self-clause-stopped g c = ap (λ (w : WriterSees). state_of w.known) c.set.ensures.set ∙ stop_stops c.self.inside.writer.known

pub invariant_of-self : goal.invariant_of-self
invariant_of-self g c = let e : EngineSees = engine_of (g.R.DescRing.ring c.self.inside.ring.now) c.self.inside.port.now c.self.inside.plan (g.R.DescRing.device_sees c.self.inside.device) (all_set c.self.inside.writer) c.self.inside.wire c.self.inside.frame.items c.self.inside.emitted c.self.inside.cleared c.self.inside.downs in let k : IsEngine e = c.self.invariant.0 in
    let planned = subst (λ (z : EngineSees). (z.plan.by_hand ≡ true) ⊎ IsAt at.Stopping z) (sym c.self.view_is) c.requires.planned in (
      subst (λ (z : WriterState). IsEngine (engine_of e.ring e.port e.plan e.device z e.wire e.held e.emitted e.cleared e.downs)) (sym (ap all_set c.set.ensures.set)) (stop_engine e k planned),
      c.self.invariant.1,
      ap (λ (w : WriterSees). state_of w.known) c.set.ensures.set ∙ stop_stops c.self.inside.writer.known,
      tt,
    )
