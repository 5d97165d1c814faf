use Rattle.std.proofs.Common.{◌∙◌, ap, sym, subst, false, List}
use Rattle.ifl_desc.specs.Port.{state_of, all_set}
use Rattle.ifl_desc.specs.declared.desc.Desc.{Desc}
use Rattle.ifl_device.specs.Wire.{WireSees}
use Rattle.ifl_device.specs.Engine.{IsEngine, engine_of}
use Rattle.ifl_device.proofs.Engines.{new_engine, not_flushed}
use Rattle.ifl_device.proofs.engine.TxEngine.new.Goals as goal

pub invariant_of-result : goal.invariant_of-result
invariant_of-result g c = (
  subst (λ (z : List Desc). IsEngine (engine_of (g.R.DescRing.ring c.args.ring.now) c.args.port.now c.args.plan (g.R.DescRing.device_sees c.args.device) (all_set c.args.writer) c.wire.inside.wire z 0 false c.args.plan.link_down_turns)) (sym c.wire.invariant.0)
      (new_engine _ _ _ (g.R.DescRing.device_sees c.args.device) (all_set c.args.writer) c.wire.inside.wire c.requires.own.0 c.requires.fresh.0 c.requires.fresh.1 c.doorbell.ensures.lawful c.requires.own.1 c.requires.fresh.2 (ap (λ (z : WireSees). z.bytes) c.wire.view_is ∙ c.requires.fresh.3)),
  c.wire.invariant.1,
  tt,
  (λ e. not_flushed (ap state_of (sym c.requires.fresh.2) ∙ e)),
)

pub returns-clause-lawful : goal.returns-clause-lawful
returns-clause-lawful g c = (invariant_of-result g c).0
