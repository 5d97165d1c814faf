use Rattle.std.proofs.Common.{◌∙◌, ap, sym, subst}
use Rattle.ifl_desc.specs.Port.{WriterSees, WriterState, state_of, all_set}
use Rattle.ifl_device.specs.Engine.{EngineSees, IsEngine, IsStopped, engine_of}
use Rattle.ifl_device.proofs.Setting.{link_engine, link_stops, flag_no}
use Rattle.ifl_device.proofs.engine.TxEngine.set_where.Goals as goal

pub returns-then-asked-clause-unstopped : goal.returns-then-asked-clause-unstopped
returns-then-asked-clause-unstopped g c = λ z. link_stops c.self.inside.writer.known c.args.state c.requires.state (ap (λ (w : WriterSees). state_of w.known) (sym c.set.ensures.set) ∙ z)

pub invariant_of-self : goal.invariant_of-self
invariant_of-self g c = let e : EngineSees = engine_of (g.R.DescRing.ring c.self.inside.ring.now) c.self.inside.port.now c.self.inside.plan (g.R.DescRing.device_sees c.self.inside.device) (all_set c.self.inside.writer) c.self.inside.wire c.self.inside.frame.items c.self.inside.emitted c.self.inside.cleared c.self.inside.downs in let k : IsEngine e = c.self.invariant.0 in
    let open_before : IsStopped e → ⊥ = subst (λ (z : EngineSees). IsStopped z → ⊥) (sym c.self.view_is) c.requires.unstopped in
    let b : EngineSees = engine_of e.ring e.port e.plan e.device (all_set c.set.new.w) e.wire e.held e.emitted e.cleared e.downs in
    let flags = flag_no c.self.inside.flushing (IsStopped e) (IsStopped b) c.self.invariant.2 open_before (λ z. link_stops c.self.inside.writer.known c.args.state c.requires.state (ap (λ (w : WriterSees). state_of w.known) (sym c.set.ensures.set) ∙ z)) in
    (subst (λ (z : WriterState). IsEngine (engine_of e.ring e.port e.plan e.device z e.wire e.held e.emitted e.cleared e.downs)) (sym (ap all_set c.set.ensures.set)) (link_engine e k c.args.state c.requires.state), c.self.invariant.1, flags.0, flags.1)

pub returns-then-asked-clause-lawful : goal.returns-then-asked-clause-lawful
returns-then-asked-clause-lawful g c = (invariant_of-self g c).0
