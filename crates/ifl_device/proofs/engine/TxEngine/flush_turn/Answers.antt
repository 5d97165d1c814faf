use Rattle.std.proofs.Common.{◌≡◌, ℕ, ◌%◌, inl, subst, sym, ap, ◌∙◌, arith}
use Rattle.ifl_desc.specs.declared.desc.Status.TheVariants.{Flushed}
use Rattle.ifl_desc.specs.declared.history.Side.TheVariants.{Device}
use Rattle.ifl_desc.specs.History.{known}
use Rattle.ifl_device.specs.Engine.{EngineSees}
use Rattle.ifl_device.specs.Turns.{Empties, Moves}
use Rattle.ifl_device.proofs.engine.TxEngine.flush_turn.Goals as goal

pub returns-then-flushed-gt0-clause-did : goal.returns-then-flushed-gt0-clause-did
returns-then-flushed-gt0-clause-did g c = (c.requires.point, c.if-flushed-gt0.true, subst (λ (z : EngineSees). Empties Flushed c.return_all-flushed.result z c.return_all-flushed.new.self) c.stop.ensures.did c.return_all-flushed.ensures.did)

pub returns-clause-did : goal.returns-clause-did
returns-clause-did g c = let b : EngineSees = c.return_all-flushed.new.self in let m = c.return_all-flushed.ensures.did in let did = c.stop.ensures.did in
    let none : c.return_all-flushed.result ≡ 0 = (let n = c.if-flushed-gt0.false in omega arith) in let n = c.return_all-flushed.ensures.none none in (
      (
        ap (λ (z : EngineSees). z.held) (sym did) ∙ n.0,
        m.1,
        n.1 ∙ ap (λ (z : EngineSees). z.device.fetched) did,
        c.doorbell.ensures.number ∙ ap (λ (z : EngineSees). known Device z.device.seen % z.ring.slots) c.self.view_is ∙ ap (λ (i : ℕ). i % b.ring.slots) (sym m.1.1),
      ),
      inl (c.requires.point, subst (λ (z : ℕ × EngineSees). Moves Flushed z.0 z.1 b) (λ i. (none i, did i)) m.0),
    )
