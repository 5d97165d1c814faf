use Rattle.std.proofs.Common.{arith, ap, ◌∙◌, sym, subst, refl, inl, length, ◌+◌, ◌≡◌}
use Rattle.ifl_ringcore.specs.State.{Consumer}
use Rattle.ifl_ring.specs.Draining.{GoesOn, EndsRound}
use Rattle.ifl_ring.specs.Calls.{IsTotal}
use Rattle.ifl_ring.proofs.bare.BareRing.consume.Goals as goal

pub loop-init : goal.loop-init
loop-init g c = (refl, refl, refl, c.requires.at.0, λ x total is. (x, refl, subst (IsTotal c.args.before) (let e : x.consumer.total ≡ x.consumer.total + 0 = omega arith in e) total, (let some = c.requires.at.1 in ((omega arith), (omega arith), inl refl))))

pub take_turn-requires-clause-going : goal.take_turn-requires-clause-going
take_turn-requires-clause-going g c κs within = let r = c.requires.consuming in let x = c.loop.invariant.4 r.0 r.1 r.2 in
    (x.0, subst (GoesOn c.loop.round.count (c.loop.round.left + length c.loop.batch.items)) (sym x.1) x.3)

pub returns-clause-round : goal.returns-clause-round
returns-clause-round g c = λ k total is. let x = c.loop.invariant.4 k total is in
    let y = c.take_turn.ensures.turn x.0 (subst (λ (z : Consumer). IsTotal c.loop.round.total (z.total + c.loop.round.count)) (sym x.1) x.2) (ap (λ (z : Consumer). z.budget) x.1 ∙ is) (subst (GoesOn c.loop.round.count (c.loop.round.left + length c.loop.batch.items)) (sym x.1) x.3) in (
      y.0,
      y.1 ∙ x.1,
      subst (λ (z : Consumer). IsTotal c.take_turn.new.round.total (z.total + c.take_turn.new.round.count)) x.1 y.2,
      subst (EndsRound c.take_turn.new.round.stalled (g.D.Drainer.full c.take_turn.new.drainer) c.take_turn.new.round.count (c.take_turn.new.round.left + length c.take_turn.new.batch.items)) x.1 (y.4 c.loop-test.false),
    )

pub loop-preserved : goal.loop-preserved
loop-preserved g c = let i = c.loop.invariant in let s = c.take_turn.ensures.same in (
  s.0 ∙ i.0,
  s.1 ∙ i.1,
  s.2 ∙ i.2,
  c.take_turn.ensures.at,
  λ k total is. let x = c.loop.invariant.4 k total is in
      let y = c.take_turn.ensures.turn x.0 (subst (λ (z : Consumer). IsTotal c.loop.round.total (z.total + c.loop.round.count)) (sym x.1) x.2) (ap (λ (z : Consumer). z.budget) x.1 ∙ is) (subst (GoesOn c.loop.round.count (c.loop.round.left + length c.loop.batch.items)) (sym x.1) x.3) in (
        y.0,
        y.1 ∙ x.1,
        subst (λ (z : Consumer). IsTotal c.take_turn.new.round.total (z.total + c.take_turn.new.round.count)) x.1 y.2,
        subst (GoesOn c.take_turn.new.round.count (c.take_turn.new.round.left + length c.take_turn.new.batch.items)) x.1 (y.3 c.loop-test.true),
      ),
)
