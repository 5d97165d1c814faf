use Rattle.std.proofs.Common.{◌≡◌, ◌+◌, ◌++◌, ◌∙◌, [], refl}
use Rattle.ifl_line.specs.declared.rules.Policy.{Policy}
use Rattle.ifl_line.specs.declared.rules.Policy.TheVariants.{Retry, Drop}
use Rattle.ifl_line.proofs.Joining.{rises_more, rises_none}
use Rattle.ifl_line.proofs.Stepping.{kicks-more, stepped_more, stepped_none}
use Rattle.ifl_line.proofs.sending.obtain.Goals as goal

both : (p : Policy) → p ≡ Drop → p ≡ Retry → ⊥
both p d r = cc

pub loop-init : goal.loop-init
loop-init g c = (c.requires.own, refl, ([], stepped_none _, tt), (0, 0, rises_none _, λ d. (refl, refl)), c.requires.ready.0, c.requires.ready.1)

pub loop-preserved : goal.loop-preserved
loop-preserved g c = let i = c.loop.invariant in let t = c.tend.ensures.only in let b = c.in-None-build.ensures.built in let retry : c.args.line.now.rules.policy ≡ Retry = c.if-drops.ensures.no in (
  record { seats = c.tend.ensures.own; pass_is = c.in-None-build.ensures.own; lawful = c.in-None-build.ensures.lawful },
  c.tend.ensures.part ∙ i.1,
  (i.2.0 ++ t.0, stepped_more _ _ _ i.2.0 t.0 i.2.1 t.1, kicks-more i.2.0 t.0 i.2.2 t.2),
  (i.3.0 + b.0, i.3.1 + 1, rises_more i.3.0 i.3.0 i.3.1 b.0 b.0 1 _ _ _ i.3.2 b.2, λ d. absurd (both _ d retry)),
  c.tend.ensures.ready.0,
  c.tend.ensures.ready.1,
)
