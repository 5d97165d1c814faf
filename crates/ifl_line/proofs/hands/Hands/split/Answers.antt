use Rattle.std.proofs.Common.{◌∙◌, ap, subst}
use Rattle.ifl_pool.specs.Passes.{IsPass}
use Rattle.ifl_pool.specs.Pools.{PoolId}
use Rattle.ifl_pool.specs.declared.known.Known.{Known as Passed}
use Rattle.ifl_line.proofs.hands.Hands.split.Goals as goal

pub returns-clause-new : goal.returns-clause-new
returns-clause-new g c = (
  record { seats = c.split-seats.ensures.new.0; pass_is = c.split-pass.ensures.own.1 ∙ c.requires.own.pass_is; lawful = subst (λ (z : PoolId). IsPass z.size c.split-pass.result.known) (c.split-pass.ensures.own.1 ∙ c.requires.own.pass_is) c.split-pass.ensures.lawful.1 },
  record { silent = c.split-seats.ensures.new.1; none = ap (λ (z : Passed). z.counts) c.split-pass.ensures.new },
)
