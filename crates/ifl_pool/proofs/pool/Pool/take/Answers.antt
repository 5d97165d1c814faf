use Rattle.std.proofs.Common.{◌∙◌, ap}
use Rattle.ifl_pool.specs.Pools.{PassState}
use Rattle.ifl_pool.proofs.Knowing.{all_out}
use Rattle.ifl_pool.proofs.pool.Pool.take.Goals as goal

pub returns-then-not-take_one-clause-all_out : goal.returns-then-not-take_one-clause-all_out
returns-then-not-take_one-clause-all_out g c whole = all_out _ c.pass.inside.seat.me.0.known _ c.take_one.ensures.pass c.if-not-take_one.ensures.empty (ap (λ (z : PassState). z.known.part) c.pass.view_is ∙ whole)
