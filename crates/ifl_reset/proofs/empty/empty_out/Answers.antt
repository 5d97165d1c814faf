use Rattle.std.proofs.Common.{◌∙◌, ap, length}
use Rattle.ifl_reset.proofs.empty.empty_out.Goals as goal

pub loop-preserved : goal.loop-preserved
loop-preserved g c = let inv = c.loop.invariant in (
  c.reclaim.ensures.origin ∙ inv.0,
  c.turn_or_reset.ensures.origin ∙ inv.1,
  (λ ms s. c.reclaim.ensures.stands ms (inv.2 ms s)),
  (λ r. ap length c.reclaim.ensures.did.pending ∙ inv.3 r),
)
