use Rattle.std.proofs.Common.{[], refl}
use Rattle.ifl_ringcore.specs.Counters.{nothing_counted}
use Rattle.ifl_ring.proofs.Claiming.{publishing-checked}
use Rattle.ifl_ring.proofs.Rising.{rises-nothing}
use Rattle.ifl_ring.proofs.Trails.{trail-none}
use Rattle.ifl_ring.proofs.bare.BareRing.relieve.Goals as goal

pub returns-then-is_stalled-clause-trail : goal.returns-then-is_stalled-clause-trail
returns-then-is_stalled-clause-trail g c = let t = c.check.ensures.trail in (t.0, t.1, publishing-checked 0 c.check.result t.0 t.2, ((λ _. (c.check.result, t.2)), λ other. absurd (other (c.is_stalled.ensures.yes c.if-is_stalled.true))), t.3, t.4)

pub returns-else-is_stalled-clause-trail : goal.returns-else-is_stalled-clause-trail
returns-else-is_stalled-clause-trail g c = ([], nothing_counted, refl, ((λ is. absurd (c.is_stalled.ensures.no c.if-is_stalled.false is)), λ _. refl), trail-none _ _ c.requires.lived, rises-nothing _)
