use Rattle.std.proofs.Common.{rules, ap, sym, ◌∙◌}
use Rattle.ifl_ring.specs.declared.view.Known.{Known}
use Rattle.ifl_ring.proofs.Claiming.{publishing-checked}
use Rattle.ifl_ring.proofs.Tallying.{tally-risen}
use Rattle.ifl_ring.proofs.ring.Ring.check_drainage.Goals as goal

pub check-requires-clause-rest : goal.check-requires-clause-rest
check-requires-clause-rest g c κs within = c.seat.invariant.0

pub returns-clause-answer : goal.returns-clause-answer
returns-clause-answer g c = let t = c.check.ensures.trail in (t.0, search rules, t.2, publishing-checked c.args.budget c.check.result t.0 t.2)

pub invariant_of-seat : goal.invariant_of-seat
invariant_of-seat g c = let t = c.check.ensures.trail in (c.check.ensures.rest, c.seat.invariant.1 ∙ ap (λ (z : Known). z.part) (sym t.3.0.is), c.seat.invariant.2, tally-risen _ _ _ _ _ _ t.0 c.seat.invariant.3 t.3 t.4)
