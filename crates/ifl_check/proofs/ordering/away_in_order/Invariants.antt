use Rattle.ifl_check.proofs.Ascending.{AreSorted}
use Rattle.ifl_check.proofs.ordering.away_in_order.Given as goal

abbrev pub invariant-loop-i : goal.invariant-loop-i
invariant-loop-i l = AreSorted l.lines l.i
