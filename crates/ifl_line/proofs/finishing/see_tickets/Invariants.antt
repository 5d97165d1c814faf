use Rattle.std.proofs.Common.{take}
use Rattle.ifl_line.specs.Lines.{AreSmall}
use Rattle.ifl_line.proofs.finishing.see_tickets.Given as goal

abbrev pub invariant-loop-index : goal.invariant-loop-index
invariant-loop-index l = AreSmall (take l.index l.order)
