use Rattle.std.proofs.Common.{◌≡◌, take}
use Rattle.ifl_txq.specs.Tallies.{tally_of, IsBalanced}
use Rattle.ifl_txq.proofs.log.Log.tally.Given as goal

abbrev pub invariant-loop-line : goal.invariant-loop-line
invariant-loop-line l = (l.tally ≡ tally_of (take l.line-index l.line-items)) × IsBalanced l.tally × (l.tally.packets ≡ l.line-index)
