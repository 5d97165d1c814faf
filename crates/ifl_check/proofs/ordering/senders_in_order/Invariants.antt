use Rattle.std.proofs.Common.{◌≡◌, length}
use Rattle.ifl_check.proofs.Ascending.{Seen}
use Rattle.ifl_check.proofs.ordering.senders_in_order.Given as goal

abbrev pub invariant-loop-line : goal.invariant-loop-line
invariant-loop-line l = (length l.least.items ≡ l.files) × Seen l.lines l.least.items l.line-index
