use Rattle.std.proofs.Common.{◌≡◌}
use Rattle.ifl_txq.proofs.tests.sender.Sender.load_many.Given as goal

abbrev pub invariant-loop-index : goal.invariant-loop-index
invariant-loop-index g l = l.self ≡ l.fn.self
