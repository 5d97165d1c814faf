use Rattle.std.proofs.Common.{◌≡◌}
use Rattle.ifl_txq.proofs.tests.encap.assert_answers.Given as goal

abbrev pub invariant-loop-segments : goal.invariant-loop-segments
invariant-loop-segments g l = l.pass.pool ≡ l.pool
