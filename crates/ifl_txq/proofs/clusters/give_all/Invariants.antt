use Rattle.std.proofs.Common.{◌≡◌, ℕ, ◌+◌, length}
use Rattle.ifl_txq.specs.Calls.{Gave}
use Rattle.ifl_txq.proofs.clusters.give_all.Given as goal

abbrev pub invariant-loop-cluster : goal.invariant-loop-cluster
invariant-loop-cluster g l = (given : ℕ) × (given + length l.freed ≡ length l.fn.freed) × Gave given l.fn.pass l.pass

abbrev pub decreases-loop-cluster : goal.decreases-loop-cluster
decreases-loop-cluster g l = length l.freed
