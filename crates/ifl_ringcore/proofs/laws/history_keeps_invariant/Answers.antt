use Rattle.std.proofs.Common.{arith}
use Rattle.ifl_ringcore.specs.State.{first_state}
use Rattle.ifl_ringcore.proofs.Keeping.{invariant-first, invariant-history}
use Rattle.ifl_ringcore.proofs.laws.history_keeps_invariant.Goals as goal

pub returns : goal.returns
returns c = λ size es four legal. invariant-history size first_state es (invariant-first size (omega arith)) legal
