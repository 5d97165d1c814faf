use Rattle.std.proofs.Common.{arith}
use Rattle.ifl_ringcore.specs.State.{first_state}
use Rattle.ifl_ringcore.specs.Trace.{replay_of}
use Rattle.ifl_ringcore.proofs.Keeping.{invariant-first}
use Rattle.ifl_ringcore.proofs.Replaying.{replay-legal}
use Rattle.ifl_ringcore.proofs.laws.replays_are_legal.Goals as goal

pub returns : goal.returns
unfolding replay_of
returns c = λ s ring. let four = ring.0 in replay-legal s.size s.seats first_state s.events (invariant-first s.size (omega arith))
