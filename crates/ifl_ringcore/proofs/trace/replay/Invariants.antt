use Rattle.std.proofs.Common.{◌≡◌, ◌+◌}
use Rattle.ifl_ringcore.specs.Replayed.{Replayed}
use Rattle.ifl_ringcore.proofs.trace.replay.Given as goal

abbrev pub invariant-loop-event : goal.invariant-loop-event
invariant-loop-event l = Replayed l.schedule l.event-index l.machine l.text.items × (l.line ≡ l.event-index + 1)
