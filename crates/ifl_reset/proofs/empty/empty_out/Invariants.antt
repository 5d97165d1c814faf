use Rattle.std.proofs.Common.{◌≡◌, List}
use Rattle.ifl_ringcore.specs.declared.history.Meaning.{Meaning}
use Rattle.ifl_device.specs.Origin.{made_with}
use Rattle.ifl_txq.specs.Queue.{IsRung, origin_of}
use Rattle.ifl_txq.specs.Standing.{QueueStandsFor}
use Rattle.ifl_reset.proofs.empty.empty_out.Given as goal

abbrev pub invariant-loop : goal.invariant-loop
invariant-loop g l = (origin_of l.queue ≡ origin_of l.fn.queue) × (made_with l.engine ≡ made_with l.fn.engine)
    × ((ms : List Meaning) → QueueStandsFor l.fn.queue ms → QueueStandsFor l.queue ms) × (IsRung l.fn.queue.driver → IsRung l.queue.driver)
