use Rattle.std.proofs.Common.{◌≡◌, ◌≤◌, length}
use Rattle.std.specs.Prelude.{vec_capacity}
use Rattle.crossbeam_queue.specs.Passes.{IsSamePass}
use Rattle.ifl_pool.proofs.queue.gather.Given as goal

abbrev pub invariant-loop : goal.invariant-loop
invariant-loop g l = IsSamePass l.initial.pass l.pass × (length l.room.items ≡ l.counter) × (l.count ≤ vec_capacity l.room)
