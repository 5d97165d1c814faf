use Rattle.std.proofs.Common.{◌≡◌, drop}
use Rattle.std.specs.VecDeque.{deque_capacity}
use Rattle.ifl_ring.proofs.tests.sending.RecorderDrainer.drain.Given as goal

abbrev pub invariant-loop : goal.invariant-loop
invariant-loop g l = (l.batch.items ≡ drop l.counter l.initial.batch.items) × (deque_capacity l.batch ≡ deque_capacity l.initial.batch)
