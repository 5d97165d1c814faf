use Rattle.std.proofs.Common.{◌≡◌, ◌%◌, ◌<◌, length}
use Rattle.std.specs.VecDeque.{deque_capacity}
use Rattle.ifl_ring.specs.Tells.{nothing}
use Rattle.ifl_ring.specs.Acts.{out_all}
use Rattle.ifl_ring.specs.PutBack.{IsBack}
use Rattle.ifl_ring.proofs.bare.BareRing.put_back.Given as goal

abbrev pub invariant-loop-item : goal.invariant-loop-item
invariant-loop-item g l = (l.seat.table_id ≡ l.initial.seat.table_id) × (l.seat.id ≡ l.initial.seat.id) × (l.seat.me.0 ≡ l.initial.seat.me.0) × (deque_capacity l.batch ≡ deque_capacity l.initial.batch) × (l.slot < l.self.size)
    × ((a : _) (c : _) → l.at ≡ a % l.self.size → l.initial.seat.me.1 ≡ out_all nothing l.self.size a (length l.initial.batch.items) c → IsBack l.self.size a c l.initial.batch.items l.batch.items l.slot l.seat.me.1)

abbrev pub decreases-loop-item : goal.decreases-loop-item
decreases-loop-item g l = length l.batch.items
