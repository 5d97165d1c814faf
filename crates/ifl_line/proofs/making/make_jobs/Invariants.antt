use Rattle.std.proofs.Common.{◌≡◌, ◌+◌, ◌≤◌, ◌++◌, length}
use Rattle.std.specs.Prelude.{vec_len, vec_capacity}
use Rattle.std.specs.Vec.Iter.{into_iter_items, into_iter_len}
use Rattle.ifl_line.specs.Hands.{AreOf, AreFresh}
use Rattle.ifl_line.specs.Loads.{AreLoads, loaded}
use Rattle.ifl_line.specs.Works.{AreAt, AreSet, captures_in, tasks_of, ring_parts, turn_parts, pass_parts}
use Rattle.ifl_line.proofs.Doubling.{doubled}
use Rattle.ifl_line.proofs.making.make_jobs.Given as goal

abbrev pub invariant-loop-load : goal.invariant-loop-load
invariant-loop-load g l = (l.yielded ++ into_iter_items l.load-iterator ≡ into_iter_items l.initial.load-iterator)
    × (into_iter_len l.load-iterator ≡ length (into_iter_items l.load-iterator))
    × AreOf l.line l.hands
    × AreFresh l.hands
    × (doubled (length (into_iter_items l.load-iterator)) ≤ l.hands.seats.ring.known.part)
    × (doubled (length (into_iter_items l.load-iterator)) ≤ l.hands.seats.turn.part)
    × (doubled (length (into_iter_items l.load-iterator)) ≤ l.hands.pass.known.part)
    × AreLoads (length l.yielded) (into_iter_items l.load-iterator)
    × AreAt l.line l.jobs.items
    × AreSet l.line 0 (tasks_of l.jobs.items)
    × (captures_in (tasks_of l.jobs.items) ≡ loaded l.yielded)
    × (l.hands.seats.ring.known.part + ring_parts (tasks_of l.jobs.items) ≡ l.initial.hands.seats.ring.known.part + ring_parts (tasks_of l.initial.jobs.items))
    × (l.hands.seats.turn.part + turn_parts (tasks_of l.jobs.items) ≡ l.initial.hands.seats.turn.part + turn_parts (tasks_of l.initial.jobs.items))
    × (l.hands.pass.known.part + pass_parts (tasks_of l.jobs.items) ≡ l.initial.hands.pass.known.part + pass_parts (tasks_of l.initial.jobs.items))
    × (vec_len l.jobs + length (into_iter_items l.load-iterator) ≤ vec_capacity l.jobs)
    × (length l.jobs.items ≡ length l.yielded + 1)
