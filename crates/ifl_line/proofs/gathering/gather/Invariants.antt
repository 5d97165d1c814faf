use Rattle.std.proofs.Common.{◌≡◌, ◌+◌, ◌≤◌, ◌++◌, List, length, drop}
use Rattle.std.specs.Prelude.{vec_len, vec_capacity}
use Rattle.ifl_ring.specs.Seats.{events}
use Rattle.ifl_line.specs.declared.jobs.Task.{Task}
use Rattle.ifl_line.specs.Hands.{AreOf}
use Rattle.ifl_line.specs.Sent.{IsSent}
use Rattle.ifl_line.specs.Works.{AreDone, ended_in, files_in, turned_in, tasks_of, ring_parts, turn_parts, pass_parts}
use Rattle.ifl_line.proofs.gathering.gather.Given as goal

abbrev pub invariant-loop-index : goal.invariant-loop-index
invariant-loop-index g l = (done : List (Task _ _ _ _)) × (tasks_of l.initial.jobs ≡ done ++ tasks_of (drop l.index l.jobs))
    × AreOf l.line l.hands
    × (l.ended.items ≡ ended_in done)
    × IsSent l.line.ring.size l.line.rules 0 (files_in l.ended.items) (turned_in l.ended.items) (events l.hands.seats.ring.known) l.hands.pass.known.counts
    × AreDone l.line (length l.ended.items) (tasks_of (drop l.index l.jobs))
    × (l.hands.seats.ring.known.part ≡ l.initial.hands.seats.ring.known.part + ring_parts done)
    × (l.hands.seats.turn.part ≡ l.initial.hands.seats.turn.part + turn_parts done)
    × (l.hands.pass.known.part ≡ l.initial.hands.pass.known.part + pass_parts done)
    × (vec_len l.ended + length l.jobs ≤ vec_capacity l.ended + l.index)
    × (length l.jobs ≡ length l.initial.jobs)
