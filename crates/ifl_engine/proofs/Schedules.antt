-- A schedule has fewer events than its text has bytes.
use Rattle.std.proofs.Common.{ℕ, ◌<◌, ◌≤◌, List, [], ◌∷◌, length, ap, arith}
use Rattle.std.proofs.lemmas.List.{length-append}
use Rattle.ifl_ringcore.specs.declared.event.Event.{Event}
use Rattle.ifl_ringcore.specs.declared.schedule.Schedule.{Schedule}
use Rattle.ifl_ringcore.specs.Schedule.{event_line, event_lines, ring_line, IsScheduleText}

-- each line has a line feed
length-event_lines : (es : List Event) → length es ≤ length (event_lines es)
length-event_lines [] = omega arith
length-event_lines (e ∷ es) = omega (arith, length-append (event_line e) (10 ∷ event_lines es), length-event_lines es)

pub length-events : (text : List ℕ) (s : Schedule) → IsScheduleText text s → length s.events < length text
length-events text s h = omega (arith, ap length h.reads, length-append (ring_line s.size s.seats) (10 ∷ event_lines s.events), length-event_lines s.events)
