-- The text of a schedule.
use Rattle.std.specs.Prelude.{◌≡◌, ◌≢◌, ℕ, ◌+◌, ◌-◌, ◌^◌, ◌<◌, ◌≤◌, ◌⊎◌, List, [], ◌∷◌, ◌++◌, length, codes, Option, Some, None, IfSome}
use Rattle.std.specs.List.{All}
use Rattle.ifl_ringcore.specs.declared.event.Event.{Event}
use Rattle.ifl_ringcore.specs.declared.event.Event.TheVariants.{Look, Refuse, Reserve, Behind, Elected, Abdicating, Advance, LeaveIdle, LeaveAbdicated, Stall, TakeOver}
use Rattle.ifl_ringcore.specs.declared.schedule.Schedule.{Schedule}
use Rattle.ifl_ringcore.specs.declared.schedule.ScheduleFault.{ScheduleFault}
use Rattle.ifl_ringcore.specs.declared.schedule.ScheduleFault.TheVariants.{Line, Memory}
use Rattle.ifl_ringcore.specs.Events.{seat_of}
use Rattle.ifl_ringcore.specs.Lines.{spaced, spaced_if}

-- the word that begins an event's line
abbrev pub name_of : Event → List ℕ
name_of (Look _) = codes "look"
name_of (Refuse _ _) = codes "refuse"
name_of (Reserve _ _) = codes "reserve"
name_of (Behind _) = codes "behind"
name_of (Elected _ _) = codes "elected"
name_of (Abdicating _) = codes "abdicating"
name_of (Advance _ _) = codes "advance"
name_of (LeaveIdle _ _) = codes "idle"
name_of (LeaveAbdicated _ _) = codes "abdicate"
name_of (Stall _ _) = codes "stall"
name_of (TakeOver _ _) = codes "takeover"

-- the number behind the seat, a count of items or a budget
abbrev pub number_of : Event → Option ℕ
number_of (Look _) = None
number_of (Refuse _ n) = Some n
number_of (Reserve _ n) = Some n
number_of (Behind _) = None
number_of (Elected _ budget) = Some budget
number_of (Abdicating _) = None
number_of (Advance _ n) = Some n
number_of (LeaveIdle _ n) = Some n
number_of (LeaveAbdicated _ n) = Some n
number_of (Stall _ n) = Some n
number_of (TakeOver _ budget) = Some budget

-- the largest number that may stand there
abbrev pub most_of : Event → ℕ
most_of (Look _) = 2 ^ 32 - 1
most_of (Refuse _ _) = 2 ^ 32 - 1
most_of (Reserve _ _) = 2 ^ 32 - 1
most_of (Behind _) = 2 ^ 32 - 1
most_of (Elected _ _) = 65535
most_of (Abdicating _) = 2 ^ 32 - 1
most_of (Advance _ _) = 2 ^ 32 - 1
most_of (LeaveIdle _ _) = 2 ^ 32 - 1
most_of (LeaveAbdicated _ _) = 2 ^ 32 - 1
most_of (Stall _ _) = 2 ^ 32 - 1
most_of (TakeOver _ _) = 65535

-- the event's numbers are in range
abbrev pub IsEvent : Event → Type 0
IsEvent e = (seat_of e < 2 ^ 32) × IfSome (number_of e) (λ n. n ≤ most_of e)

-- the ring's size and its number of seats are in range
abbrev pub IsRing : ℕ → ℕ → Type 0
IsRing size seats = (4 ≤ size) × (size ≤ 65536) × (1 ≤ seats) × (seats ≤ 65535)

abbrev pub event_line : Event → List ℕ
event_line e = name_of e ++ (spaced (seat_of e) ++ spaced_if (number_of e))

abbrev pub ring_line : ℕ → ℕ → List ℕ
ring_line size seats = codes "ring" ++ (spaced size ++ spaced seats)

-- one line for each event, each with its line feed
abbrev pub event_lines : List Event → List ℕ
event_lines [] = []
event_lines (e ∷ es) = event_line e ++ (10 ∷ event_lines es)

abbrev pub schedule_text : Schedule → List ℕ
schedule_text s = ring_line s.size s.seats ++ (10 ∷ event_lines s.events)

-- the text is that of the schedule, whose numbers are in range
pub record IsScheduleText (text : List ℕ) (s : Schedule) : Type 0 where
  pub ring : IsRing s.size s.seats
  pub events : All IsEvent s.events
  pub reads : text ≡ schedule_text s

-- the first line is that of no ring
abbrev pub IsBadRing : List ℕ → Type 0
IsBadRing text = (size seats : ℕ) (rest : List ℕ) → IsRing size seats → text ≢ ring_line size seats ++ (10 ∷ rest)

-- the text begins with that of a schedule, and goes on with a line that is no event's
pub record IsBadEvent (text : List ℕ) (line : ℕ) : Type 0 where
  pub before : Schedule
  pub rest : List ℕ
  pub ring : IsRing before.size before.seats
  pub events : All IsEvent before.events
  pub reads : text ≡ schedule_text before ++ rest
  pub counted : line ≡ length before.events + 2
  pub more : 0 < length rest
  pub bad : (e : Event) (behind : List ℕ) → IsEvent e → rest ≢ event_line e ++ (10 ∷ behind)

-- the line, counted from 1, is the first that is not of the grammar
abbrev pub IsFirstBadLine : List ℕ → ℕ → Type 0
IsFirstBadLine text line = ((line ≡ 1) × IsBadRing text) ⊎ IsBadEvent text line

-- why a text is not read
abbrev pub IsFaultOf : List ℕ → ScheduleFault → Type 0
IsFaultOf text (Line line) = IsFirstBadLine text line
IsFaultOf text Memory = Unit {0}
