-- How a line is taken apart.
use Rattle.std.specs.Prelude.{◌≡◌, ◌+◌, ◌≤◌, ◌++◌, ℕ, Bool, true, ◌&&◌, ◌||◌, not, List, [], ◌∷◌, length, Option, Some, None, nat_lt, nat_eq, nat_le, slice_index}
use Rattle.std.specs.Char.{is_ascii_digit}
use Rattle.std.specs.List.{find, list_all, All}
use Rattle.std.specs.Str.{bytes_eq}
use Rattle.ifl_ringcore.specs.declared.event.Event.{Event}
use Rattle.ifl_ringcore.specs.declared.event.Event.TheVariants.{Look, Refuse, Reserve, Behind, Elected, Abdicating, Advance, LeaveIdle, LeaveAbdicated, Stall, TakeOver}
use Rattle.ifl_ringcore.specs.Schedule.{name_of, IsRing, IsEvent, schedule_text}

-- the events of a seat, with a number and without
abbrev pub events_with : ℕ → Option ℕ → List Event
events_with seat None = Look seat ∷ Behind seat ∷ Abdicating seat ∷ []
events_with seat (Some n) = Refuse seat n ∷ Reserve seat n ∷ Elected seat n ∷ Advance seat n ∷ LeaveIdle seat n ∷ LeaveAbdicated seat n ∷ Stall seat n ∷ TakeOver seat n ∷ []

-- the one that is called so
abbrev pub event_named : List ℕ → ℕ → Option ℕ → Option Event
event_named name seat n = find (λ e. bytes_eq name (name_of e)) (events_with seat n)

-- digits, and no zero in front of others
abbrev pub is_number : List ℕ → Bool
is_number word = (nat_lt 0 (length word) && list_all is_ascii_digit word) && (nat_eq (length word) 1 || not (nat_eq (slice_index word 0) 48))

-- a budget is in range
abbrev pub is_in_range : Event → Bool
is_in_range (Look _) = true
is_in_range (Refuse _ _) = true
is_in_range (Reserve _ _) = true
is_in_range (Behind _) = true
is_in_range (Elected _ budget) = nat_le budget 65535
is_in_range (Abdicating _) = true
is_in_range (Advance _ _) = true
is_in_range (LeaveIdle _ _) = true
is_in_range (LeaveAbdicated _ _) = true
is_in_range (Stall _ _) = true
is_in_range (TakeOver _ budget) = nat_le budget 65535

-- the text up to the rest is that of a schedule, of so many lines
pub record HasRead (text : List ℕ) (size seats : ℕ) (events : List Event) (rest : List ℕ) (line : ℕ) : Type 0 where
  pub ring : IsRing size seats
  pub all : All IsEvent events
  pub reads : text ≡ schedule_text record { size = size; seats = seats; events = events } ++ rest
  pub counted : line ≡ length events + 1
  pub fits : line + length rest ≤ length text
