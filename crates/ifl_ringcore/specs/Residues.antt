-- The machine's own work: what it sees, counts and makes, in the numbers that it keeps.
use Rattle.std.specs.Prelude.{ℕ, ◌+◌, ◌-◌, ◌^◌, ◌<◌, min, Bool, false, cond, not, ◌&&◌, nat_eq, nat_lt, nat_le, Option, Some, None, slice_set}
use Rattle.std.specs.Option.{is_some}
use Rattle.ifl_base.specs.Space.{space, advanced}
use Rattle.ifl_base.specs.declared.word.Flag.{Flag}
use Rattle.ifl_base.specs.declared.word.Flag.TheVariants.{Idle, Busy, Stalled, Abdicated}
use Rattle.ifl_ringcore.specs.declared.counters.Counters.{Counters}
use Rattle.ifl_ringcore.specs.declared.event.Event.{Event}
use Rattle.ifl_ringcore.specs.declared.event.Event.TheVariants.{Look, Refuse, Reserve, Behind, Elected, Abdicating, Advance, LeaveIdle, LeaveAbdicated, Stall, TakeOver}
use Rattle.ifl_ringcore.specs.declared.kept.Held.{Held}
use Rattle.ifl_ringcore.specs.declared.kept.Drain.{Drain}
use Rattle.ifl_ringcore.specs.declared.sight.Sight.{Sight}
use Rattle.ifl_ringcore.specs.Counters.{nothing_counted, one_if, is_idle, is_stalled}
use Rattle.ifl_ringcore.specs.Effects.{risen}
use Rattle.ifl_ringcore.specs.Kept.{Kept, held_by, count_in}

-- how far it is from one place on to another
abbrev pub distance : ℕ → ℕ → ℕ → ℕ
distance size from to = cond (nat_le from to) (to - from) (size + to - from)

abbrev pub is_held_at : ℕ → Option Held → Bool
is_held_at tail None = false
is_held_at tail (Some h) = nat_eq h.start tail

-- the drain, where it is this seat's
abbrev pub drain_by : ℕ → Option Drain → Option Drain
drain_by seat None = None
drain_by seat (Some d) = cond (nat_eq d.seat seat) (Some d) None

abbrev pub known_from : ℕ → ℕ → Option Drain → ℕ
known_from size cidx None = 0
known_from size cidx (Some d) = distance size cidx d.known

abbrev pub unspent : Option Drain → ℕ
unspent None = 0
unspent (Some d) = d.budget - d.total

abbrev pub sight_in : Kept → ℕ → Sight
sight_in m seat = record {
  is_seat = nat_lt seat m.seats;
  is_consumer = is_some (drain_by seat m.drain);
  has_reservation = is_some (held_by seat m.held);
  is_turn = is_held_at m.word.tail (held_by seat m.held);
  is_quiet = nat_eq m.word.tail m.word.head;
  flag = m.word.flag;
  room = space m.size m.word;
  waiting = distance m.size m.word.cidx m.word.tail;
  known = known_from m.size m.word.cidx (drain_by seat m.drain);
  budget_left = unspent (drain_by seat m.drain);
}

-- whether the drain that ends with n more items consumed something
abbrev pub is_fruitful : ℕ → Drain → Bool
is_fruitful n d = not (nat_eq (d.total + n) 0)

abbrev pub ends_restart : ℕ → Option Drain → Bool
ends_restart n None = false
ends_restart n (Some d) = is_stalled d.from && is_fruitful n d

abbrev pub stays_stalled : ℕ → Option Drain → Bool
stays_stalled n None = false
stays_stalled n (Some d) = is_stalled d.from && not (is_fruitful n d)

abbrev pub rise_in : Kept → Event → Counters
rise_in m (Look _) = nothing_counted
rise_in m (Refuse _ n) = record nothing_counted { drops = n }
rise_in m (Reserve _ _) = nothing_counted
rise_in m (Behind seat) = record nothing_counted { enqueues = count_in (held_by seat m.held) }
rise_in m (Elected seat _) = record nothing_counted { enqueues = count_in (held_by seat m.held); starts = one_if (is_idle m.word.flag) }
rise_in m (Abdicating seat) = record nothing_counted { enqueues = count_in (held_by seat m.held) }
rise_in m (Advance _ _) = nothing_counted
rise_in m (LeaveIdle _ n) = record nothing_counted { restarts = one_if (ends_restart n m.drain) }
rise_in m (LeaveAbdicated _ n) = record nothing_counted { restarts = one_if (ends_restart n m.drain); abdications = 1 }
rise_in m (Stall _ n) = record nothing_counted { restarts = one_if (ends_restart n m.drain); stalls = one_if (not (stays_stalled n m.drain)) }
rise_in m (TakeOver _ _) = nothing_counted

abbrev pub reserved_in : Kept → ℕ → ℕ → Kept
reserved_in m seat n = record m { word = record m.word { head = advanced m.size m.word.head n }; held = slice_set m.held seat (Some record { start = m.word.head; count = n }) }

abbrev pub published_in : Kept → ℕ → Kept
published_in m seat = record m { word = record m.word { tail = advanced m.size m.word.tail (count_in (held_by seat m.held)) }; held = slice_set m.held seat None }

abbrev pub elected_in : Kept → ℕ → ℕ → Kept
elected_in m seat budget = record m { word = record m.word { flag = Busy }; drain = Some record { seat = seat; known = m.word.tail; total = 0; budget = budget; from = m.word.flag } }

abbrev pub gone_on : ℕ → ℕ → Option Drain → Option Drain
gone_on n tail None = None
gone_on n tail (Some d) = Some record d { known = tail; total = min (d.total + n) (2 ^ 64 - 1) }

abbrev pub advanced_in : Kept → ℕ → Kept
advanced_in m n = record m { word = record m.word { cidx = advanced m.size m.word.cidx n }; drain = gone_on n m.word.tail m.drain }

abbrev pub left_in : Kept → ℕ → Flag → Kept
left_in m n flag = record m { word = record m.word { cidx = advanced m.size m.word.cidx n; flag = flag }; drain = None }

abbrev pub raised_in : Kept → Kept
raised_in m = record m { word = record m.word { flag = risen m.word.flag } }

abbrev pub made_in : Kept → Event → Kept
made_in m (Look _) = m
made_in m (Refuse _ _) = m
made_in m (Reserve seat n) = reserved_in m seat n
made_in m (Behind seat) = published_in m seat
made_in m (Elected seat budget) = elected_in (published_in m seat) seat budget
made_in m (Abdicating seat) = raised_in (published_in m seat)
made_in m (Advance _ n) = advanced_in m n
made_in m (LeaveIdle _ n) = left_in m n Idle
made_in m (LeaveAbdicated _ n) = left_in m n Abdicated
made_in m (Stall _ n) = left_in m n Stalled
made_in m (TakeOver seat budget) = elected_in m seat budget

-- the event names a seat of the machine, and fewer items than it has places
abbrev pub Fits : Kept → Event → Type 0
Fits m (Look _) = Unit {0}
Fits m (Refuse _ _) = Unit {0}
Fits m (Reserve seat n) = (seat < m.seats) × (n < m.size)
Fits m (Behind seat) = seat < m.seats
Fits m (Elected seat _) = seat < m.seats
Fits m (Abdicating seat) = seat < m.seats
Fits m (Advance _ n) = n < m.size
Fits m (LeaveIdle _ n) = n < m.size
Fits m (LeaveAbdicated _ n) = n < m.size
Fits m (Stall _ n) = n < m.size
Fits m (TakeOver _ _) = Unit {0}
