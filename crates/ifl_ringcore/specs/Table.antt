-- The conditions of each event, by name and in the order in which they are tried.
use Rattle.std.specs.Prelude.{ℕ, ◌-◌, Bool, true, false, not, ◌&&◌, ◌||◌, nat_eq, nat_lt, nat_le, List, [], ◌∷◌, Option, Some, None}
use Rattle.std.specs.Option.{is_some, option_map}
use Rattle.std.specs.List.{find}
use Rattle.ifl_base.specs.declared.limits.TheConstants.{MAX_BATCH}
use Rattle.ifl_base.specs.declared.word.Flag.{Flag}
use Rattle.ifl_base.specs.declared.word.Flag.TheVariants.{Idle, Busy, Stalled, Abdicated}
use Rattle.ifl_ringcore.specs.declared.event.Event.{Event}
use Rattle.ifl_ringcore.specs.declared.event.Event.TheVariants.{Look, Refuse, Reserve, Behind, Elected, Abdicating, Advance, LeaveIdle, LeaveAbdicated, Stall, TakeOver}
use Rattle.ifl_ringcore.specs.declared.illegal.Illegal.{Illegal}
use Rattle.ifl_ringcore.specs.declared.illegal.Illegal.TheVariants as illegal
use Rattle.ifl_ringcore.specs.declared.sight.Sight.{Sight}
use Rattle.ifl_ringcore.specs.State.{RingState, Reservation, Consumer, reservation_of, consumer_of}

abbrev pub starts_at : ℕ → Option Reservation → Bool
starts_at tail None = false
starts_at tail (Some r) = nat_eq r.start tail

-- how many items the consumer knows of and did not release
abbrev pub known_beyond : ℕ → Option Consumer → ℕ
known_beyond released None = 0
known_beyond released (Some d) = d.known - released

-- how many items the consumer's drain is still to release
abbrev pub budget_left : Option Consumer → ℕ
budget_left None = 0
budget_left (Some d) = d.budget - d.total

-- what the conditions of a seat's events look at: a ring of this size, with so many seats, in this state
abbrev pub sight_of : ℕ → ℕ → RingState → ℕ → Sight
sight_of size seats st seat = record {
  is_seat = nat_lt seat seats;
  is_consumer = is_some (consumer_of seat st.consumer);
  has_reservation = is_some (reservation_of seat st.reservations);
  is_turn = starts_at st.published (reservation_of seat st.reservations);
  is_quiet = nat_eq st.published st.reserved;
  flag = st.flag;
  room = size - 1 - (st.reserved - st.released);
  waiting = st.published - st.released;
  known = known_beyond st.released (consumer_of seat st.consumer);
  budget_left = budget_left (consumer_of seat st.consumer);
}

abbrev pub is_within : ℕ → ℕ → ℕ → Bool
is_within n low high = nat_le low n && nat_le n high

abbrev pub is_busy : Flag → Bool
is_busy Idle = false
is_busy Busy = true
is_busy Stalled = false
is_busy Abdicated = false

-- a consumer left items behind
abbrev pub is_left : Flag → Bool
is_left Idle = false
is_left Busy = false
is_left Stalled = true
is_left Abdicated = true

-- the conditions of an event, where its seat sees this
abbrev pub conditions : Sight → Event → List (Illegal × Bool)
conditions s (Look _) =
    (illegal.Seat, s.is_seat) ∷ []
conditions s (Refuse _ n) =
    (illegal.Seat, s.is_seat) ∷ (illegal.Count, is_within n 1 MAX_BATCH) ∷ (illegal.Role, not s.is_consumer)
    ∷ (illegal.Pending, not s.has_reservation) ∷ (illegal.Room, nat_le s.room n) ∷ []
conditions s (Reserve _ n) =
    (illegal.Seat, s.is_seat) ∷ (illegal.Count, is_within n 1 MAX_BATCH) ∷ (illegal.Role, not s.is_consumer)
    ∷ (illegal.Pending, not s.has_reservation) ∷ (illegal.Room, nat_lt n s.room) ∷ []
conditions s (Behind _) =
    (illegal.Seat, s.is_seat) ∷ (illegal.NoReservation, s.has_reservation) ∷ (illegal.Turn, s.is_turn)
    ∷ (illegal.Flag, is_busy s.flag) ∷ []
conditions s (Elected _ _) =
    (illegal.Seat, s.is_seat) ∷ (illegal.NoReservation, s.has_reservation) ∷ (illegal.Turn, s.is_turn)
    ∷ (illegal.Flag, not (is_busy s.flag)) ∷ []
conditions s (Abdicating _) =
    (illegal.Seat, s.is_seat) ∷ (illegal.NoReservation, s.has_reservation) ∷ (illegal.Turn, s.is_turn) ∷ []
conditions s (Advance _ n) =
    (illegal.Seat, s.is_seat) ∷ (illegal.Role, s.is_consumer) ∷ (illegal.Count, is_within n 1 95)
    ∷ (illegal.Known, nat_le n s.known) ∷ (illegal.Update, nat_eq n s.known || nat_le 64 n || nat_le s.budget_left n)
    ∷ (illegal.Left, nat_lt n s.waiting) ∷ (illegal.Budget, not (nat_le s.budget_left n) || s.is_quiet) ∷ []
conditions s (LeaveIdle _ n) =
    (illegal.Seat, s.is_seat) ∷ (illegal.Role, s.is_consumer) ∷ (illegal.Count, is_within n 1 95)
    ∷ (illegal.Known, nat_le n s.known) ∷ (illegal.Left, nat_eq n s.waiting) ∷ []
conditions s (LeaveAbdicated _ n) =
    (illegal.Seat, s.is_seat) ∷ (illegal.Role, s.is_consumer) ∷ (illegal.Count, is_within n 1 95)
    ∷ (illegal.Known, nat_le n s.known) ∷ (illegal.Budget, nat_le s.budget_left n) ∷ (illegal.Left, nat_lt n s.waiting)
    ∷ (illegal.Quiet, not s.is_quiet) ∷ []
conditions s (Stall _ n) =
    (illegal.Seat, s.is_seat) ∷ (illegal.Role, s.is_consumer) ∷ (illegal.Count, is_within n 0 63)
    ∷ (illegal.Known, nat_lt n s.known) ∷ (illegal.Update, nat_eq n 0 || nat_lt n s.budget_left) ∷ []
conditions s (TakeOver _ _) =
    (illegal.Seat, s.is_seat) ∷ (illegal.Role, not s.is_consumer) ∷ (illegal.Pending, not s.has_reservation)
    ∷ (illegal.Flag, is_left s.flag) ∷ (illegal.Quiet, s.is_quiet) ∷ []

-- the name of the first condition that fails
abbrev pub first_failing : List (Illegal × Bool) → Option Illegal
first_failing cs = option_map (λ (c : Illegal × Bool). c.0) (find (λ (c : Illegal × Bool). not c.1) cs)
