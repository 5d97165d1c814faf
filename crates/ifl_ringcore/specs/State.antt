-- What a ring is at one moment, in numbers that never wrap.
use Rattle.std.specs.Prelude.{ℕ, ◌%◌, cond, eqb, List, [], ◌∷◌, Option, Some, None}
use Rattle.ifl_base.specs.declared.word.Flag.{Flag}
use Rattle.ifl_base.specs.declared.word.Flag.TheVariants.{Idle}
use Rattle.ifl_base.specs.declared.word.RingWord.{RingWord}
use Rattle.ifl_ringcore.specs.declared.history.Meaning.{Meaning}

-- a reservation: the numbers from start on, count of them
pub record Reservation : Type 0 where
  pub seat : ℕ
  pub start : ℕ
  pub count : ℕ

-- a consumer: the tail that it knows, what its drain released so far and is to release,
-- the flag from which that drain began, and how far all drains have released
pub record Consumer : Type 0 where
  pub seat : ℕ
  pub known : ℕ
  pub total : ℕ
  pub budget : ℕ
  pub from : Flag
  pub done : ℕ

-- a ring: how many items were ever reserved, published and released; who holds which of them; and what was published
pub record RingState : Type 0 where
  pub reserved : ℕ
  pub published : ℕ
  pub released : ℕ
  pub flag : Flag
  pub reservations : List Reservation
  pub consumer : Option Consumer
  pub items : List Meaning

-- the ring as it begins
abbrev pub first_state : RingState
first_state = record { reserved = 0; published = 0; released = 0; flag = Idle; reservations = []; consumer = None; items = [] }

-- the word of a ring: its numbers modulo its size
abbrev pub ring_word : ℕ → RingState → RingWord
ring_word size st = record { head = st.reserved % size; tail = st.published % size; cidx = st.released % size; flag = st.flag }

abbrev pub reservation : ℕ → ℕ → ℕ → Reservation
reservation seat start count = record { seat = seat; start = start; count = count }

-- the seat's reservation
abbrev pub reservation_of : ℕ → List Reservation → Option Reservation
reservation_of seat [] = None
reservation_of seat (r ∷ rs) = cond (eqb r.seat seat) (Some r) (reservation_of seat rs)

-- the reservations without the seat's
abbrev pub without : ℕ → List Reservation → List Reservation
without seat [] = []
without seat (r ∷ rs) = cond (eqb r.seat seat) rs (r ∷ without seat rs)

-- the consumer, where it is this seat
abbrev pub consumer_of : ℕ → Option Consumer → Option Consumer
consumer_of seat None = None
consumer_of seat (Some d) = cond (eqb d.seat seat) (Some d) None

-- what a seat has of the ring: its reservation, and its drain
abbrev pub Role : Type 0
Role = Option Reservation × Option Consumer

abbrev pub role_of : ℕ → RingState → Role
role_of seat st = (reservation_of seat st.reservations, consumer_of seat st.consumer)

-- neither a reservation nor a drain
abbrev pub free : Role
free = (None, None)
