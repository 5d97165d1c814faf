-- What the machine keeps of a ring: its numbers modulo the size, and all else as it is.
use Rattle.std.specs.Prelude.{◌≡◌, ℕ, ◌-◌, ◌%◌, ◌^◌, ◌<◌, ◌≤◌, min, List, length, Option, Some, None, slice_index_or}
use Rattle.std.specs.Option.{ForSome}
use Rattle.ifl_base.specs.Word.{IsWithin}
use Rattle.ifl_base.specs.declared.word.RingWord.{RingWord}
use Rattle.ifl_ringcore.specs.declared.counters.Counters.{Counters}
use Rattle.ifl_ringcore.specs.declared.kept.Held.{Held}
use Rattle.ifl_ringcore.specs.declared.kept.Drain.{Drain}
use Rattle.ifl_ringcore.specs.State.{RingState, Reservation, Consumer, ring_word, reservation_of}
use Rattle.ifl_ringcore.specs.Invariant.{RingInvariant}

pub record Kept : Type 0 where
  pub size : ℕ
  pub seats : ℕ
  pub word : RingWord
  pub held : List (Option Held)
  pub drain : Option Drain
  pub counters : Counters

-- the reservation that is kept of a seat
abbrev pub held_by : ℕ → List (Option Held) → Option Held
held_by seat held = slice_index_or held seat None

-- how many items it takes
abbrev pub count_in : Option Held → ℕ
count_in None = 0
count_in (Some h) = h.count

-- a reservation, and a consumer, as they are kept
abbrev pub held_of : ℕ → Option Reservation → Option Held
held_of size None = None
held_of size (Some r) = Some record { start = r.start % size; count = r.count }

abbrev pub drain_of : ℕ → Option Consumer → Option Drain
drain_of size None = None
drain_of size (Some d) = Some record { seat = d.seat; known = d.known % size; total = min d.total (2 ^ 64 - 1); budget = d.budget; from = d.from }

-- the machine stands for each state that meets the ring's invariant and of which this is kept
pub record StandsFor (m : Kept) (st : RingState) : Type 0 where
  pub lawful : RingInvariant m.size st
  pub word : m.word ≡ ring_word m.size st
  pub held : (seat : ℕ) → held_by seat m.held ≡ held_of m.size (reservation_of seat st.reservations)
  pub drain : m.drain ≡ drain_of m.size st.consumer

-- what the machine holds to by itself: each number fits
pub record IsSound (m : Kept) : Type 0 where
  pub size : 4 ≤ m.size
  pub small : m.size ≤ 65536
  pub seats : length m.held ≡ m.seats
  pub places : IsWithin m.size m.word
  pub counts : (seat : ℕ) → count_in (held_by seat m.held) < m.size
  pub consumer : ForSome m.drain (λ d. (d.known < m.size) × (d.budget < 2 ^ 32))
