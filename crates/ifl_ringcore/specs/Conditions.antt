-- Which step a seat may make in which state.
use Rattle.std.specs.Prelude.{◌≡◌, ◌≢◌, ℕ, ◌+◌, ◌<◌, ◌≤◌, length, Option, Some, None, ◌⊎◌}
use Rattle.ifl_base.specs.declared.limits.TheConstants.{MAX_BATCH}
use Rattle.ifl_base.specs.declared.word.Flag.TheVariants.{Busy, Stalled, Abdicated}
use Rattle.ifl_ringcore.specs.declared.history.Step.{Step}
use Rattle.ifl_ringcore.specs.declared.history.Step.TheVariants.{Look, Refuse, Reserve, Behind, Elected, Abdicating, Advance, LeaveIdle, LeaveAbdicated, Stall, TakeOver}
use Rattle.ifl_ringcore.specs.State.{RingState, Consumer, reservation, reservation_of, consumer_of}

-- as many items as one reservation takes
abbrev pub IsBatch : ℕ → Type 0
IsBatch n = (1 ≤ n) × (n ≤ MAX_BATCH)

-- the seat is the consumer, and this is so of it
abbrev pub Consumes : ℕ → Option Consumer → (Consumer → Type 0) → Type 0
Consumes seat o F = (d : Consumer) × (o ≡ Some d) × (d.seat ≡ seat) × F d

-- the seat's step may come in this state of a ring of this size;
-- a release is of at most 63 items kept back and a batch of 32
abbrev pub IsAllowed : ℕ → RingState → ℕ → Step → Type 0
IsAllowed size st seat Look = Unit {0}
IsAllowed size st seat (Refuse n) = IsBatch n × (consumer_of seat st.consumer ≡ None) × (reservation_of seat st.reservations ≡ None)
    × (size + st.released ≤ n + st.reserved + 1)
IsAllowed size st seat (Reserve n) = IsBatch n × (consumer_of seat st.consumer ≡ None) × (reservation_of seat st.reservations ≡ None)
    × (n + st.reserved + 1 < size + st.released)
IsAllowed size st seat (Behind xs) = (reservation_of seat st.reservations ≡ Some (reservation seat st.published (length xs))) × (st.flag ≡ Busy)
IsAllowed size st seat (Elected b xs) = (reservation_of seat st.reservations ≡ Some (reservation seat st.published (length xs))) × (st.flag ≢ Busy)
IsAllowed size st seat (Abdicating xs) = reservation_of seat st.reservations ≡ Some (reservation seat st.published (length xs))
IsAllowed size st seat (Advance n) = Consumes seat st.consumer (λ d. (1 ≤ n) × (n ≤ 95) × (st.released + n ≤ d.known)
    × ((st.released + n ≡ d.known) ⊎ (64 ≤ n) ⊎ (d.budget ≤ d.total + n)) × (st.released + n < st.published)
    × ((d.budget ≤ d.total + n) → st.published ≡ st.reserved))
IsAllowed size st seat (LeaveIdle n) = Consumes seat st.consumer (λ d. (1 ≤ n) × (n ≤ 95) × (st.released + n ≤ d.known) × (st.released + n ≡ st.published))
IsAllowed size st seat (LeaveAbdicated n) = Consumes seat st.consumer (λ d. (1 ≤ n) × (n ≤ 95) × (st.released + n ≤ d.known)
    × (d.budget ≤ d.total + n) × (st.released + n < st.published) × (st.published < st.reserved))
IsAllowed size st seat (Stall n) = Consumes seat st.consumer (λ d. (n ≤ 63) × (st.released + n < d.known) × ((n ≡ 0) ⊎ (d.total + n < d.budget)))
IsAllowed size st seat (TakeOver b) = (consumer_of seat st.consumer ≡ None) × (reservation_of seat st.reservations ≡ None)
    × ((st.flag ≡ Stalled) ⊎ (st.flag ≡ Abdicated)) × (st.reserved ≡ st.published)
