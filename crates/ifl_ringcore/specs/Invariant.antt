-- What holds of a ring between any two steps.
use Rattle.std.specs.Prelude.{◌≡◌, ◌≢◌, ℕ, ◌+◌, ◌<◌, ◌≤◌, List, [], ◌∷◌, length, Option, Some, None}
use Rattle.ifl_base.specs.declared.word.Flag.TheVariants.{Idle, Busy}
use Rattle.ifl_ringcore.specs.State.{RingState, Reservation, Consumer, reservation_of}

-- the reservations lie side by side, in order, and cover the numbers from p to r
abbrev pub Cover : ℕ → List Reservation → ℕ → Type 0
Cover p [] r = p ≡ r
Cover p (h ∷ hs) r = (h.start ≡ p) × (1 ≤ h.count) × Cover (p + h.count) hs r

-- no seat has two reservations
abbrev pub AreOnePerSeat : List Reservation → Type 0
AreOnePerSeat [] = Unit {0}
AreOnePerSeat (h ∷ hs) = (reservation_of h.seat hs ≡ None) × AreOnePerSeat hs

-- a ring is busy exactly where it has a consumer; that one knows of items to release, and has no reservation
abbrev pub Tends : RingState → Option Consumer → Type 0
Tends st None = st.flag ≢ Busy
Tends st (Some d) = (st.flag ≡ Busy) × (st.released < d.known) × (d.known ≤ st.published) × (reservation_of d.seat st.reservations ≡ None) × (d.done ≡ st.released)

pub record RingInvariant (size : ℕ) (st : RingState) : Type 0 where
  pub released : st.released ≤ st.published
  pub within : st.reserved + 2 ≤ st.released + size
  pub covered : Cover st.published st.reservations st.reserved
  pub once : AreOnePerSeat st.reservations
  pub idle : st.flag ≡ Idle → st.released ≡ st.published
  pub waits : st.released ≡ st.published → st.flag ≡ Idle
  pub tended : Tends st st.consumer
  pub counted : length st.items ≡ st.published

-- the number up to which the consumer has the items
abbrev pub reach_of : ℕ → Option Consumer → ℕ
reach_of released None = released
reach_of released (Some d) = d.known

abbrev pub reach : RingState → ℕ
reach st = reach_of st.released st.consumer
