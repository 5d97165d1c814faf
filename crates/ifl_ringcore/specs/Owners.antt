-- Who has which place of a ring between any two steps.
use Rattle.std.specs.Prelude.{◌≡◌, ℕ, ◌+◌, ◌%◌, ◌<◌, ◌≤◌, Some}
use Rattle.ifl_ringcore.specs.declared.owner.Owner.{Owner}
use Rattle.ifl_ringcore.specs.declared.owner.Owner.TheVariants as owner
use Rattle.ifl_ringcore.specs.State.{RingState, Reservation, Consumer, reservation_of, consumer_of}
use Rattle.ifl_ringcore.specs.Invariant.{reach}

-- who has the number m, of those that are not released
abbrev pub Has : RingState → ℕ → Owner → Type 0
Has st m owner.Free = st.reserved ≤ m
Has st m (owner.Reserver seat) = (h : Reservation) × (reservation_of seat st.reservations ≡ Some h) × (h.start ≤ m) × (m < h.start + h.count)
Has st m owner.Ring = (reach st ≤ m) × (m < st.published)
Has st m (owner.Consumer seat) = (d : Consumer) × (consumer_of seat st.consumer ≡ Some d) × (m < d.known)

-- who has the place, at which one of the numbers lies that a ring of this size has room for
abbrev pub IsOwner : ℕ → RingState → ℕ → Owner → Type 0
IsOwner size st place o = (m : ℕ) × (m % size ≡ place) × (st.released ≤ m) × (m < st.released + size) × Has st m o
