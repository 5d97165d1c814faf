-- What a closed ring stands for.
use Rattle.std.specs.Prelude.{◌≡◌, ℕ, List, [], ◌∷◌, map, take, drop, None}
use Rattle.ifl_base.specs.declared.word.RingWord.{RingWord}
use Rattle.ifl_base.specs.declared.word.Flag.TheVariants.{Stalled}
use Rattle.ifl_ringcore.specs.declared.history.Entry.{Entry}
use Rattle.ifl_ringcore.specs.declared.history.Meaning.{Meaning}
use Rattle.ifl_ringcore.specs.State.{first_state, ring_word}
use Rattle.ifl_ringcore.specs.History.{state_after, IsLegalHistory}
use Rattle.ifl_ringcore.specs.Invariant.{RingInvariant}
use Rattle.ifl_ring.specs.declared.place.Place.{Place}
use Rattle.ifl_ring.specs.declared.view.View.{View}
use Rattle.ifl_ring.specs.Acts.{item_in}

-- how many places the ring had, all that was done with it, and the items that are left
pub record ClosedState (I : Type 0) : Type 0 where
  pub size : ℕ
  pub history : List Entry
  pub left : List I

-- a history after which nobody has a reservation or a drain
pub record IsEnded (size : ℕ) (history : List Entry) : Type 0 where
  pub legal : IsLegalHistory size first_state history
  pub lawful : RingInvariant size (state_after first_state history)
  pub reservations : (state_after first_state history).reservations ≡ []
  pub consumer : (state_after first_state history).consumer ≡ None

-- the meanings of the items published and not released, in order
abbrev pub left_after : List Entry → List Meaning
left_after history = drop (state_after first_state history).released (state_after first_state history).items

-- the meanings of the items released
abbrev pub released_after : List Entry → List Meaning
released_after history = take (state_after first_state history).released (state_after first_state history).items

-- the word and the items left are those of the end of this history
pub record IsClosed {I : Type 0} (meaning : I → Meaning) (size : ℕ) (history : List Entry) (w : RingWord) (left : List I) : Type 0 where
  pub ended : IsEnded size history
  pub word : w ≡ ring_word size (state_after first_state history)
  pub left_are : map meaning left ≡ left_after history

-- a drainer that was made with o, has taken what was released, and is full where the word says stalled
pub record IsHandedBack {D O : Type 0} (origin : D → O) (settled full : D → Type 0) (stands_for : D → List Meaning → Type 0) (o : O) (history : List Entry) (d : D) : Type 0 where
  pub settled_is : settled d
  pub origin_is : origin d ≡ o
  pub stands : stands_for d (released_after history)
  pub stalled : (state_after first_state history).flag ≡ Stalled → full d

-- the history that a seat had seen last
abbrev pub last_seen : {O : Type 0} → List (View O) → List Entry
last_seen [] = []
last_seen (v ∷ vs) = v.known.seen

-- the items that lie in a row of slots
abbrev pub items_lying : {I D : Type 0} → List (Place I D) → List I
items_lying [] = []
items_lying (x ∷ xs) = item_in x (items_lying xs)
