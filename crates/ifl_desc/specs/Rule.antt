-- The rule of a ring of size S, whatever words it has: `tie` says what its words show of the history.
use Rattle.std.specs.Prelude.{◌≡◌, ℕ, zero, suc, ◌+◌, ◌%◌, ◌<◌, ◌≤◌, List, [], ◌∷◌, length, slice_index, slice_set, Option, Some, None}
use mathlib.Core.Option.{some}
use mathlib.Core.Option as maybe
use mathlib.Core.List.{IsPrefix}
use lib.ListN.{get_elem?}
use Rattle.atomic_table.specs.Table.{State, Act, keeps, takes, gives, chain}
use Rattle.ifl_desc.specs.declared.desc.Desc.{Desc}
use Rattle.ifl_desc.specs.declared.history.Side.{Side}
use Rattle.ifl_desc.specs.declared.history.Side.TheVariants.{Driver, Device}
use Rattle.ifl_desc.specs.declared.history.Event.{Event}
use Rattle.ifl_desc.specs.declared.history.Role.{Role}
use Rattle.ifl_desc.specs.declared.history.Role.TheVariants.{Whole, Full, End, Note, Closing}
use Rattle.ifl_desc.specs.declared.history.View.{View}
use Rattle.ifl_desc.specs.History.{other, sent, known, own}
use Rattle.ifl_desc.specs.Frames.{AllFine}

abbrev pub Slot : Type 0
Slot = Option Desc

abbrev pub RingState : Type 0
RingState = State Slot View

-- the entries numbered from a on, each in its slot
abbrev pub laid : {X : Type 0} → ℕ → ℕ → List X → List (ℕ × X)
laid S a [] = []
laid S a (x ∷ xs) = (a % S, x) ∷ laid S (suc a) xs

abbrev pub gives_all : {X : Type 0} → ℕ → Act X
gives_all zero = keeps
gives_all (suc n) = chain gives (gives_all n)

abbrev pub takes_all : {X : Type 0} → ℕ → ℕ → List X → Act X
takes_all S a [] = keeps
takes_all S a (x ∷ xs) = chain (takes_all S (suc a) xs) (takes (a % S) x)

abbrev pub view : Side → List Event → View
view r h = record { role = End r; seen = h; heard = [] }

-- known to the driver <= returned <= known to the device <= rung, and never the whole ring is out
pub record Order (S back returned fetched rung : ℕ) : Type 0 where
  pub told : back ≤ returned
  pub done : returned ≤ fetched
  pub heard : fetched ≤ rung
  pub within : rung < back + S

-- the lengths stand in order at the end of the history
abbrev pub InOrder : ℕ → List Event → Type 0
InOrder S h = Order S (known Driver h) (length (sent Device h)) (known Device h) (length (sent Driver h))

-- the lengths stood in order at every moment of the history, and each side sent whole frames
pub record IsLawful (S : ℕ) (h : List Event) : Type 0 where
  pub order : (g : List Event) → IsPrefix g h → InOrder S g
  pub frames : AllFine h

-- the seat of this role may act for the side r
abbrev pub Acts : Role → Side → Type 0
Acts Whole r = Unit {0}
Acts Full r = Unit {0}
Acts (End Driver) Driver = Unit {0}
Acts (End Driver) Device = ⊥
Acts (End Device) Driver = ⊥
Acts (End Device) Device = Unit {0}
Acts Note r = ⊥
Acts (Closing g) r = Unit {0}

module _ (S : ℕ) (log : List Event) (homes : List (maybe.Option Slot)) where
  abbrev pub Knows : Role → List Event → Type 0
  Knows Whole seen = (log ≡ []) × ((i : ℕ) → i < S → get_elem? homes i ≡ some (some None))
  Knows Full seen = log ≡ []
  Knows (End r) seen = IsPrefix seen log × (own r seen ≡ own r log)
  Knows Note seen = IsPrefix seen log
  Knows (Closing g) seen = IsPrefix seen log × (own Driver seen ≡ own Driver log) × IsPrefix g log × (own Device g ≡ own Device log)

-- a word that is stored as it was changes nothing of what the words show
abbrev pub StaysTied : (List ℕ → List Event → Type 0) → Type 0
StaysTied tie = (i : ℕ) (words : List ℕ) (h : List Event) → tie words h → tie (slice_set words i (slice_index words i)) h

-- the rule: the words show the one history, each entry that neither end holds is at home in its slot, and each seat has seen a beginning of the history
pub record Tied (S : ℕ) (tie : List ℕ → List Event → Type 0) (s : RingState) : Type 0 where
  pub log : List Event
  pub who : Side → ℕ
  pub size : length s.homes ≡ S
  pub room : 0 < S
  pub shows : tie s.words log
  pub order : InOrder S log
  pub lawful : IsLawful S log
  pub at_home : (r : Side) (i : ℕ) (d : Desc) → known (other r) log ≤ i → get_elem? (sent r log) i ≡ some d → get_elem? s.homes (i % S) ≡ some (some (Some d))
  pub each : (j : ℕ) (v : View) → get_elem? s.views j ≡ some v → Knows S log s.homes v.role v.seen
  pub hears : (j : ℕ) (v : View) → get_elem? s.views j ≡ some v → IsPrefix v.heard log
  pub one : (j : ℕ) (v : View) → get_elem? s.views j ≡ some v → (r : Side) → Acts v.role r → j ≡ who r
