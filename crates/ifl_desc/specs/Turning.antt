-- The rule of a turnstile, and what its steps tell.
use Rattle.std.specs.Prelude.{◌≡◌, ◌≢◌, ◌↔◌, ℕ, zero, suc, ◌+◌, ◌-◌, ◌/◌, ◌<◌, ◌≤◌, true, false, List, [], ◌∷◌, length, Option, Some, None, slice_index}
use mathlib.Core.Option.{some, none}
use mathlib.Core.Option as maybe
use lib.ListN.{get_elem?}
use Rattle.atomic_table.specs.Table.{State, Me, Step, rest}
use Rattle.ifl_base.specs.declared.limits.TheConstants.{PART}
use Rattle.ifl_desc.specs.declared.turns.TurnView.{TurnView}

module _ {E O : Type 0} where
  abbrev pub parts : List (TurnView E O) → ℕ
  parts [] = 0
  parts (v ∷ vs) = v.part + parts vs

  abbrev pub first_view : O → TurnView E O
  first_view o = record { part = PART; holds = false; turns = 0; looks = 0; origin = Some o; found = None; left = None }

module _ {E O : Type 0} where
  abbrev pub left_half : TurnView E O → TurnView E O
  left_half v = record { part = v.part - v.part / 2; holds = v.holds; turns = v.turns; looks = v.looks; origin = v.origin; found = v.found; left = v.left }

  abbrev pub right_half : TurnView E O → TurnView E O
  right_half v = record { part = v.part / 2; holds = false; turns = 0; looks = 0; origin = v.origin; found = None; left = None }

  abbrev pub both_parts : TurnView E O → TurnView E O → TurnView E O
  both_parts v w = record { part = v.part + w.part; holds = v.holds; turns = v.turns + w.turns; looks = v.looks + w.looks; origin = v.origin; found = v.found; left = v.left }

  -- it found the turn taken once more
  abbrev pub looked_at : TurnView E O → TurnView E O
  looked_at v = record v { looks = v.looks + 1 }

  abbrev pub nobody : TurnView E O
  nobody = record { part = 0; holds = false; turns = 0; looks = 0; origin = None; found = None; left = None }

-- what lies in the first slot that is out
abbrev pub first_slot : {E : Type 0} → List (ℕ × Option E) → Option E
first_slot [] = None
first_slot (x ∷ c) = x.1

abbrev pub Mine : Type 0 → Type 0 → Type 0
Mine E O = Me (Option E) (TurnView E O)

module _ {E O : Type 0} where
  -- the value is home, and it has this origin
  abbrev pub IsHome : (E → O) → O → List (maybe.Option (Option E)) → Type 0
  IsHome origin o homes = (e : E) × (get_elem? homes 0 ≡ some (some (Some e))) × (origin e ≡ o)

  -- the value is home exactly where the word is 0
  abbrev pub IsHomeWhereFree : (E → O) → O → State (Option E) (TurnView E O) → Type 0
  IsHomeWhereFree origin o s = (slice_index s.words 0 ≡ 0) ↔ IsHome origin o s.homes

  -- held is 0, or one more than the number of the seat that has the turn: the value is home, or the slot is out
  abbrev pub InPhase : (E → O) → O → List ℕ → List (maybe.Option (Option E)) → ℕ → Type 0
  InPhase origin o words homes zero = (slice_index words 0 ≡ 0) × IsHome origin o homes
  InPhase origin o words homes (suc j) = (slice_index words 0 ≡ 1) × (get_elem? homes 0 ≡ some none)

  pub record Turning (origin : E → O) (o : O) (s : State (Option E) (TurnView E O)) : Type 0 where
    pub held : ℕ
    pub count : length s.words ≡ 1
    pub phase : InPhase origin o s.words s.homes held
    pub holds : (j : ℕ) (v : TurnView E O) → get_elem? s.views j ≡ some v → v.holds ≡ true → (held ≡ suc j) × (0 < v.part)
    pub lacks : (j : ℕ) (v : TurnView E O) → get_elem? s.views j ≡ some v → v.holds ≡ false → held ≢ suc j
    pub within : held ≤ length s.views
    pub whole : parts s.views ≡ PART
    pub origins : (j : ℕ) (v : TurnView E O) → get_elem? s.views j ≡ some v → 0 < v.part → v.origin ≡ Some o

  -- it took the turn and the value
  abbrev pub Got : (E → O) → Mine E O → Mine E O → Type 0
  Got origin m m' = (e : E) × (m'.0 ≡ record m.0 { holds = true; turns = m.0.turns + 1; found = Some e }) × (m'.1 ≡ (0, Some e) ∷ m.1) × (m.0.origin ≡ Some (origin e))

  -- one exchange of 0 for 1
  abbrev pub tried : (E → O) → Step (Option E) → Mine E O → ℕ → Mine E O → Type 0
  tried origin st m x m' = (x ≡ 0 → Got origin m m') × (x ≢ 0 → (x ≡ 1) × (m' ≡ (looked_at m.0, m.1)))

  -- the store that gives the turn, with what lies in the slot
  abbrev pub gave : Step (Option E) → Mine E O → ℕ → Mine E O → Type 0
  gave st m x m' = (m'.0 ≡ record m.0 { holds = false; left = first_slot m.1 }) × (m'.1 ≡ rest m.1)
