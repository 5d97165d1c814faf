-- What a side's step tells.
use Rattle.std.specs.Prelude.{◌≡◌, ℕ, ◌+◌, ◌-◌, ◌%◌, List, [], ◌∷◌, ◌++◌, length, take, drop, map, replicate, Some, None}
use mathlib.Core.List.{IsPrefix}
use Rattle.atomic_table.specs.Table.{Me, Step}
use Rattle.ifl_desc.specs.declared.desc.Desc.{Desc}
use Rattle.ifl_desc.specs.declared.history.Side.{Side}
use Rattle.ifl_desc.specs.declared.history.Side.TheVariants.{Driver, Device}
use Rattle.ifl_desc.specs.declared.history.Event.{Event}
use Rattle.ifl_desc.specs.declared.history.Event.TheVariants.{Sent, Looked}
use Rattle.ifl_desc.specs.declared.history.Role.{Role}
use Rattle.ifl_desc.specs.declared.history.Role.TheVariants.{End, Full, Whole, Note, Closing}
use Rattle.ifl_desc.specs.declared.history.View.{View}
use Rattle.ifl_desc.specs.History.{other, sent, known, own}
use Rattle.ifl_desc.specs.Rule.{Slot, laid, view, InOrder, IsLawful}
use Rattle.ifl_desc.specs.Calls.{Grew}

-- how far a word b lies ahead of the number a, in a ring of size S
abbrev pub distance : ℕ → ℕ → ℕ → ℕ
distance S a b = (b + (S - a % S)) % S

abbrev pub valued : List (ℕ × Slot) → List Desc
valued [] = []
valued ((k, Some d) ∷ c) = d ∷ valued c
valued ((k, None) ∷ c) = valued c

abbrev pub Mine : Type 0
Mine = Me Slot View

-- a store, which hands the first slots home: as many as `many` says of the step
abbrev pub pushed_by : (Step Slot → List Event → ℕ) → Side → Step Slot → Mine → ℕ → Mine → Type 0
pushed_by many r st m x m' = let n : ℕ = many st m.0.seen in
    (m'.0 ≡ view r m'.0.seen) × Grew r m.0.seen m'.0.seen (Sent r (valued (take n m.1))) × InOrder st.slots m'.0.seen × IsLawful st.slots m'.0.seen × (m'.1 ≡ drop n m.1)

-- as many as the new word lies ahead
abbrev pub further : Side → Step Slot → List Event → ℕ
further r st seen = distance st.slots (length (sent r seen)) st.first

abbrev pub pushed : Side → Step Slot → Mine → ℕ → Mine → Type 0
pushed r = pushed_by (further r) r

-- a step e at which the side counts n more of the other side's, and takes their slots
abbrev pub counted : Side → ℕ → Event → ℕ → Mine → Mine → Type 0
counted r S e n m m' = (m'.0 ≡ view r m'.0.seen) × Grew r m.0.seen m'.0.seen e × InOrder S m'.0.seen × IsLawful S m'.0.seen
    × (m'.1 ≡ laid S (known r m.0.seen) (map Some (take n (drop (known r m.0.seen) (sent (other r) m'.0.seen)))) ++ m.1)

-- a load, which takes all that it finds
abbrev pub pulled : Side → Step Slot → Mine → ℕ → Mine → Type 0
pulled r st m x m' = let n : ℕ = distance st.slots (known r m.0.seen) x in
    (m'.0 ≡ view r m'.0.seen) × Grew r m.0.seen m'.0.seen (Looked r n) × InOrder st.slots m'.0.seen × IsLawful st.slots m'.0.seen × (known r m'.0.seen ≡ length (sent (other r) m'.0.seen))
    × (m'.1 ≡ laid st.slots (known r m.0.seen) (map Some (take n (drop (known r m.0.seen) (sent (other r) m'.0.seen)))) ++ m.1)
    × (x ≡ length (sent (other r) m'.0.seen) % st.slots)

-- the first step takes every slot, each empty
abbrev pub filled : Step Slot → Mine → ℕ → Mine → Type 0
filled st m x m' = (m'.0 ≡ record { role = Full; seen = []; heard = [] }) × (m'.1 ≡ laid st.slots 0 (replicate st.slots None))

-- a load, after which the seat has seen the whole history so far, what it heard too
abbrev pub saw : Side → Step Slot → Mine → ℕ → Mine → Type 0
saw r st m x m' = (m'.0 ≡ view r m'.0.seen) × IsPrefix m.0.seen m'.0.seen × IsPrefix m.0.heard m'.0.seen × (own r m'.0.seen ≡ own r m.0.seen) × InOrder st.slots m'.0.seen × IsLawful st.slots m'.0.seen × (m'.1 ≡ m.1)

-- a load, after which the seat has seen what it heard, where that goes on from what it had seen: with steps of the other side alone
abbrev pub caught : Side → Step Slot → Mine → ℕ → Mine → Type 0
caught r st m x m' = (m'.0 ≡ view r m.0.heard) × (own r m.0.heard ≡ own r m.0.seen) × InOrder st.slots m.0.heard × IsLawful st.slots m.0.heard × (m'.1 ≡ m.1)

-- a load at which the device gives back all that it holds
abbrev pub retired : Step Slot → Mine → ℕ → Mine → Type 0
retired st m x m' = (m'.0 ≡ view Device m'.0.seen) × IsPrefix m.0.seen m'.0.seen × (own Device m'.0.seen ≡ own Device m.0.seen) × InOrder st.slots m'.0.seen × IsLawful st.slots m'.0.seen × (m'.1 ≡ [])

abbrev pub closing : View → View → View
closing v w = record { role = Closing w.seen; seen = v.seen; heard = [] }

-- what the device had seen, of a seat that its seat was joined to
abbrev pub joined : Role → List Event
joined Whole = []
joined Full = []
joined (End r) = []
joined Note = []
joined (Closing g) = g

-- a load of the seat that stands for both sides, which has seen the whole history then
abbrev pub gathered : Step Slot → Mine → ℕ → Mine → Type 0
gathered st m x m' = IsPrefix m.0.seen m'.0.seen × (own Driver m.0.seen ≡ own Driver m'.0.seen) × IsPrefix (joined m.0.role) m'.0.seen × (own Device (joined m.0.role) ≡ own Device m'.0.seen) × IsLawful st.slots m'.0.seen × (m'.1 ≡ m.1)

abbrev pub note : List Event → View
note h = record { role = Note; seen = h; heard = [] }

abbrev pub hearing : View → View → View
hearing v w = record { role = v.role; seen = v.seen; heard = w.seen }

abbrev pub whole : View
whole = record { role = Whole; seen = []; heard = [] }

abbrev pub full : View
full = record { role = Full; seen = []; heard = [] }
