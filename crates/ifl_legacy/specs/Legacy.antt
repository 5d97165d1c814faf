-- What the words of a legacy ring of size S show of its history, and what each step on them tells. Word 0 is the doorbell, and word w the status of the entry in slot w - 1.
use Rattle.std.specs.Prelude.{◌≡◌, ℕ, suc, ◌+◌, ◌%◌, ◌<◌, Bool, true, cond, List, [], ◌∷◌, length, slice_index}
use Rattle.atomic_table.specs.Table.{Step}
use Rattle.ifl_desc.specs.declared.desc.Desc.{Desc}
use Rattle.ifl_desc.specs.declared.history.Side.TheVariants.{Driver}
use Rattle.ifl_desc.specs.declared.history.Event.{Event}
use Rattle.ifl_desc.specs.declared.history.Event.TheVariants.{Looked, Cleared}
use Rattle.ifl_desc.specs.History.{sent, known, uncounted}
use Rattle.ifl_desc.specs.Frames.{open_after, frame_size}
use Rattle.ifl_desc.specs.Rule.{Slot, RingState, Tied}
use Rattle.ifl_desc.specs.Plays.{Mine, counted}

-- the statuses of these entries, where the first of them begins a frame or not: at a frame's first entry the number of its entries, and 0 at every other
abbrev pub statuses : Bool → List Desc → List ℕ
statuses begins [] = []
statuses begins (d ∷ ds) = cond begins (frame_size (d ∷ ds)) 0 ∷ statuses d.last ds

-- the word tie: the doorbell is what was rung, modulo S. Of the S entries behind those that the driver has counted, the first one of a returned frame has as its status the number of the frame's entries, and every other one has 0
pub record WordTie (S : ℕ) (words : List ℕ) (h : List Event) : Type 0 where
  pub count : length words ≡ suc S
  pub bell : slice_index words 0 ≡ length (sent Driver h) % S
  pub whole : open_after 0 (uncounted h) ≡ 0
  pub status : (j : ℕ) → j < S → slice_index words (suc ((known Driver h + j) % S)) ≡ slice_index (statuses true (uncounted h)) j

-- the rule of a ring of size S
abbrev pub Holds : ℕ → RingState → Type 0
Holds S = Tied S (WordTie S)

-- the device's store of a status returns as many entries as it says
abbrev pub named : Step Slot → List Event → ℕ
named st seen = st.first

-- the driver's load of the status behind what it has counted shows how many entries the first returned frame there has, or 0 where there is none
abbrev pub peeked : Step Slot → Mine → ℕ → Mine → Type 0
peeked st m x m' = counted Driver st.slots (Looked Driver 0) 0 m m' × (open_after 0 (uncounted m'.0.seen) ≡ 0) × (x ≡ frame_size (uncounted m'.0.seen))

-- its store of 0 there is the step at which it counts the frame
abbrev pub cleared : Step Slot → Mine → ℕ → Mine → Type 0
cleared st m x m' = let n : ℕ = frame_size (uncounted m.0.seen) in counted Driver st.slots (Cleared n) n m m'
