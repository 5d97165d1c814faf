-- What the words of a generation ring of size S show of its history, and what each step on them tells. Word 0 is the doorbell, and word w the completion entry w - 1.
use Rattle.std.specs.Prelude.{◌≡◌, ◌≢◌, ℕ, zero, suc, ◌+◌, ◌-◌, ◌*◌, ◌/◌, ◌%◌, ◌<◌, ◌≤◌, cond, List, [], ◌∷◌, length, take, drop, slice_index}
use Rattle.atomic_table.specs.Table.{Step}
use Rattle.ifl_desc.specs.declared.desc.Desc.{Desc}
use Rattle.ifl_desc.specs.declared.history.Side.TheVariants.{Driver, Device}
use Rattle.ifl_desc.specs.declared.history.Event.{Event}
use Rattle.ifl_desc.specs.declared.history.Event.TheVariants.{Looked}
use Rattle.ifl_desc.specs.History.{sent, known, uncounted}
use Rattle.ifl_desc.specs.Frames.{open_after, frame_size}
use Rattle.ifl_desc.specs.Rule.{Slot, RingState, Tied}
use Rattle.ifl_desc.specs.Plays.{Mine, distance, counted}
use Rattle.ifl_generation.specs.declared.lap.Lap.{Lap}

-- how many frames end in a list: as many as it has marked entries
abbrev pub frames : List Desc → ℕ
frames [] = 0
frames (d ∷ ds) = cond d.last 1 0 + frames ds

-- how many frames the device has returned
abbrev pub made : List Event → ℕ
made h = frames (sent Device h)

-- how many of them the driver has read
abbrev pub read : List Event → ℕ
read h = frames (take (known Driver h) (sent Device h))

-- how many entries the first k frames of a list have together
abbrev pub entries : ℕ → List Desc → ℕ
entries zero ds = 0
entries (suc k) ds = frame_size ds + entries k (drop (frame_size ds) ds)

-- the generation of the frame of number k: 1 in the first lap of the S completion entries, and it flips with each lap
abbrev pub generation : ℕ → ℕ → ℕ
generation S k = suc (k / S) % 2

-- the completion entry of the frame of number k, whose last descriptor has the number just below `behind`: the generation in bit 0, and that descriptor's slot from bit 16 on
abbrev pub completion : ℕ → ℕ → ℕ → ℕ
completion S k behind = generation S k + 65536 * ((behind - 1) % S)

-- what the words show where `rung` entries are rung, the driver has counted `known` entries in `done` frames, and `rest` is returned and not counted: of the next S frames the returned ones have their completion entry, and the words of all others bear the other generation
pub record Shows (S : ℕ) (words : List ℕ) (rung known done : ℕ) (rest : List Desc) : Type 0 where
  pub count : length words ≡ suc S
  pub bell : slice_index words 0 ≡ rung % S
  pub whole : open_after 0 rest ≡ 0
  pub returned : (j : ℕ) → j < frames rest → slice_index words (suc ((done + j) % S)) ≡ completion S (done + j) (known + entries (suc j) rest)
  pub others : (j : ℕ) → frames rest ≤ j → j < S → slice_index words (suc ((done + j) % S)) % 2 ≢ generation S (done + j)

-- the word tie: the doorbell is what was rung, modulo S, and a completion entry bears the generation of a frame exactly where that frame is returned and not read
abbrev pub WordTie : ℕ → List ℕ → List Event → Type 0
WordTie S words h = Shows S words (length (sent Driver h)) (known Driver h) (read h) (uncounted h)

-- the rule of a ring of size S
abbrev pub Holds : ℕ → RingState → Type 0
Holds S = Tied S (WordTie S)

-- an end stands at the completion entry of the frame of number k
pub record IsAt (S k : ℕ) (lap : Lap) : Type 0 where
  pub entry : lap.entry ≡ k % S
  pub generation : lap.generation ≡ generation S k

-- how many entries there are from number a up to and with the slot that a completion entry names
abbrev pub reach : ℕ → ℕ → ℕ → ℕ
reach S a word = distance S a (suc (word / 65536))

-- the device's store of a completion entry returns the entries up to the slot that it names
abbrev pub up_to : Step Slot → List Event → ℕ
up_to st seen = reach st.slots (length (sent Device seen)) st.first

-- the driver's load of the next completion entry: where it bears the generation, the driver counts that frame, and else none is there
pub record Reads (st : Step Slot) (m : Mine) (x : ℕ) (m' : Mine) : Type 0 where
  pub new : x % 2 ≡ generation st.slots (read m.0.seen) → let n : ℕ = reach st.slots (known Driver m.0.seen) x in
      counted Driver st.slots (Looked Driver n) n m m' × (0 < n) × (read m'.0.seen ≡ suc (read m.0.seen)) × (x / 65536 < st.slots)
  pub old : x % 2 ≢ generation st.slots (read m.0.seen) → counted Driver st.slots (Looked Driver 0) 0 m m' × (read m'.0.seen ≡ read m.0.seen) × (known Driver m'.0.seen ≡ length (sent Device m'.0.seen))
