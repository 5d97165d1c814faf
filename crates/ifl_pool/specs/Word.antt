-- The rule of the word, and what each step on it tells the pass that makes it.
use Rattle.std.specs.Prelude.{◌≡◌, ◌≢◌, ℕ, ◌+◌, List, [], ◌∷◌}
use Rattle.atomic_table.specs.Table.{State, Me, Step}
use Rattle.atomic_table.specs.Seated.{TableId}
use Rattle.atomic_table.specs.declared.shared.Seat.{Seat}
use Rattle.ifl_pool.specs.declared.history.Event.{Event}
use Rattle.ifl_pool.specs.declared.history.Event.TheVariants.{Take, Give, Empty}
use Rattle.ifl_pool.specs.declared.history.Entry.{Entry}
use Rattle.ifl_pool.specs.declared.word.View.{View}
use Rattle.ifl_pool.specs.History.{counts_of, stock_of, IsPrefix}
use Rattle.ifl_pool.specs.Passes.{IsPass, Did, OnlySaw, IsNewTo}
use Rattle.ifl_pool.specs.Ledger.{IsLedger, view_knowing}

-- the word is what the pool holds after its history
pub record IsCount (size : ℕ) (s : State ℕ View) : Type 0 where
  pub history : List Entry
  pub word : s.words ≡ stock_of size (counts_of history) ∷ []
  pub ledger : IsLedger size history s.views

-- a pass has looked at the word
pub record Looked (v w : View) : Type 0 where
  pub is : w ≡ view_knowing w.known v
  pub saw : OnlySaw v.known w.known
  pub heard : IsPrefix v.heard w.known.seen
  pub pass : IsPass v.size w.known

-- a pass has made this event
pub record Acted (event : Event) (v w : View) : Type 0 where
  pub is : w ≡ view_knowing w.known v
  pub did : Did event v.known w.known
  pub pass : IsPass v.size w.known

-- which word it is, and the size of its pool
pub record WordId : Type 0 where
  pub table : TableId
  pub size : ℕ

-- a seat at the word keeps its table and its size
abbrev pub IsSameSeat : Seat ℕ View → Seat ℕ View → Type 0
IsSameSeat old new = (new.table_id ≡ old.table_id) × (new.me.0.size ≡ old.me.0.size) × (new.me.1 ≡ old.me.1)

-- a seat's view, and the slots that it holds, which are none
abbrev pub Mine : Type 0
Mine = Me ℕ View

-- a take that leaves the word as it is: it has found the pool empty where the word is 0
abbrev pub Found : Mine → ℕ → Mine → Type 0
Found old word new = (word ≡ 0 → Acted Empty old.0 new.0) × (word ≢ 0 → Looked old.0 new.0)

-- the load of a take
abbrev pub FindStep : Step ℕ → Mine → ℕ → Mine → Type 0
FindStep step old word new = Found old word new × (new.1 ≡ old.1)

-- the exchange of a take
abbrev pub TakeStep : Step ℕ → Mine → ℕ → Mine → Type 0
TakeStep step old word new = (word ≡ step.first → Acted Take old.0 new.0) × (word ≢ step.first → Found old word new) × (new.1 ≡ old.1)

-- the exchange of a give
abbrev pub GiveStep : Step ℕ → Mine → ℕ → Mine → Type 0
GiveStep step old word new = (word ≡ step.first → Acted Give old.0 new.0) × (word ≢ step.first → Looked old.0 new.0) × (new.1 ≡ old.1)

-- any other load
abbrev pub LookStep : Step ℕ → Mine → ℕ → Mine → Type 0
LookStep step old word new = Looked old.0 new.0 × (new.1 ≡ old.1)

-- the load before a split: the pass stays as it is, and the number that it is to give away is new to it
abbrev pub SpareStep : Step ℕ → Mine → ℕ → Mine → Type 0
SpareStep step old word new = (new ≡ old) × IsNewTo old.0.known (old.0.known.number + old.0.stride)
