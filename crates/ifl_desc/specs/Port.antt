-- What is set and found on a port, and what its two ends know of it.
use Rattle.std.specs.Prelude.{◌≡◌, ℕ, ◌+◌, List, [], ◌∷◌, ◌++◌, map, Option, Some, None}
use mathlib.Core.Option.{some}
use lib.ListN.{get_elem?}
use Rattle.atomic_table.specs.Table.{State, Me, Step}
use Rattle.atomic_table.specs.Seated.{TableId}
use Rattle.ifl_desc.specs.declared.port.PortState.{PortState}
use Rattle.ifl_desc.specs.declared.port.PortState.TheVariants.{Up, Down, Flush}
use Rattle.ifl_desc.specs.declared.signals.PortEvent.{PortEvent}
use Rattle.ifl_desc.specs.declared.signals.PortEvent.TheVariants.{Set, Found}
use Rattle.ifl_desc.specs.declared.signals.PortRole.{PortRole}
use Rattle.ifl_desc.specs.declared.signals.PortRole.TheVariants.{Whole, Writer, Reader, Both, Spent}
use Rattle.ifl_desc.specs.declared.signals.PortView.{PortView}

-- the word of a state
abbrev pub code_of : PortState → ℕ
code_of Up = 0
code_of Down = 1
code_of Flush = 2

-- after Flush nothing but Flush is set
abbrev pub MayFollow : PortState → PortState → Type 0
MayFollow Up t = Unit {0}
MayFollow Down t = Unit {0}
MayFollow Flush Up = ⊥
MayFollow Flush Down = ⊥
MayFollow Flush Flush = Unit {0}

-- the last of these states, where s stood before them
abbrev pub last_after : PortState → List PortState → PortState
last_after s [] = s
last_after s (t ∷ ts) = last_after t ts

-- each of these states may follow the one before it
abbrev pub IsLegalAfter : PortState → List PortState → Type 0
IsLegalAfter s [] = Unit {0}
IsLegalAfter s (t ∷ ts) = MayFollow s t × IsLegalAfter t ts

-- the state of a port on which these were set, in order
abbrev pub state_of : List PortState → PortState
state_of states = last_after Up states

-- all that was set on a port
abbrev pub IsSetting : List PortState → Type 0
IsSetting states = IsLegalAfter Up states

-- what was set in these steps, in order
abbrev pub sets_of : List PortEvent → List PortState
sets_of [] = []
sets_of (Set s ∷ es) = s ∷ sets_of es
sets_of (Found s ∷ es) = sets_of es

-- how many of these steps are looks
abbrev pub looks_of : List PortEvent → ℕ
looks_of [] = 0
looks_of (Set s ∷ es) = looks_of es
looks_of (Found s ∷ es) = looks_of es + 1

-- what the last look of these steps found, where the one before them found f
abbrev pub found_after : Option PortState → List PortEvent → Option PortState
found_after f [] = f
found_after f (Set s ∷ es) = found_after f es
found_after f (Found s ∷ es) = found_after (Some s) es

-- each look found what the last store before it set, where s stood before these steps
abbrev pub AreFoundAfter : PortState → List PortEvent → Type 0
AreFoundAfter s [] = Unit {0}
AreFoundAfter s (Set t ∷ es) = AreFoundAfter t es
AreFoundAfter s (Found t ∷ es) = (t ≡ s) × AreFoundAfter s es

-- all that was done to a port, in order: what was set may follow one another, and each look found what the last store before it set
abbrev pub IsPortHistory : List PortEvent → Type 0
IsPortHistory es = IsSetting (sets_of es) × AreFoundAfter Up es

-- behind the beginning of the history that one end has seen, only the other end stepped
abbrev pub StoresFollow : List PortEvent → List PortEvent → Type 0
StoresFollow seen log = (states : List PortState) × (log ≡ seen ++ map Set states)

abbrev pub LooksFollow : List PortEvent → List PortEvent → Type 0
LooksFollow seen log = (states : List PortState) × (log ≡ seen ++ map Found states)

-- this is the one history of a port whose ends have seen so much of it: each end has seen all of its own steps
pub record IsHistoryOf (writer reader log : List PortEvent) : Type 0 where
  pub history : IsPortHistory log
  pub by_writer : LooksFollow writer log
  pub by_reader : StoresFollow reader log

-- an end saw some steps of the other end more, and then its own
abbrev pub SetsNext : List PortEvent → PortState → List PortEvent → Type 0
SetsNext old s new = (states : List PortState) × (new ≡ (old ++ map Found states) ++ Set s ∷ [])

abbrev pub FindsNext : List PortEvent → PortState → List PortEvent → Type 0
FindsNext old s new = (states : List PortState) × (new ≡ (old ++ map Set states) ++ Found s ∷ [])

-- which port, and all that was set on it
pub record WriterState : Type 0 where
  pub port : TableId
  pub known : List PortState

-- what contracts see of a writer: which port it is of, all that was set on it, and the beginning of the history that it has seen
pub record WriterSees : Type 0 where
  pub port : TableId
  pub known : List PortState
  pub seen : List PortEvent

-- what contracts see of a reader: which port it is of, the beginning that it knows of what was set, how often it looked, what it found last, and the beginning of the history that it has seen
pub record ReaderState : Type 0 where
  pub port : TableId
  pub known : List PortState
  pub loads : ℕ
  pub found : Option PortState
  pub seen : List PortEvent

abbrev pub all_set : WriterSees → WriterState
all_set w = record { port = w.port; known = w.known }

abbrev pub writer_of : TableId → List PortEvent → WriterSees
writer_of port seen = record { port = port; known = sets_of seen; seen = seen }

abbrev pub reader_of : TableId → List PortEvent → ReaderState
reader_of port seen = record { port = port; known = sets_of seen; loads = looks_of seen; found = found_after None seen; seen = seen }

-- what a seat of this role has seen of all that was done
module _ (log : List PortEvent) where
  abbrev pub HasSeen : PortRole → List PortEvent → List PortEvent → Type 0
  HasSeen Whole seen heard = log ≡ []
  HasSeen Writer seen heard = LooksFollow seen log
  HasSeen Reader seen heard = StoresFollow seen log
  HasSeen Both seen heard = LooksFollow seen log × StoresFollow heard log
  HasSeen Spent seen heard = Unit {0}

-- a seat of this role may set
abbrev pub Sets : PortRole → Type 0
Sets Whole = Unit {0}
Sets Writer = Unit {0}
Sets Reader = ⊥
Sets Both = Unit {0}
Sets Spent = ⊥

-- a seat of this role may look
abbrev pub Looks : PortRole → Type 0
Looks Whole = Unit {0}
Looks Writer = ⊥
Looks Reader = Unit {0}
Looks Both = Unit {0}
Looks Spent = ⊥

-- the word is the last state set in one history, of which each end has seen all of its own steps; one seat sets, and one looks
pub record Ported (s : State ℕ PortView) : Type 0 where
  pub log : List PortEvent
  pub writer : ℕ
  pub reader : ℕ
  pub word : s.words ≡ code_of (state_of (sets_of log)) ∷ []
  pub history : IsPortHistory log
  pub each : (j : ℕ) (v : PortView) → get_elem? s.views j ≡ some v → HasSeen log v.role v.seen v.heard
  pub sets : (j : ℕ) (v : PortView) → get_elem? s.views j ≡ some v → Sets v.role → j ≡ writer
  pub looks : (j : ℕ) (v : PortView) → get_elem? s.views j ≡ some v → Looks v.role → j ≡ reader

abbrev pub Mine : Type 0
Mine = Me ℕ PortView

-- the views of a new port's seat, of a writer, of a reader, and of a reader that was joined to the writer
abbrev pub whole_view : PortView
whole_view = record { role = Whole; seen = []; heard = [] }

abbrev pub writer_view : List PortEvent → PortView
writer_view seen = record { role = Writer; seen = seen; heard = [] }

abbrev pub reader_view : List PortEvent → PortView
reader_view seen = record { role = Reader; seen = seen; heard = [] }

abbrev pub spent_view : PortView
spent_view = record { role = Spent; seen = []; heard = [] }

-- the reader is joined to the writer
abbrev pub both_ends : PortView → PortView → PortView
both_ends v w = record { role = Both; seen = v.seen; heard = w.seen }

-- the store of a word, which is the code of the state that is set, behind the whole history
abbrev pub stored : Step ℕ → Mine → ℕ → Mine → Type 0
stored st m x m' = (t : PortState) → code_of t ≡ st.first → SetsNext m.0.seen t m'.0.seen × IsPortHistory m'.0.seen × (m' ≡ (writer_view m'.0.seen, m.1))

-- the load finds the code of the last state that was set, behind the whole history
abbrev pub found_state : Step ℕ → Mine → ℕ → Mine → Type 0
found_state st m x m' = (t : PortState) × (x ≡ code_of t) × FindsNext m.0.seen t m'.0.seen × IsPortHistory m'.0.seen × (m' ≡ (reader_view m'.0.seen, m.1))
