-- The order record as it grows: the tickets that were noted, in order, each with its fate once it is settled.
use Rattle.std.specs.Prelude.{◌≡◌, ℕ, ◌^◌, ◌<◌, Bool, false, not, ◌&&◌, ◌||◌, eqb, ltb, cond, List, [], ◌∷◌, ◌++◌, slice_index, Option, Some, None}
use Rattle.ifl_base.specs.declared.ticket.Ticket.{Ticket}
use Rattle.ifl_base.specs.declared.fate.Fate.{Fate}
use Rattle.ifl_txq.specs.declared.line.Line.{Line}
use Rattle.ifl_txq.specs.declared.line.OrderLine.{OrderLine}

-- how many tickets of each sender the tables have, and the lines so far
pub record LogSees : Type 0 where
  pub counts : List ℕ
  pub lines : List Line

-- the numbers of the ticket fit their types
abbrev pub FitsIn : Ticket → Type 0
FitsIn t = (t.sender < 2 ^ 16) × (t.index < 2 ^ 32)

-- the same ticket
abbrev pub is_same : Ticket → Ticket → Bool
is_same a b = eqb a.sender b.sender && eqb a.index b.index

-- the ticket lies in the tables
abbrev pub is_listed : List ℕ → Ticket → Bool
is_listed counts t = ltb t.index (slice_index counts t.sender)

-- the ticket has a line
abbrev pub is_noted : Ticket → List Line → Bool
is_noted t [] = false
is_noted t (l ∷ ls) = is_same l.ticket t || is_noted t ls

-- a line without a fate
abbrev pub open_line : Ticket → Line
open_line t = record { ticket = t; fate = None }

-- the ticket is next in the order, where it lies in the tables and has no line yet
abbrev pub noted : List ℕ → Ticket → List Line → List Line
noted counts t ls = cond (is_listed counts t && not (is_noted t ls)) (ls ++ open_line t ∷ []) ls

-- a fate stays
abbrev pub fate_or : Option Fate → Fate → Option Fate
fate_or None f = Some f
fate_or (Some g) f = Some g

-- the line of the ticket gets its fate, where there is one and it has none yet
abbrev pub settled : Ticket → Fate → List Line → List Line
settled t f [] = []
settled t f (l ∷ ls) = cond (is_same l.ticket t) (record { ticket = l.ticket; fate = fate_or l.fate f } ∷ ls) (l ∷ settled t f ls)

-- the log after these
abbrev pub after_note : Ticket → LogSees → LogSees
after_note t log = record { counts = log.counts; lines = noted log.counts t log.lines }

abbrev pub after_settle : Ticket → Fate → LogSees → LogSees
after_settle t f log = record { counts = log.counts; lines = settled t f log.lines }

-- the line has its fate
abbrev pub IsTold : Line → Type 0
IsTold l = (f : Fate) × (l.fate ≡ Some f)

-- each line has its fate
abbrev pub AreTold : List Line → Type 0
AreTold [] = Unit {0}
AreTold (l ∷ ls) = IsTold l × AreTold ls

-- a line of the order record, as the log keeps it
abbrev pub kept : OrderLine → Line
kept l = record { ticket = l.ticket; fate = Some l.fate }
