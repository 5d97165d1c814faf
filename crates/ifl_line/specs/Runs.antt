-- What a whole run comes to, in terms of its captures, the history of its ring and its away lines.
use Rattle.std.specs.Prelude.{◌≡◌, ℕ, ◌+◌, ◌/◌, ◌%◌, ◌^◌, ◌<◌, ◌≤◌, ◌⊎◌, List, [], ◌∷◌, ◌++◌, length, map, All, AllPairs, Option, Some, slice_get, option_and_then}
use Rattle.std.specs.List.Sorted.{IsPermutation}
use Rattle.ifl_base.specs.declared.ticket.Ticket.{Ticket}
use Rattle.ifl_pcap.specs.declared.frame.Frame.{Frame}
use Rattle.ifl_ringcore.specs.declared.history.Entry.{Entry}
use Rattle.ifl_ringcore.specs.declared.history.Meaning.{Meaning}
use Rattle.ifl_line.specs.declared.away_line.AwayLine.{AwayLine}
use Rattle.ifl_line.specs.declared.rules.Rules.{Rules}
use Rattle.ifl_line.specs.Frames.{IsFit, MayTurn}
use Rattle.ifl_line.specs.Meanings.{packet_of}
use Rattle.ifl_line.specs.Steps.{items_of, packets}

-- all items that a history published, in order
abbrev pub published : List Entry → List Meaning
published [] = []
published (e ∷ es) = items_of e.event ++ published es

abbrev pub ticket : ℕ → ℕ → Ticket
ticket sender index = record { sender = sender; index = index }

-- the ticket of a packet
abbrev pub ticket_of : Meaning → Ticket
ticket_of m = ticket (m.tag / 2 ^ 32) (m.tag % 2 ^ 32)

-- the tickets of one file's records, from a number on
abbrev pub tickets_from : ℕ → ℕ → List Frame → List Ticket
tickets_from s k [] = []
tickets_from s k (f ∷ fs) = ticket s k ∷ tickets_from s (k + 1) fs

-- those of all files, from a file on
abbrev pub all_from : ℕ → List (List Frame) → List Ticket
all_from s [] = []
all_from s (fs ∷ fss) = tickets_from s 0 fs ++ all_from (s + 1) fss

abbrev pub all_lines : List (List AwayLine) → List AwayLine
all_lines [] = []
all_lines (ls ∷ lss) = ls ++ all_lines lss

-- no file has more records than a ticket can number
abbrev pub AreShort : List (List Frame) → Type 0
AreShort [] = Unit {0}
AreShort (fs ∷ fss) = (length fs ≤ 4294967296) × AreShort fss

-- of two tickets of one sender, the earlier has the lower record
abbrev pub IsInFileOrder : Ticket → Ticket → Type 0
IsInFileOrder a b = a.sender ≡ b.sender → a.index < b.index

abbrev pub IsBefore : Ticket → Ticket → Type 0
IsBefore a b = (a.sender < b.sender) ⊎ ((a.sender ≡ b.sender) × (a.index < b.index))

abbrev pub frame_of : List (List Frame) → Ticket → Option Frame
frame_of files t = option_and_then (λ fs. slice_get fs t.index) (slice_get files t.sender)

-- a packet is the fit frame that its ticket names
abbrev pub IsPacketOf : Rules → List (List Frame) → Meaning → Type 0
IsPacketOf r files m = (f : Frame) × (frame_of files (ticket_of m) ≡ Some f) × IsFit r f × (m ≡ packet_of r.seg_bytes (ticket_of m).sender (ticket_of m).index f)

-- a line's frame may be turned away for what it says
abbrev pub IsLineOf : ℕ → Rules → List (List Frame) → AwayLine → Type 0
IsLineOf size r files l = (f : Frame) × (frame_of files l.ticket ≡ Some f) × MayTurn size r f l.away

-- the packets of a history and the away lines, senders one after another, are a lawful account of the files
pub record IsAccount (size : ℕ) (r : Rules) (files : List (List Frame)) (history : List Entry) (turned : List (List AwayLine)) : Type 0 where
  -- every record stands in exactly one of the two lists, and no other does
  pub each_once : IsPermutation (all_from 0 files) (map ticket_of (packets history) ++ map (λ l. l.ticket) (all_lines turned))
  -- each sender's packets stand in the order of its file
  pub in_file_order : AllPairs IsInFileOrder (map ticket_of (packets history))
  -- the away lines stand in the order of sender and record
  pub away_in_order : AllPairs IsBefore (map (λ l. l.ticket) (all_lines turned))
  -- packets are fit frames, whole
  pub fit : All (IsPacketOf r files) (packets history)
  -- the others are what their line says
  pub turned_away : All (IsLineOf size r files) (all_lines turned)
