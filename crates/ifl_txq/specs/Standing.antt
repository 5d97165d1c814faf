-- Which items a queue has taken, as its log, its end of the ring and its pass tell it.
use Rattle.std.specs.Prelude.{◌≡◌, ◌≢◌, ℕ, ◌+◌, ◌%◌, ◌/◌, ◌^◌, ◌<◌, ◌≤◌, ◌⊎◌, eqb, cond, List, [], ◌∷◌, length, drop, slice_index, Option, Some, None}
use Rattle.std.specs.Int.{div_ceil}
use Rattle.ifl_base.specs.declared.ticket.Ticket.{Ticket}
use Rattle.ifl_ringcore.specs.declared.history.Meaning.{Meaning}
use Rattle.ifl_desc.specs.declared.desc.Desc.{Desc}
use Rattle.ifl_desc.specs.declared.history.Side.TheVariants.{Driver, Device}
use Rattle.ifl_desc.specs.History.{sent}
use Rattle.ifl_desc.specs.Ends.{DriverSees, posted}
use Rattle.ifl_base.specs.declared.fate.Fate.{Fate}
use Rattle.ifl_base.specs.declared.fate.Fate.TheVariants as fate
use Rattle.ifl_txq.specs.Items.{tag_of, kick_tag, marks_of}
use Rattle.ifl_desc.specs.Frames.{frames_of, AreReturnsOf}
use Rattle.ifl_txq.specs.Frames.{fates_of, joined}
use Rattle.ifl_txq.specs.declared.line.Line.{Line}
use Rattle.ifl_txq.specs.Queue.{QueueSees, posted_list, reclaimed_list, SawFlush}

-- the packets of a list: all but the kicks
abbrev pub packets : List Meaning → List Meaning
packets [] = []
packets (m ∷ ms) = cond (eqb m.tag kick_tag) (packets ms) (m ∷ packets ms)

-- how many clusters they hold
abbrev pub weight_of : List Meaning → ℕ
weight_of [] = 0
weight_of (m ∷ ms) = m.weight + weight_of ms

-- none of these bears the number
abbrev pub IsNew : ℕ → List Meaning → Type 0
IsNew tag [] = Unit {0}
IsNew tag (m ∷ ms) = (m.tag ≢ tag) × IsNew tag ms

-- no two bear one number
abbrev pub AreDistinct : List Meaning → Type 0
AreDistinct [] = Unit {0}
AreDistinct (m ∷ ms) = IsNew m.tag ms × AreDistinct ms

-- each bears the number of a ticket in the tables
abbrev pub AreListed : List ℕ → List Meaning → Type 0
AreListed counts [] = Unit {0}
AreListed counts (m ∷ ms) = (m.tag % 2 ^ 32 < slice_index counts (m.tag / 2 ^ 32)) × AreListed counts ms

-- the packets' tickets are distinct and lie in the tables
abbrev pub AreTickets : List ℕ → List Meaning → Type 0
AreTickets counts ms = AreDistinct (packets ms) × AreListed counts (packets ms)

-- all that the driver has seen returned was completed with nothing but its status changed
abbrev pub IsFaithful : DriverSees → Type 0
IsFaithful d = AreReturnsOf (sent Driver d.seen) (sent Device d.seen)

-- each entry of the frame bears this ticket and these marks
abbrev pub AreOf : Ticket → List ℕ → List Desc → Type 0
AreOf t marks [] = Unit {0}
AreOf t marks (d ∷ ds) = (d.ticket ≡ t) × (marks_of d.stamp ≡ marks) × AreOf t marks ds

-- so many clusters are needed for the bytes of a packet
abbrev pub need_of : Meaning → ℕ
need_of m = div_ceil (length m.bytes) 2048

abbrev pub first_fate : List Fate → Option Fate
first_fate [] = None
first_fate (x ∷ xs) = Some x

-- the packet was posted as this frame, and has the fate of its return, if it was reclaimed
pub record IsPosted (max : ℕ) (m : Meaning) (l : Line) (frame : List Desc) (fates : List Fate) : Type 0 where
  pub fits : need_of m ≤ max
  pub names : AreOf l.ticket m.marks frame
  pub bytes : joined frame ≡ m.bytes
  pub fate_is : l.fate ≡ first_fate fates

-- the packet has too many segments, and was not posted
pub record IsTooLong (max : ℕ) (m : Meaning) (l : Line) : Type 0 where
  pub long : max < need_of m
  pub fate_is : l.fate ≡ Some fate.TooManySegments

-- the packet was taken when the port was being stopped, and none behind it is posted
pub record IsFlushed (saw : Type 0) (l : Line) (frames : List (List Desc)) : Type 0 where
  pub saw_is : saw
  pub fate_is : l.fate ≡ Some fate.Flush
  pub none : frames ≡ []

module _ (max : ℕ) (saw : Type 0) where
  -- a line of the log for each packet, in order; each was posted as the next frame, or is too long, or was flushed; and no frame is of another packet
  abbrev pub Tells : List Meaning → List Line → List (List Desc) → List Fate → Type 0
  Tells [] lines frames fates = (lines ≡ []) × (frames ≡ []) × (fates ≡ [])
  Tells (m ∷ ms) [] frames fates = ⊥
  Tells (m ∷ ms) (l ∷ lines) frames fates = (tag_of l.ticket ≡ m.tag)
      × (((frame : List Desc) × (behind : List (List Desc)) × (frames ≡ frame ∷ behind) × IsPosted max m l frame fates × Tells ms lines behind (drop 1 fates))
      ⊎ ((IsTooLong max m l × Tells ms lines frames fates) ⊎ (IsFlushed saw l frames × Tells ms lines frames fates)))

-- the queue has taken just these, in this order
pub record Stands (q : QueueSees) (ms : List Meaning) : Type 0 where
  pub tells : Tells q.max_segs (SawFlush q.reader) (packets ms) q.log.lines (frames_of (posted_list q.driver)) (fates_of (reclaimed_list q.driver))
  pub took_none : q.pass.known.counts.taken ≡ 0
  pub clusters : q.pass.known.counts.given + posted q.driver ≡ q.driver.back + weight_of ms

-- what a queue stands for: lists of items whose tickets are distinct and in its tables, as long as all that was returned is as it was posted but for the status
abbrev pub QueueStandsFor : QueueSees → List Meaning → Type 0
QueueStandsFor q ms = IsFaithful q.driver → AreTickets q.log.counts ms → Stands q ms
