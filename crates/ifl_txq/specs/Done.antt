-- What a queue says when all that it posted is reclaimed.
use Rattle.std.specs.Prelude.{◌≡◌, ℕ, ◌⊎◌, Bool, true, false, cond, List, [], ◌∷◌, length, Option, Some, None}
use Rattle.ifl_ringcore.specs.declared.history.Meaning.{Meaning}
use Rattle.ifl_desc.specs.declared.desc.Desc.{Desc}
use Rattle.ifl_desc.specs.declared.history.Side.TheVariants.{Driver, Device}
use Rattle.ifl_desc.specs.History.{sent}
use Rattle.ifl_base.specs.declared.fate.Fate.{Fate}
use Rattle.ifl_base.specs.declared.fate.Fate.TheVariants as fate
use Rattle.ifl_txq.specs.declared.line.Line.{Line}
use Rattle.ifl_txq.specs.Items.{tag_of, marks_of}
use Rattle.ifl_desc.specs.Frames.{frames_of}
use Rattle.ifl_txq.specs.Frames.{joined, fate_of}
use Rattle.ifl_txq.specs.Queue.{QueueSees}
use Rattle.ifl_txq.specs.Standing.{packets, weight_of, AreOf}

-- a line for each packet, in order, each with one fate
abbrev pub AreLinesOf : List Meaning → List Line → Type 0
AreLinesOf [] lines = lines ≡ []
AreLinesOf (m ∷ ms) [] = ⊥
AreLinesOf (m ∷ ms) (l ∷ lines) = (tag_of l.ticket ≡ m.tag) × ((f : Fate) × (l.fate ≡ Some f)) × AreLinesOf ms lines

-- the marks and the bytes of a frame
abbrev pub marks_shown : List Desc → List ℕ
marks_shown [] = []
marks_shown (d ∷ ds) = marks_of d.stamp

abbrev pub shown : List Desc → List ℕ × List ℕ
shown ds = (marks_shown ds, joined ds)

-- the fate of a frame: that of its last entry's status
abbrev pub frame_fate : List Desc → Fate
frame_fate [] = fate.Reset
frame_fate (d ∷ []) = fate_of d.status
frame_fate (d ∷ (x ∷ ds)) = frame_fate (x ∷ ds)

-- the packet came back as this frame, and has its fate
pub record IsReturned (m : Meaning) (l : Line) (frame : List Desc) : Type 0 where
  pub names : AreOf l.ticket m.marks frame
  pub bytes : joined frame ≡ m.bytes
  pub fate_is : l.fate ≡ Some (frame_fate frame)

-- the packet was not posted
abbrev pub IsUnposted : Line → Type 0
IsUnposted l = (l.fate ≡ Some fate.TooManySegments) ⊎ (l.fate ≡ Some fate.Flush)

-- the frames are those of the packets, in order, but for packets that needed too many segments and some of those that were flushed
abbrev pub AreFramesOf : List Meaning → List Line → List (List Desc) → Type 0
AreFramesOf [] lines frames = frames ≡ []
AreFramesOf (m ∷ ms) [] frames = ⊥
AreFramesOf (m ∷ ms) (l ∷ lines) frames =
    ((frame : List Desc) × (behind : List (List Desc)) × (frames ≡ frame ∷ behind) × IsReturned m l frame × AreFramesOf ms lines behind)
    ⊎ (IsUnposted l × AreFramesOf ms lines frames)

abbrev pub is_wire : Fate → Bool
is_wire fate.Wire = true
is_wire fate.TooManySegments = false
is_wire fate.Reset = false
is_wire fate.Flush = false

abbrev pub is_reset : Fate → Bool
is_reset fate.Wire = false
is_reset fate.TooManySegments = false
is_reset fate.Reset = true
is_reset fate.Flush = false

abbrev pub told : (Fate → Bool) → Option Fate → Bool
told test None = false
told test (Some f) = test f

-- the marks and the bytes of the packets whose line has such a fate, in order
abbrev pub packets_with : (Fate → Bool) → List Meaning → List Line → List (List ℕ × List ℕ)
packets_with test [] lines = []
packets_with test (m ∷ ms) [] = []
packets_with test (m ∷ ms) (l ∷ lines) = cond (told test l.fate) ((m.marks, m.bytes) ∷ packets_with test ms lines) (packets_with test ms lines)

-- the marks and the bytes of the frames with such a fate, in order
abbrev pub frames_with : (Fate → Bool) → List (List Desc) → List (List ℕ × List ℕ)
frames_with test [] = []
frames_with test (f ∷ fs) = cond (test (frame_fate f)) (shown f ∷ frames_with test fs) (frames_with test fs)

-- the order record is that of just these items, with one fate each; the frames that were returned are the packets with fate wire or reset and some of those with fate flush, in order; and all clusters were given back
pub record IsDone (q : QueueSees) (ms : List Meaning) : Type 0 where
  pub lines : AreLinesOf (packets ms) q.log.lines
  pub frames : AreFramesOf (packets ms) q.log.lines (frames_of (sent Device q.driver.seen))
  pub wire : packets_with is_wire (packets ms) q.log.lines ≡ frames_with is_wire (frames_of (sent Device q.driver.seen))
  pub reset : packets_with is_reset (packets ms) q.log.lines ≡ frames_with is_reset (frames_of (sent Device q.driver.seen))
  pub all : length (sent Device q.driver.seen) ≡ length (sent Driver q.driver.seen)
  pub took_none : q.pass.known.counts.taken ≡ 0
  pub clusters : q.pass.known.counts.given ≡ weight_of ms
