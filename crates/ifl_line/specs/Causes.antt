-- Why each accepted frame has its fate.
use Rattle.std.specs.Prelude.{◌≡◌, ℕ, ◌+◌, ◌<◌, ◌≤◌, Bool, List, [], ◌∷◌, ◌++◌, length, All, Some}
use Rattle.std.specs.Int.{div_ceil}
use Rattle.ifl_base.specs.declared.fate.Fate.{Fate}
use Rattle.ifl_base.specs.declared.fate.Fate.TheVariants as fate
use Rattle.ifl_base.specs.declared.ticket.Ticket.{Ticket}
use Rattle.ifl_device.specs.declared.plan.EnginePlan.{EnginePlan}
use Rattle.ifl_pcap.specs.declared.frame.Frame.{Frame}
use Rattle.ifl_ringcore.specs.Counters.{one_if}
use Rattle.ifl_txq.specs.declared.line.OrderLine.{OrderLine}
use Rattle.ifl_txq.specs.Done.{is_reset, is_wire}
use Rattle.ifl_line.specs.declared.rules.Rules.{Rules}
use Rattle.ifl_line.specs.Frames.{IsFit}
use Rattle.ifl_line.specs.Runs.{frame_of}

-- how many segments the frame has once it is compacted
abbrev pub segments_of : Frame → ℕ
segments_of f = div_ceil (length f.bytes) 2048

-- a frame of n segments may have this fate where the adapter takes at most max
abbrev pub IsFateOf : ℕ → ℕ → Fate → Type 0
IsFateOf max n fate.Wire = n ≤ max
IsFateOf max n fate.TooManySegments = max < n
IsFateOf max n fate.Reset = n ≤ max
IsFateOf max n fate.Flush = Unit {0}

-- the frame of the line is as long as its fate says
abbrev pub IsOfLength : ℕ → List (List Frame) → OrderLine → Type 0
IsOfLength max files l = (f : Frame) × (frame_of files l.ticket ≡ Some f) × IsFateOf max (segments_of f) l.fate

-- so is that of each line
abbrev pub AreOfLength : ℕ → List (List Frame) → List OrderLine → Type 0
AreOfLength max files order = All (IsOfLength max files) order

-- how many of these lines have such a fate
abbrev pub lines_of : (Fate → Bool) → List OrderLine → ℕ
lines_of test [] = 0
lines_of test (l ∷ ls) = one_if (test l.fate) + lines_of test ls

-- by the plan, a frame may have this fate behind so many on the wire: a reset comes just behind as many as the engine hangs after, and a flush behind as many as it is stopped after
abbrev pub MayHave : EnginePlan → ℕ → Fate → Type 0
MayHave plan n fate.Wire = Unit {0}
MayHave plan n fate.TooManySegments = Unit {0}
MayHave plan n fate.Reset = (0 < plan.hang_after) × (n ≡ plan.hang_after)
MayHave plan n fate.Flush = plan.flush_after ≡ Some n

-- the fates are those that the plan of an engine gives, whose ring has so many descriptors
pub record FollowsPlan (plan : EnginePlan) (descriptors : ℕ) (order : List OrderLine) : Type 0 where
  -- each line has a fate that it may have behind the wire lines before it
  pub each : (before after : List OrderLine) (l : OrderLine) → order ≡ before ++ l ∷ after → MayHave plan (lines_of is_wire before) l.fate
  -- one reset ends fewer frames than the ring has descriptors
  pub few : lines_of is_reset order < descriptors
  -- no more are on the wire than the engine is stopped after
  pub within : (n : ℕ) → plan.flush_after ≡ Some n → lines_of is_wire order ≤ n

-- the frame of the ticket is on the wire
abbrev pub IsOnWire : List OrderLine → Ticket → Type 0
IsOnWire order t = (before after : List OrderLine) × (order ≡ before ++ record { ticket = t; fate = fate.Wire } ∷ after)

-- the frame of the ticket is on the wire where it is fit and not too long
abbrev pub IsSentWhole : ℕ → Rules → List (List Frame) → List OrderLine → Ticket → Type 0
IsSentWhole max r files order t = (f : Frame) → frame_of files t ≡ Some f → IsFit r f → segments_of f ≤ max → IsOnWire order t
