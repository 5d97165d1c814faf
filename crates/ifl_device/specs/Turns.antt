-- What a turn and its steps do.
use Rattle.std.specs.Prelude.{◌≡◌, ℕ, suc, ◌+◌, ◌%◌, ◌<◌, ◌≤◌, ◌⊎◌, true, false, cond, nat_eq, List, [], ◌∷◌, ◌++◌, length, take, Some}
use mathlib.Core.List.{IsPrefix}
use Rattle.ifl_desc.specs.declared.desc.Desc.{Desc}
use Rattle.ifl_desc.specs.declared.desc.Status.{Status}
use Rattle.ifl_desc.specs.declared.desc.Status.TheVariants as status
use Rattle.ifl_desc.specs.declared.history.Side.TheVariants.{Driver, Device}
use Rattle.ifl_desc.specs.declared.history.Event.{Event}
use Rattle.ifl_desc.specs.declared.port.PortState.{PortState}
use Rattle.ifl_desc.specs.declared.port.PortState.TheVariants as port
use Rattle.ifl_desc.specs.History.{sent, known, looks}
use Rattle.ifl_desc.specs.Frames.{open_after, IsWholeFrame}
use Rattle.ifl_desc.specs.Ends.{DeviceSees}
use Rattle.ifl_desc.specs.Port.{state_of}
use Rattle.ifl_device.specs.declared.plan.EnginePlan.{EnginePlan}
use Rattle.ifl_device.specs.declared.plan.Turn.{Turn}
use Rattle.ifl_device.specs.declared.plan.Turn.TheVariants as turn
use Rattle.ifl_device.specs.declared.point.Point.{Point}
use Rattle.ifl_device.specs.declared.point.Point.TheVariants.{Stopping, Hanging, Cutting, Emitting}
use Rattle.ifl_device.specs.declared.tried.Tried.{Tried}
use Rattle.ifl_device.specs.declared.tried.Tried.TheVariants.{Sent, Empty, Full}
use Rattle.ifl_device.specs.Adapter.{record_size}
use Rattle.ifl_device.specs.Outcomes.{aborted_in}
use Rattle.ifl_device.specs.Engine.{EngineSees, IsStopped, Returns, outcomes, returned}
use Rattle.ifl_device.specs.Wire.{left_in}

-- as many frames are emitted as the flush comes after
abbrev pub IsDue : EngineSees → Type 0
IsDue e = (n : ℕ) × (e.plan.flush_after ≡ Some n) × (n ≤ e.emitted)

-- the engine hangs: as many are emitted as it hangs after, and it was not reset since
abbrev pub IsHung : EngineSees → Type 0
IsHung e = (0 < e.plan.hang_after) × (e.plan.hang_after ≤ e.emitted) × (e.cleared ≡ false)

-- the link is lost: as many are emitted as it is lost after, and some of the turns for which it is are still to come
abbrev pub IsCut : EngineSees → Type 0
IsCut e = (0 < e.plan.link_down_after) × (e.plan.link_down_after ≤ e.emitted) × (0 < e.downs)

-- at which of its four points a turn of this engine is: the first that applies
abbrev pub IsAt : Point → EngineSees → Type 0
IsAt Stopping e = IsStopped e ⊎ IsDue e
IsAt Hanging e = ((IsStopped e ⊎ IsDue e) → ⊥) × IsHung e
IsAt Cutting e = ((IsStopped e ⊎ IsDue e) → ⊥) × (IsHung e → ⊥) × IsCut e
IsAt Emitting e = ((IsStopped e ⊎ IsDue e) → ⊥) × (IsHung e → ⊥) × (IsCut e → ⊥)

-- a frame ends behind the first n entries that the driver sent
abbrev pub EndsFrame : ℕ → DeviceSees → Type 0
EndsFrame n d = open_after 0 (take n (sent Driver d.seen)) ≡ 0

-- what the engine knows to be rung ends with a frame
abbrev pub IsTold : EngineSees → Type 0
IsTold e = EndsFrame (known Device e.device.seen) e.device

-- the device's end took this frame, which stands next
pub record Takes (a : DeviceSees) (frame : List Desc) (b : DeviceSees) : Type 0 where
  pub whole : IsWholeFrame frame
  pub short : length frame ≤ 64
  pub list_is : take b.fetched (sent Driver a.seen) ≡ take a.fetched (sent Driver a.seen) ++ frame
  pub count : b.fetched ≡ a.fetched + length frame

-- the engine looked at the doorbell no more
abbrev pub LooksNot : EngineSees → EngineSees → Type 0
LooksNot a b = (looks Device b.device.seen ≡ looks Device a.device.seen) × (known Device b.device.seen ≡ known Device a.device.seen)

-- it looked once, and that look showed all that it knows to be rung
pub record LooksOnce (a b : List Event) : Type 0 where
  pub once : looks Device b ≡ suc (looks Device a)
  pub then : List Event
  pub before : IsPrefix a then
  pub after : IsPrefix then b
  pub all : known Device then ≡ length (sent Driver then)
  pub still : known Device b ≡ known Device then

-- so many frames were returned with this status, after one look
abbrev pub Moves : Status → ℕ → EngineSees → EngineSees → Type 0
Moves s k a b = ((frames : List (List Desc)) × (length frames ≡ k) × Returns s frames a b) × LooksOnce a.device.seen b.device.seen

-- all that is known to be rung is returned
abbrev pub IsDrained : EngineSees → Type 0
IsDrained e = (e.held ≡ []) × (e.device.fetched ≡ known Device e.device.seen)

-- the next frame is held, since its record needs more than is left
abbrev pub IsFull : EngineSees → ℕ → ℕ → Type 0
IsFull e need room = IsWholeFrame e.held × (need ≡ record_size e.held) × (room ≡ left_in e.wire) × (room < need)

-- the plan names this number
abbrev pub IsNamed : EnginePlan → ℕ → Type 0
IsNamed p n = (p.flush_after ≡ Some n) ⊎ (p.hang_after ≡ n) ⊎ (p.link_down_after ≡ n)

-- so many frames may be emitted from n on without passing a number that the plan names
abbrev pub StopsBefore : EnginePlan → ℕ → ℕ → Type 0
StopsBefore p n k = (m : ℕ) → IsNamed p m → n < m → n + k ≤ m

-- behind so many frames from n on the plan names a number
abbrev pub Reaches : EnginePlan → ℕ → ℕ → Type 0
Reaches p n k = (m : ℕ) × IsNamed p m × (n < m) × (n + k ≡ m)

-- the next frame may be emitted
pub record MayEmit (e : EngineSees) : Type 0 where
  pub unstopped : IsStopped e → ⊥
  pub stops : (m : ℕ) → e.plan.flush_after ≡ Some m → e.emitted < m
  pub hangs : e.cleared ≡ false → 0 < e.plan.hang_after → e.emitted < e.plan.hang_after

-- what the try at one frame did, by its answer
abbrev pub TriedOne : EngineSees → Tried → EngineSees → Type 0
TriedOne a Sent b = ((frame : List Desc) × Returns status.Emitted (frame ∷ []) a b) × LooksNot a b × IsTold b × (b.held ≡ [])
TriedOne a Empty b = (b ≡ a) × IsDrained b
TriedOne a (Full need room) b = Returns status.Emitted [] a b × LooksNot a b × IsFull b need room

-- all that was set once the port is flushed: Flush is set where it was not
abbrev pub flushed_after : PortState → List PortState → List PortState
flushed_after port.Up known = known ++ port.Flush ∷ []
flushed_after port.Down known = known ++ port.Flush ∷ []
flushed_after port.Flush known = known

-- the engine with its flush begun
abbrev pub stopped : EngineSees → EngineSees
stopped e = record e { writer = record (e.writer) { known = flushed_after (state_of e.writer.known) e.writer.known } }

-- what is set in a turn for which the link is lost: Down in the first of so many, and Up in the last
abbrev pub cut_sets : ℕ → ℕ → List PortState
cut_sets turns left = cond (nat_eq (suc left) turns) (port.Down ∷ []) [] ++ cond (nat_eq left 0) (port.Up ∷ []) []

-- the engine with its port set to these
abbrev pub with_sets : List PortState → EngineSees → EngineSees
with_sets states e = record e { writer = record (e.writer) { known = e.writer.known ++ states } }

-- the engine behind a turn for which the link is lost, with so many still to come
abbrev pub cut : ℕ → EngineSees → EngineSees
cut left e = record (with_sets (cut_sets e.plan.link_down_turns left) e) { downs = left }

-- a hang is over where as many frames are emitted as the engine hangs after
pub record Resets (a b : EngineSees) : Type 0 where
  pub same : b ≡ record a { cleared = b.cleared }
  pub over : a.plan.hang_after ≤ a.emitted → b.cleared ≡ true
  pub not_yet : a.emitted < a.plan.hang_after → b.cleared ≡ a.cleared

-- by its plan alone, an engine may be emptied with this status
abbrev pub MayVoid : Status → EngineSees → Type 0
MayVoid status.Posted e = ⊥
MayVoid status.Emitted e = ⊥
MayVoid status.Aborted e = IsAt Hanging e
MayVoid status.Flushed e = IsStopped e
MayVoid status.Filled e = ⊥
MayVoid status.Unused e = ⊥

-- a frame that is not emitted ends so
abbrev pub IsVoid : Status → Type 0
IsVoid s = (s ≡ status.Aborted) ⊎ (s ≡ status.Flushed)

-- by its plan alone, a reset engine that aborted nothing yet may abort what is rung, and a stopped one flush it
abbrev pub MayEmpty : Status → EngineSees → Type 0
MayEmpty status.Posted e = ⊥
MayEmpty status.Emitted e = ⊥
MayEmpty status.Aborted e = (0 < e.plan.hang_after) × (e.emitted ≡ e.plan.hang_after) × (e.cleared ≡ true) × (aborted_in (outcomes e) ≡ 0)
MayEmpty status.Flushed e = IsStopped e
MayEmpty status.Filled e = ⊥
MayEmpty status.Unused e = ⊥

-- the same of the next frame: those that are aborted and those that are rung are fewer than the ring has slots
abbrev pub MayReturn : Status → EngineSees → Type 0
MayReturn status.Posted e = ⊥
MayReturn status.Emitted e = ⊥
MayReturn status.Aborted e = (0 < e.plan.hang_after) × (e.emitted ≡ e.plan.hang_after) × (e.cleared ≡ true)
    × (aborted_in (outcomes e) + known Device e.device.seen < e.ring.slots + length (returned e))
MayReturn status.Flushed e = IsStopped e
MayReturn status.Filled e = ⊥
MayReturn status.Unused e = ⊥

-- every frame that was held, or known to be rung at one look, was returned with this status
abbrev pub Empties : Status → ℕ → EngineSees → EngineSees → Type 0
Empties s k a b = Moves s k a b × IsDrained b

-- nothing was held, and the one look showed nothing more
abbrev pub FindsNothing : ℕ → EngineSees → EngineSees → Type 0
FindsNothing doorbell a b = (a.held ≡ []) × IsDrained b × (b.device.fetched ≡ a.device.fetched) × (doorbell ≡ b.device.fetched % b.ring.slots)

-- what a turn of so many frames did, by its answer
abbrev pub Turned : EngineSees → ℕ → Turn → EngineSees → Type 0
Turned a n (turn.Moved k) b = IsAt Emitting a × (0 < k) × (k ≤ n) × Moves status.Emitted k a b × StopsBefore a.plan a.emitted k
    × (k < n → IsDrained b ⊎ IsFull b (record_size b.held) (left_in b.wire) ⊎ (Reaches a.plan a.emitted k × (b.held ≡ []))) × (k ≡ n → b.held ≡ [])
Turned a n (turn.Flushed k) b = IsAt Stopping a × (0 < k) × Empties status.Flushed k (stopped a) b
Turned a n (turn.Idle doorbell) b = FindsNothing doorbell a b × ((IsAt Stopping a × Moves status.Flushed 0 (stopped a) b) ⊎ (IsAt Emitting a × Moves status.Emitted 0 a b))
Turned a n (turn.Down left) b = IsAt Cutting a × (a.downs ≡ suc left) × (b ≡ cut left a)
Turned a n (turn.Hung emitted) b = IsAt Hanging a × (b ≡ a) × (emitted ≡ a.emitted)
Turned a n (turn.WireFull need room) b = IsAt Emitting a × Moves status.Emitted 0 a b × IsFull b need room
