-- What contracts see of an engine, and what every engine keeps.
use Rattle.std.specs.Prelude.{◌≡◌, ℕ, ◌+◌, ◌<◌, ◌≤◌, Bool, false, List, [], ◌∷◌, ◌++◌, length, map, take}
use Rattle.std.specs.List.{flat_map}
use mathlib.Core.List.{IsPrefix}
use Rattle.atomic_table.specs.Seated.{TableId}
use Rattle.ifl_pcap.specs.File.{record_of, written}
use Rattle.ifl_desc.specs.declared.desc.Desc.{Desc}
use Rattle.ifl_desc.specs.declared.desc.Status.{Status}
use Rattle.ifl_desc.specs.declared.history.Side.TheVariants.{Driver, Device}
use Rattle.ifl_desc.specs.declared.port.PortState.TheVariants.{Flush}
use Rattle.ifl_desc.specs.History.{sent}
use Rattle.ifl_desc.specs.Ends.{DeviceSees, IsDevice}
use Rattle.ifl_desc.specs.Port.{WriterState, state_of}
use Rattle.ifl_device.specs.declared.plan.EnginePlan.{EnginePlan}
use Rattle.ifl_desc.specs.Frames.{frames_of, IsWholeFrame}
use Rattle.ifl_device.specs.Adapter.{status_of, as_posted, returned_as, captured, emitted_among, on_wire, AreReturned}
use Rattle.ifl_device.specs.Outcomes.{emitted_in, aborted_in, KeepsPlan}
use Rattle.ifl_device.specs.Wire.{WireSees}

-- an engine: the ring and the port that it is for, its plan, its end of the ring, its port's writer, its wire, the entries that it holds, how many frames it has
-- emitted, whether it was reset since it emitted as many as it hangs after, and for how many turns its link is still to be lost
pub record EngineSees : Type 0 where
  pub ring : TableId
  pub port : TableId
  pub plan : EnginePlan
  pub device : DeviceSees
  pub writer : WriterState
  pub wire : WireSees
  pub held : List Desc
  pub emitted : ℕ
  pub cleared : Bool
  pub downs : ℕ

-- what contracts see of these parts
abbrev pub engine_of : TableId → TableId → EnginePlan → DeviceSees → WriterState → WireSees → List Desc → ℕ → Bool → ℕ → EngineSees
engine_of ring port plan device writer wire held emitted cleared downs = record { ring = ring; port = port; plan = plan; device = device; writer = writer; wire = wire; held = held; emitted = emitted; cleared = cleared; downs = downs }

-- all that the engine has returned
abbrev pub returned : EngineSees → List Desc
returned e = sent Device e.device.seen

-- what became of the frames that it has returned, in order
abbrev pub outcomes : EngineSees → List Status
outcomes e = map status_of (frames_of (returned e))

-- nothing, or one whole frame
abbrev pub IsHeld : List Desc → Type 0
IsHeld [] = Unit {0}
IsHeld (d ∷ ds) = IsWholeFrame (d ∷ ds)

-- flush has begun
abbrev pub IsStopped : EngineSees → Type 0
IsStopped e = state_of e.writer.known ≡ Flush

-- what every engine keeps: it returned what was posted but for the status, which all entries of a frame share; its wire is the capture of the frames that it
-- emitted; it holds nothing or the next frame; it does not pass the number after which it hangs until it is reset; and where it is not led by hand, it kept to its plan
pub record IsEngine (e : EngineSees) : Type 0 where
  pub own : e.device.ring ≡ e.ring
  pub writer : e.writer.port ≡ e.port
  pub lawful : IsDevice e.device
  pub ready : e.device.ready ≡ []
  pub same : map as_posted (returned e) ≡ map as_posted (take (length (returned e)) (sent Driver e.device.seen))
  pub outcome : AreReturned (frames_of (returned e))
  pub held : take e.device.fetched (sent Driver e.device.seen) ≡ take (length (returned e)) (sent Driver e.device.seen) ++ e.held
  pub fetched : e.device.fetched ≡ length (returned e) + length e.held
  pub whole : IsHeld e.held
  pub short : length e.held ≤ 64
  pub wire : e.wire.bytes ≡ written (map captured (emitted_among (frames_of (returned e))))
  pub room : length e.wire.bytes ≤ 24 + e.wire.room
  pub emitted : e.emitted ≡ emitted_in (outcomes e)
  pub hangs : e.cleared ≡ false → 0 < e.plan.hang_after → e.emitted ≤ e.plan.hang_after
  pub once : e.plan.by_hand ≡ false → e.cleared ≡ false → aborted_in (outcomes e) ≡ 0
  pub planned : e.plan.by_hand ≡ false → KeepsPlan e.plan e.ring.slots (outcomes e) (state_of e.writer.known)

-- these frames were returned with this status, and their records are on the wire where it is Emitted; nothing else changed
pub record Returns (s : Status) (frames : List (List Desc)) (a b : EngineSees) : Type 0 where
  pub ring : b.ring ≡ a.ring
  pub port : b.port ≡ a.port
  pub plan : b.plan ≡ a.plan
  pub writer : b.writer ≡ a.writer
  pub room : b.wire.room ≡ a.wire.room
  pub cleared : b.cleared ≡ a.cleared
  pub downs : b.downs ≡ a.downs
  pub goes_on : IsPrefix a.device.seen b.device.seen
  pub frames_are : frames_of (returned b) ≡ frames_of (returned a) ++ frames
  pub each : map (map (returned_as s)) frames ≡ frames
  pub bytes : b.wire.bytes ≡ a.wire.bytes ++ flat_map record_of (map captured (on_wire s frames))
  pub count : b.emitted ≡ a.emitted + length (on_wire s frames)
