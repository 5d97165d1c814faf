-- What contracts see of a receive engine, and what its calls do.
use Rattle.std.specs.Prelude.{◌≡◌, ℕ, ◌+◌, ◌-◌, ◌/◌, ◌<◌, max, List, [], ◌∷◌, ◌++◌, length, true, false, Bool}
use mathlib.Core.List.{IsPrefix}
use Rattle.atomic_table.specs.Seated.{TableId}
use Rattle.ifl_base.specs.declared.ticket.Ticket.{Ticket}
use Rattle.ifl_base.specs.declared.ticket.Stamp.{Stamp}
use Rattle.ifl_desc.specs.declared.desc.Status.{Status}
use Rattle.ifl_desc.specs.declared.desc.Status.TheVariants.{Posted, Emitted, Aborted, Flushed, Filled, Unused}
use Rattle.ifl_desc.specs.declared.desc.Desc.{Desc}
use Rattle.ifl_desc.specs.declared.history.Side.TheVariants.{Device}
use Rattle.ifl_desc.specs.History.{sent, known, looks}
use Rattle.ifl_desc.specs.Ends.{DeviceSees, IsDevice}
use Rattle.ifl_device.specs.declared.arrive.Arrive.{Arrive}
use Rattle.ifl_device.specs.declared.arrive.Arrive.TheVariants.{Stored, Missed}
use Rattle.ifl_desc.specs.Frames.{IsWholeFrame, bytes_of}
use Rattle.ifl_device.specs.Turns.{LooksOnce}

-- a receive engine: the ring that it is for, and its end of the ring
pub record RxSees : Type 0 where
  pub ring : TableId
  pub device : DeviceSees

abbrev pub rx_of : TableId → DeviceSees → RxSees
rx_of ring device = record { ring = ring; device = device }

-- all that the engine has returned
abbrev pub rx_returned : RxSees → List Desc
rx_returned e = sent Device e.device.seen

-- how many buffers are rung and unused, as far as the engine knows
abbrev pub free_of : RxSees → ℕ
free_of e = known Device e.device.seen - e.device.fetched

-- what every receive engine keeps: all that it took off the ring is returned
pub record IsRx (e : RxSees) : Type 0 where
  pub own : e.device.ring ≡ e.ring
  pub lawful : IsDevice e.device
  pub ready : e.device.ready ≡ []
  pub fetched : e.device.fetched ≡ length (rx_returned e)

-- how many buffers a frame of so many bytes needs: each holds 2,048, and a frame without bytes needs one
abbrev pub needed : ℕ → ℕ
needed n = max 1 ((n + 2047) / 2048)

-- each entry was filled for this frame
abbrev pub AreFilled : Ticket → Stamp → List Desc → Type 0
AreFilled t s [] = Unit {0}
AreFilled t s (d ∷ ds) = (d.ticket ≡ t) × (d.stamp ≡ s) × (d.status ≡ Filled) × AreFilled t s ds

-- the frame with this ticket, this stamp and these bytes, as it is stored
pub record IsStored (t : Ticket) (s : Stamp) (bytes : List ℕ) (frame : List Desc) : Type 0 where
  pub whole : IsWholeFrame frame
  pub filled : AreFilled t s frame
  pub bytes_are : bytes_of frame ≡ bytes
  pub count : length frame ≡ needed (length bytes)

-- each entry was given back as it was, by itself
abbrev pub AreUnused : List Desc → Type 0
AreUnused [] = Unit {0}
AreUnused (d ∷ ds) = (d.last ≡ true) × (d.status ≡ Unused) × AreUnused ds

-- whether the entry was filled
abbrev pub filled_status : Status → Bool
filled_status Posted = false
filled_status Emitted = false
filled_status Aborted = false
filled_status Flushed = false
filled_status Filled = true
filled_status Unused = false

-- whether a returned frame was filled: its first entry says so
abbrev pub is_filled : List Desc → Bool
is_filled [] = false
is_filled (d ∷ ds) = filled_status d.status

-- an entry that holds these bytes of a frame
abbrev pub IsFilledAs : Ticket → Stamp → List ℕ → Bool → Desc → Type 0
IsFilledAs t s bytes last d = (d.ticket ≡ t) × (d.stamp ≡ s) × (d.status ≡ Filled) × (d.last ≡ last) × (d.seg.bytes ≡ bytes)

-- the device's end took as many entries as these are, returned them, and did not look
pub record Sends (a : DeviceSees) (ds : List Desc) (b : DeviceSees) : Type 0 where
  pub goes_on : IsPrefix a.seen b.seen
  pub list_is : sent Device b.seen ≡ sent Device a.seen ++ ds
  pub looks_not : looks Device b.seen ≡ looks Device a.seen
  pub known_not : known Device b.seen ≡ known Device a.seen
  pub same : b ≡ record a { seen = b.seen; fetched = a.fetched + length ds }

-- the engine looked once, and returned these entries beyond those before
pub record Returns (ds : List Desc) (a b : RxSees) : Type 0 where
  pub ring : b.ring ≡ a.ring
  pub looked : LooksOnce a.device.seen b.device.seen
  pub list_is : rx_returned b ≡ rx_returned a ++ ds

-- what one arrival did, by its answer: it is one frame more, or it needs more buffers than are rung and unused
abbrev pub Arrived : Ticket → Stamp → List ℕ → RxSees → Arrive → RxSees → Type 0
Arrived t s bytes a Stored b = (frame : List Desc) × IsStored t s bytes frame × Returns frame a b
Arrived t s bytes a (Missed free) b = Returns [] a b × (free ≡ free_of b) × (free < needed (length bytes))

-- all that was rung and unused is returned: so many buffers, and none is left
pub record Empties (a : RxSees) (n : ℕ) (b : RxSees) : Type 0 where
  pub unused : (ds : List Desc) × AreUnused ds × (length ds ≡ n) × Returns ds a b
  pub none : b.device.fetched ≡ known Device b.device.seen
