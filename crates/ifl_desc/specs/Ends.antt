-- What a contract sees of the two ends of a ring.
use Rattle.std.specs.Prelude.{◌≡◌, ℕ, ◌+◌, ◌-◌, ◌<◌, ◌≤◌, List, [], length}
use mathlib.Core.List.{IsPrefix}
use Rattle.atomic_table.specs.Seated.{TableId}
use Rattle.ifl_desc.specs.declared.desc.Desc.{Desc}
use Rattle.ifl_desc.specs.declared.history.Side.TheVariants.{Driver, Device}
use Rattle.ifl_desc.specs.declared.history.Event.{Event}
use Rattle.ifl_desc.specs.History.{sent, known, own}
use Rattle.ifl_desc.specs.Frames.{IsShort, IsBegun}
use Rattle.ifl_desc.specs.Rule.{IsLawful}

-- the driver's end: the history up to its last step, or what `meet` showed of it
pub record DriverSees : Type 0 where
  pub ring : TableId  -- whose end it is
  pub seen : List Event
  pub pending : List Desc  -- posted, and not rung yet
  pub back : ℕ  -- how many were reclaimed

-- the device's end
pub record DeviceSees : Type 0 where
  pub ring : TableId
  pub seen : List Event
  pub fetched : ℕ  -- how many were taken off the ring
  pub ready : List Desc  -- completed, and not returned yet

-- the five lengths of a list: how many of its descriptors were reclaimed, returned, fetched, rung and posted
pub record Lengths : Type 0 where
  pub back : ℕ
  pub returned : ℕ
  pub fetched : ℕ
  pub rung : ℕ
  pub posted : ℕ

-- back <= returned <= fetched <= rung <= posted, and posted - back <= S - 1: one slot of the S stays free
pub record AreInOrder (S : ℕ) (l : Lengths) : Type 0 where
  pub returned : l.back ≤ l.returned
  pub fetched : l.returned ≤ l.fetched
  pub rung : l.fetched ≤ l.rung
  pub posted : l.rung ≤ l.posted
  pub free : l.posted < l.back + S

-- how many the driver has posted
abbrev pub posted : DriverSees → ℕ
posted d = length (sent Driver d.seen) + length d.pending

-- how many more it may post
abbrev pub room_of : DriverSees → ℕ
room_of d = d.ring.slots - 1 - (posted d - d.back)

-- how many are returned, as far as the driver knows
abbrev pub returned : DriverSees → ℕ
returned d = known Driver d.seen

-- how many are rung, as far as the device knows
abbrev pub rung : DeviceSees → ℕ
rung d = known Device d.seen

-- how many the device has completed
abbrev pub completed : DeviceSees → ℕ
completed d = length (sent Device d.seen) + length d.ready

-- what every driver's end keeps: back <= returned, and a slot of the ring stays free
pub record IsDriver (d : DriverSees) : Type 0 where
  pub lawful : IsLawful d.ring.slots d.seen
  pub short : IsShort 0 d.pending
  pub behind : d.back ≤ known Driver d.seen
  pub room : length (sent Driver d.seen) + length d.pending < d.back + d.ring.slots

-- what every device's end keeps: completed <= fetched <= rung
pub record IsDevice (d : DeviceSees) : Type 0 where
  pub lawful : IsLawful d.ring.slots d.seen
  pub begun : IsBegun d.ready
  pub after : length (sent Device d.seen) + length d.ready ≤ d.fetched
  pub within : d.fetched ≤ known Device d.seen

-- the two ends of a ring of size S with this history: each has seen a beginning of it that holds all of its own steps
pub record AreEndsOf (S : ℕ) (h : List Event) (d : DriverSees) (v : DeviceSees) : Type 0 where
  pub lawful : IsLawful S h
  pub size : d.ring.slots ≡ S
  pub of_driver : IsPrefix d.seen h
  pub driver_own : own Driver d.seen ≡ own Driver h
  pub of_device : IsPrefix v.seen h
  pub device_own : own Device v.seen ≡ own Device h

-- the lengths of their list
abbrev pub lengths_at : List Event → DriverSees → DeviceSees → Lengths
lengths_at h d v = record { back = d.back; returned = length (sent Device h); fetched = v.fetched; rung = length (sent Driver h); posted = posted d }

-- the ends of a new ring
abbrev pub IsNewDriver : TableId → DriverSees → Type 0
IsNewDriver id d = d ≡ record { ring = id; seen = []; pending = []; back = 0 }

abbrev pub IsNewDevice : TableId → DeviceSees → Type 0
IsNewDevice id d = d ≡ record { ring = id; seen = []; fetched = 0; ready = [] }
