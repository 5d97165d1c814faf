-- The ends of an adapter that keep a rack each: what contracts see of them, and what is true of their fields.
use Rattle.std.specs.Prelude.{◌≡◌, ◌+◌, ◌<◌, length}
use Rattle.ifl_desc.specs.declared.history.Side.TheVariants.{Driver, Device}
use Rattle.ifl_desc.specs.declared.rack.Rack.{Rack}
use Rattle.ifl_desc.specs.History.{sent, known}
use Rattle.ifl_desc.specs.Frames.{IsShort, IsBegun}
use Rattle.ifl_desc.specs.Rule.{IsLawful}
use Rattle.ifl_desc.specs.Rack.{IsRack, placed, taken, seen_of}
use Rattle.ifl_desc.specs.Ends.{DriverSees, DeviceSees}

-- what a contract sees of a driver's rack
abbrev pub driver_of : Rack → DriverSees
driver_of h = record { ring = h.seat.table_id; seen = seen_of h; pending = placed h; back = taken Driver h }

-- what a contract sees of a device's rack
abbrev pub device_of : Rack → DeviceSees
device_of h = record { ring = h.seat.table_id; seen = seen_of h; fetched = taken Device h; ready = placed h }

-- the driver holds all slots but those of what it rang and does not know to be returned, and one is empty
pub record DriverOk (h : Rack) : Type 0 where
  pub rack : IsRack Driver h
  pub total : ((h.put + h.bare) + h.left) + length (sent Driver (seen_of h)) ≡ known Driver (seen_of h) + h.size
  pub bare : 0 < h.bare
  pub lawful : IsLawful h.size (seen_of h)
  pub short : IsShort 0 (placed h)

-- the device holds the slots of what it knows to be rung and has not returned
pub record DeviceOk (h : Rack) : Type 0 where
  pub rack : IsRack Device h
  pub total : ((h.put + h.bare) + h.left) + length (sent Device (seen_of h)) ≡ known Device (seen_of h)
  pub lawful : IsLawful h.size (seen_of h)
  pub begun : IsBegun (placed h)
