-- What a contract sees of a ring that was closed: the whole list with its five lengths.
use Rattle.std.specs.Prelude.{◌≡◌, ℕ, suc, ◌+◌, ◌-◌, ◌≤◌, List, [], ◌++◌, length, drop}
use mathlib.Core.List.{IsPrefix}
use Rattle.ifl_desc.specs.declared.desc.Desc.{Desc}
use Rattle.ifl_desc.specs.declared.history.Side.TheVariants.{Driver, Device}
use Rattle.ifl_desc.specs.declared.history.Event.{Event}
use Rattle.ifl_desc.specs.History.{sent, known, own, looks, LooksOnly}
use Rattle.ifl_desc.specs.Frames.{IsShort}
use Rattle.ifl_desc.specs.Rule.{IsLawful}
use Rattle.ifl_desc.specs.Ends.{DriverSees, DeviceSees, Lengths, AreInOrder}

-- the size, the whole history, what was posted and never rung, and how many were reclaimed and fetched
pub record ClosedSees : Type 0 where
  pub size : ℕ
  pub history : List Event
  pub pending : List Desc
  pub back : ℕ
  pub fetched : ℕ

-- how many were returned, rung and posted
abbrev pub all_returned : ClosedSees → ℕ
all_returned c = length (sent Device c.history)

abbrev pub all_rung : ClosedSees → ℕ
all_rung c = length (sent Driver c.history)

abbrev pub all_posted : ClosedSees → ℕ
all_posted c = all_rung c + length c.pending

-- the five lengths of the list
abbrev pub lengths_of : ClosedSees → Lengths
lengths_of c = record { back = c.back; returned = all_returned c; fetched = c.fetched; rung = all_rung c; posted = all_posted c }

-- the whole list: the returned ones as the device completed them, the others as they were posted
abbrev pub whole_list : ClosedSees → List Desc
whole_list c = sent Device c.history ++ (drop (all_returned c) (sent Driver c.history) ++ c.pending)

-- what was posted and not reclaimed
abbrev pub left_of : ClosedSees → List Desc
left_of c = drop c.back (whole_list c)

-- the closed ring of size S that left these, the last of which were never rung, after the history h
abbrev pub remains_of : List Desc → ℕ → ℕ → List Event → ClosedSees
remains_of left S pending h = record { size = S; history = h; pending = drop (length left - pending) left; back = (length (sent Driver h) + pending) - length left; fetched = length (sent Device h) }

-- the history is lawful, the five lengths are in order, and all that was fetched is returned
pub record IsClosed (c : ClosedSees) : Type 0 where
  pub lawful : IsLawful c.size c.history
  pub short : IsShort 0 c.pending
  pub lengths : AreInOrder c.size (lengths_of c)
  pub done : c.fetched ≡ all_returned c

-- two ends that make no more steps leave this closed ring: it stands for all that they did, and for nothing else
pub record Leaves (d : DriverSees) (v : DeviceSees) (c : ClosedSees) : Type 0 where
  pub size : c.size ≡ d.ring.slots
  pub of_driver : IsPrefix d.seen c.history
  pub of_device : IsPrefix v.seen c.history
  pub driver_own : own Driver c.history ≡ own Driver d.seen
  pub device_own : own Device c.history ≡ own Device v.seen
  pub pending : c.pending ≡ d.pending
  pub back : c.back ≡ d.back
  pub fetched : c.fetched ≡ v.fetched

-- the closed ring stands for all that the two ends did and for their last looks, and for nothing else: the device looked once more, and the driver at most once more than it still counted
pub record Closes (d : DriverSees) (v : DeviceSees) (c : ClosedSees) : Type 0 where
  pub size : c.size ≡ d.ring.slots
  pub of_driver : IsPrefix d.seen c.history
  pub of_device : IsPrefix v.seen c.history
  pub driver_steps : LooksOnly Driver d.seen c.history
  pub device_steps : LooksOnly Device v.seen c.history
  pub driver_looks : looks Driver c.history + known Driver d.seen ≤ suc (looks Driver d.seen + known Driver c.history)
  pub device_looks : looks Device c.history ≡ suc (looks Device v.seen)
  pub rung : sent Driver c.history ≡ sent Driver d.seen
  pub returned : sent Device c.history ≡ sent Device v.seen
  pub pending : c.pending ≡ d.pending
  pub back : c.back ≡ d.back
  pub fetched : c.fetched ≡ v.fetched

-- each end knows all that the other sent, and the device has returned all that it fetched
pub record HaveMet (d : DriverSees) (v : DeviceSees) : Type 0 where
  pub told : known Driver d.seen ≡ length (sent Device d.seen)
  pub heard : known Device v.seen ≡ length (sent Driver v.seen)
  pub of_device : length (sent Device v.seen) ≤ length (sent Device d.seen)
  pub of_driver : length (sent Driver d.seen) ≤ length (sent Driver v.seen)
  pub done : v.fetched ≡ length (sent Device v.seen)
  pub none : v.ready ≡ []
