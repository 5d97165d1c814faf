use Rattle.std.proofs.Common.{◌≡◌, ◌+◌, ◌≤◌, length}
use Rattle.ifl_desc.specs.Frames.{open_after}
use Rattle.ifl_desc.specs.Ends.{DriverSees, room_of}
use Rattle.ifl_writeback.proofs.tests.threads.post_frame.Given as goal

abbrev pub invariant-loop-part : goal.invariant-loop-part
invariant-loop-part g l = let b : DriverSees = g.R.DescRing.driver_sees l.driver in
    (b.ring ≡ g.R.DescRing.ring l.ring) × (open_after 0 b.pending ≡ l.part) × (l.count ≤ room_of b + l.part) × (l.count ≤ length l.clusters.items + l.part)
