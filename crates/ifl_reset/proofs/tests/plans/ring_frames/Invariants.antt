use Rattle.std.proofs.Common.{◌≡◌, []}
use Rattle.ifl_desc.specs.Ends.{DriverSees}
use Rattle.ifl_reset.proofs.tests.plans.ring_frames.Given as goal

abbrev pub invariant-loop-index : goal.invariant-loop-index
invariant-loop-index g l = let b : DriverSees = g.R.DescRing.driver_sees l.driver in (b.ring ≡ g.R.DescRing.ring l.ring) × (b.pending ≡ [])
