use Rattle.std.proofs.Common.{◌≡◌, []}
use Rattle.ifl_desc.specs.Ends.{DriverSees}
use Rattle.ifl_writeback.proofs.tests.threads.send.Given as goal

abbrev pub invariant-loop : goal.invariant-loop
invariant-loop g l = let b : DriverSees = g.R.DescRing.driver_sees l.driver in (b.ring ≡ g.R.DescRing.ring l.ring) × (b.pending ≡ [])
