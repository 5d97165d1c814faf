use Rattle.std.proofs.Common.{◌≡◌, [], false}
use Rattle.ifl_desc.specs.Ends.{DriverSees}
use Rattle.ifl_reset.proofs.tests.plans.try_all.Given as goal

abbrev pub invariant-loop-rung : goal.invariant-loop-rung
invariant-loop-rung g l = let b : DriverSees = g.R.DescRing.driver_sees l.hands.driver in (b.ring ≡ g.R.DescRing.ring l.adapter.ring.now) × (b.pending ≡ [])
    × (l.hands.seat.turnstile ≡ l.adapter.turnstile) × (l.hands.seat.held ≡ false) × (l.hands.reader.port ≡ l.adapter.port.now)
