use Rattle.std.proofs.Common.{◌≡◌, [], true}
use Rattle.ifl_desc.specs.Ends.{DeviceSees, completed}
use Rattle.ifl_txq.proofs.tests.device.turn.Given as goal

abbrev pub invariant-loop : goal.invariant-loop
invariant-loop g l = let b : DeviceSees = g.R.DescRing.device_sees l.device in (b.ring ≡ g.R.DescRing.ring l.ring) × (completed b ≡ b.fetched) × (l.whole ≡ true → b.ready ≡ [])
