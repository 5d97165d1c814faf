use Rattle.std.proofs.Common.{◌≡◌, [], true}
use Rattle.ifl_desc.specs.Ends.{DeviceSees, completed}
use Rattle.ifl_generation.proofs.tests.threads.emit.Given as goal

abbrev pub invariant-loop : goal.invariant-loop
invariant-loop g l = let b : DeviceSees = g.R.DescRing.device_sees l.emitted.device in (b.ring ≡ g.R.DescRing.ring l.ring) × (completed b ≡ b.fetched) × (l.emitted.whole ≡ true → b.ready ≡ [])
