use Rattle.std.proofs.Common.{length}
use Rattle.ifl_device.proofs.Receiving.{Filling}
use Rattle.ifl_device.proofs.receive.fill_frame.Given as goal

abbrev pub invariant-loop-rest : goal.invariant-loop-rest
invariant-loop-rest g l = Filling l.ticket l.stamp l.fn.bytes (g.R.DescRing.device_sees l.fn.device) (g.R.DescRing.device_sees l.device) l.rest

abbrev pub decreases-loop-rest : goal.decreases-loop-rest
decreases-loop-rest g l = length l.rest
