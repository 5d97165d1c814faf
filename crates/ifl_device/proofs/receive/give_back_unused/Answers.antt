use Rattle.std.proofs.Common.{[]}
use Rattle.ifl_device.proofs.Receiving.{sends_none, unused_next, unused_smaller}
use Rattle.ifl_device.proofs.receive.give_back_unused.Goals as goal

pub loop-d-init : goal.loop-d-init
loop-d-init g c = ([], tt, sends_none (g.R.DescRing.device_sees c.args.device.now), c.requires.lawful)

pub loop-d-preserved : goal.loop-d-preserved
loop-d-preserved g c = let i = c.loop-d.invariant in
    unused_next (g.R.DescRing.device_sees c.args.device.now) (g.R.DescRing.device_sees c.loop-d.device) (g.R.DescRing.device_sees c.next.new.end) (g.R.DescRing.device_sees c.complete.new.end) i.0 c.in-Some.d c.requires.ready i.1 i.2 c.in-Some.ensures.list.0 _ c.complete.ensures.list c.complete.ensures.lawful

pub loop-d-smaller : goal.loop-d-smaller
loop-d-smaller g c = unused_smaller (g.R.DescRing.device_sees c.loop-d.device) (g.R.DescRing.device_sees c.next.new.end) (g.R.DescRing.device_sees c.complete.new.end) c.in-Some.d c.in-Some.ensures.list.0 c.in-Some.ensures.list.1 _ c.complete.ensures.list
