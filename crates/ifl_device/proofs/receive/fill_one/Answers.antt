use Rattle.ifl_device.proofs.Receiving.{filled_one}
use Rattle.ifl_device.proofs.receive.fill_one.Goals as goal

pub returns-clause-filled : goal.returns-clause-filled
returns-clause-filled g c = filled_one c.args.ticket c.args.stamp c.args.bytes.now c.args.last (g.R.DescRing.device_sees c.args.device.now) (g.R.DescRing.device_sees c.next.new.end) (g.R.DescRing.device_sees c.complete.new.end)
    c.into_cluster.result c.fill-seg.result _ c.fill-seg.ensures c.in-Some.ensures.list.0 c.complete.ensures.list
