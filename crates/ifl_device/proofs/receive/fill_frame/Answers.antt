use Rattle.std.proofs.Common.{◌++◌, [], ◌∷◌}
use Rattle.ifl_desc.specs.Ends.{DeviceSees}
use Rattle.ifl_device.proofs.Receiving.{filling_none, filling_more, filling_last}
use Rattle.ifl_device.proofs.receive.fill_frame.Goals as goal

pub loop-rest-init : goal.loop-rest-init
loop-rest-init g c = filling_none c.args.ticket c.args.stamp c.args.bytes.now (g.R.DescRing.device_sees c.args.device.now) c.requires.ready

pub loop-rest-preserved : goal.loop-rest-preserved
loop-rest-preserved g c = let f = c.fill_one.ensures.filled in
    filling_more c.args.ticket c.args.stamp c.args.bytes.now (g.R.DescRing.device_sees c.args.device.now) (g.R.DescRing.device_sees c.loop-rest.device) (g.R.DescRing.device_sees c.fill_one.new.device) c.loop-rest.rest.now c.loop-rest.invariant
    f.0 c.split_at.result.0.now c.split_at.result.1.now c.split_at.ensures.by_index.0 c.split_at.ensures.front_len c.loop-rest-test.true f.1 f.2

pub returns-clause-stored : goal.returns-clause-stored
returns-clause-stored g c = let f = c.fill_one-2.ensures.filled in let b : DeviceSees = g.R.DescRing.device_sees c.loop-rest.device in
    let r = filling_last c.args.ticket c.args.stamp c.args.bytes.now (g.R.DescRing.device_sees c.args.device.now) b (g.R.DescRing.device_sees c.fill_one-2.new.device) c.loop-rest.rest.now c.loop-rest.invariant
    f.0 c.requires.ready c.loop-rest-test.false f.1 f.2 in (b.ready ++ f.0 ∷ [], r.0, r.1)
