use Rattle.std.proofs.Common.{◌-◌, List}
use Rattle.ifl_desc.specs.declared.desc.Desc.{Desc}
use Rattle.ifl_desc.specs.declared.history.Side.TheVariants.{Device}
use Rattle.ifl_desc.specs.History.{known}
use Rattle.ifl_desc.specs.Ends.{DeviceSees, IsDevice}
use Rattle.ifl_device.specs.Receive.{AreUnused, Sends}
use Rattle.ifl_device.proofs.receive.give_back_unused.Given as goal

abbrev pub invariant-loop-d : goal.invariant-loop-d
invariant-loop-d g l = let a : DeviceSees = g.R.DescRing.device_sees l.fn.device in let b : DeviceSees = g.R.DescRing.device_sees l.device in
    (ds : List Desc) × AreUnused ds × Sends a ds b × IsDevice b

abbrev pub decreases-loop-d : goal.decreases-loop-d
decreases-loop-d g l = let b : DeviceSees = g.R.DescRing.device_sees l.device in known Device b.seen - b.fetched
