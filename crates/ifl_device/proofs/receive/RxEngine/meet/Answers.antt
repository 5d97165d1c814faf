use Rattle.std.proofs.Common.{◌∙◌, sym}
use Rattle.ifl_device.specs.Receive.{RxSees, IsRx, rx_of}
use Rattle.ifl_device.proofs.Receiving.{rx_met, rx_met_free}
use Rattle.ifl_device.proofs.receive.RxEngine.meet.Goals as goal

pub invariant_of-self : goal.invariant_of-self
invariant_of-self g c = let e : RxSees = rx_of (g.R.DescRing.ring c.self.inside.ring.now) (g.R.DescRing.device_sees c.self.inside.device) in let k : IsRx e = c.self.invariant.0 in
    (rx_met e k (g.R.DescRing.driver_sees c.args.driver.now) (g.R.DescRing.driver_sees c.meet.new.driver) (g.R.DescRing.device_sees c.meet.new.device) c.meet.ensures.list c.meet.ensures.lawful.1, c.self.invariant.1 ∙ sym (rx_met_free e k (g.R.DescRing.driver_sees c.args.driver.now) (g.R.DescRing.driver_sees c.meet.new.driver) (g.R.DescRing.device_sees c.meet.new.device) c.meet.ensures.list), c.self.invariant.2)

pub returns-clause-lawful : goal.returns-clause-lawful
returns-clause-lawful g c = (c.meet.ensures.lawful.0, (invariant_of-self g c).0)
