use Rattle.std.proofs.Common.{arith}
use Rattle.ifl_desc.specs.Ends.{DeviceSees}
use Rattle.ifl_device.specs.Receive.{RxSees, IsRx, rx_of}
use Rattle.ifl_device.proofs.Receiving.{rx_sent, rx_sent_free}
use Rattle.ifl_device.proofs.receive.RxEngine.arrive.Goals as goal

pub invariant_of-self : goal.invariant_of-self
invariant_of-self g c = let e : RxSees = rx_of (g.R.DescRing.ring c.self.inside.ring.now) (g.R.DescRing.device_sees c.self.inside.device) in let k : IsRx e = c.self.invariant.0 in
    let s = c.fill_frame.ensures.stored in let d : DeviceSees = g.R.DescRing.device_sees c.fill_frame.new.device in
    (rx_sent e k s.0 d s.2 c.fill_frame.ensures.lawful, (let f = rx_sent_free e k s.0 d s.2 c.fill_frame.ensures.lawful in let n = s.1.count in let b = c.buffers_for-need.ensures in let is = c.self.invariant.1 in omega arith), c.self.invariant.2)
