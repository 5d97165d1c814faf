use Rattle.std.proofs.Common.{◌<◌, subst, arith, []}
use Rattle.ifl_desc.specs.Ends.{DeviceSees}
use Rattle.ifl_device.specs.Receive.{RxSees, IsRx, Returns, rx_of}
use Rattle.ifl_device.proofs.Receiving.{free_few, rx_looked, rx_look_returns, rx_free}
use Rattle.ifl_device.proofs.receive.RxEngine.look.Goals as goal

pub overflow_add-self : goal.overflow_add-self
overflow_add-self g c = let e : RxSees = rx_of (g.R.DescRing.ring c.self.inside.ring.now) (g.R.DescRing.device_sees c.self.inside.device) in let k : IsRx e = c.self.invariant.0 in
    let d : DeviceSees = g.R.DescRing.device_sees c.fetch-more.new.end in let b : RxSees = rx_of e.ring d in
    let f = free_few b (rx_looked e k c.fetch-more.result (g.R.DescRing.device_sees c.fetch-more.new.end) c.fetch-more.ensures.list c.fetch-more.ensures.lawful) in let s = c.self.invariant.2 in let n = rx_free e k c.fetch-more.result (g.R.DescRing.device_sees c.fetch-more.new.end) c.fetch-more.ensures.list c.fetch-more.ensures.lawful in let is = c.self.invariant.1 in let small : e.ring.slots < 4294967296 = s in omega arith

pub invariant_of-self : goal.invariant_of-self
invariant_of-self g c = let e : RxSees = rx_of (g.R.DescRing.ring c.self.inside.ring.now) (g.R.DescRing.device_sees c.self.inside.device) in let k : IsRx e = c.self.invariant.0 in
    (rx_looked e k c.fetch-more.result (g.R.DescRing.device_sees c.fetch-more.new.end) c.fetch-more.ensures.list c.fetch-more.ensures.lawful, (let n = rx_free e k c.fetch-more.result (g.R.DescRing.device_sees c.fetch-more.new.end) c.fetch-more.ensures.list c.fetch-more.ensures.lawful in let is = c.self.invariant.1 in omega arith), c.self.invariant.2)

pub returns-clause-looked : goal.returns-clause-looked
returns-clause-looked g c = let e : RxSees = rx_of (g.R.DescRing.ring c.self.inside.ring.now) (g.R.DescRing.device_sees c.self.inside.device) in let k : IsRx e = c.self.invariant.0 in
    subst (λ (z : RxSees). Returns [] z (rx_of e.ring (g.R.DescRing.device_sees c.fetch-more.new.end))) c.self.view_is (rx_look_returns e k c.fetch-more.result (g.R.DescRing.device_sees c.fetch-more.new.end) c.fetch-more.ensures.list c.fetch-more.ensures.lawful)

pub returns-clause-lawful : goal.returns-clause-lawful
returns-clause-lawful g c = (invariant_of-self g c).0
