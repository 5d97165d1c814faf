use Rattle.std.proofs.Common.{ℕ, ◌∙◌, ap, sym, arith, subst}
use Rattle.ifl_desc.specs.Ends.{DriverSees, DeviceSees}
use Rattle.ifl_desc.specs.Calls.{Meets}
use Rattle.ifl_desc.specs.Sides.{driver_of, device_of}
use Rattle.ifl_desc.proofs.DriverCalls.{driver_lawful}
use Rattle.ifl_desc.proofs.DeviceCalls.{device_lawful}
use Rattle.ifl_generation.proofs.WordSteps.{tie_same}
use Rattle.ifl_desc.proofs.Steps.{same_sent, same_known}
use Rattle.ifl_generation.proofs.Counting.{driver_lap, device_lap}
use Rattle.ifl_desc.specs.declared.history.Side.TheVariants.{Driver, Device}
use Rattle.ifl_desc.specs.Rack.{seen_of}
use Rattle.ifl_generation.specs.Generation.{IsAt, read, made}
use Rattle.ifl_generation.proofs.ring.GenerationRingDescRing.meet.Goals as goal

pub let_meet-requires : goal.let_meet-requires
let_meet-requires c = let z = c.self.invariant in record {
  tables = (ap (λ (x : DriverSees). x.ring) c.driver.view_is ∙ c.requires.rings.0 ∙ sym c.self.view_is, ap (λ (x : DeviceSees). x.ring) c.device.view_is ∙ c.requires.rings.1 ∙ sym c.self.view_is);
  table = ((let words = z.0 in omega arith), z.2 ∙ sym z.1);
  ends = (c.driver.invariant.0, c.device.invariant.0);
  stays = tie_same _;
}

pub invariant_of-driver : goal.invariant_of-driver
invariant_of-driver c = let m = c.let_meet.ensures.list in let d0 = c.driver.inside.rack in let d1 = c.let_meet.new.driver in let size = c.let_meet.ensures.sizes.0 in
    (c.let_meet.ensures.ends.0, subst (λ (z : ℕ). IsAt z (read (seen_of d1)) c.driver.inside.lap) (sym size) (driver_lap d0.size (seen_of d0) (seen_of d1) c.driver.inside.lap m.of_driver (same_known Driver (seen_of d1) (seen_of d0) m.driver_own) c.driver.invariant.0.rack.order.told c.driver.invariant.1))

pub invariant_of-device : goal.invariant_of-device
invariant_of-device c = let m = c.let_meet.ensures.list in let v0 = c.device.inside.rack in let v1 = c.let_meet.new.device in let size = c.let_meet.ensures.sizes.1 in
    (c.let_meet.ensures.ends.1, subst (λ (z : ℕ). IsAt z (made (seen_of v1)) c.device.inside.lap) (sym size) (device_lap v0.size (seen_of v0) (seen_of v1) c.device.inside.lap (same_sent Device (seen_of v1) (seen_of v0) m.device_own) c.device.invariant.1))

pub returns-clause-list : goal.returns-clause-list
returns-clause-list c = subst (λ (x : DriverSees × DeviceSees). Meets x.0 x.1 (driver_of c.let_meet.new.driver) (device_of c.let_meet.new.device)) (λ i. (c.driver.view_is i, c.device.view_is i)) c.let_meet.ensures.list

pub returns-clause-lawful : goal.returns-clause-lawful
returns-clause-lawful c = (driver_lawful _ c.let_meet.ensures.ends.0, device_lawful _ c.let_meet.ensures.ends.1)
