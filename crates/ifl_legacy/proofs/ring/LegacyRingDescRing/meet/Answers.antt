use Rattle.std.proofs.Common.{◌∙◌, ap, sym, arith, subst}
use Rattle.ifl_desc.specs.Ends.{DriverSees, DeviceSees}
use Rattle.ifl_desc.specs.Calls.{Meets}
use Rattle.ifl_desc.specs.Sides.{driver_of, device_of}
use Rattle.ifl_desc.proofs.DriverCalls.{driver_lawful}
use Rattle.ifl_desc.proofs.DeviceCalls.{device_lawful}
use Rattle.ifl_legacy.proofs.Ties.{tie_same}
use Rattle.ifl_legacy.proofs.ring.LegacyRingDescRing.meet.Goals as goal

pub let_meet-requires : goal.let_meet-requires
let_meet-requires c = let z = c.self.invariant in record {
  tables = (ap (λ (x : DriverSees). x.ring) c.driver.view_is ∙ c.requires.rings.0 ∙ sym c.self.view_is, ap (λ (x : DeviceSees). x.ring) c.device.view_is ∙ c.requires.rings.1 ∙ sym c.self.view_is);
  table = ((let words = z.0 in omega arith), z.2 ∙ sym z.1);
  ends = (c.driver.invariant, c.device.invariant);
  stays = tie_same _;
}

pub invariant_of-driver : goal.invariant_of-driver
invariant_of-driver c = c.let_meet.ensures.ends.0

pub invariant_of-device : goal.invariant_of-device
invariant_of-device c = c.let_meet.ensures.ends.1

pub returns-clause-list : goal.returns-clause-list
returns-clause-list c = subst (λ (x : DriverSees × DeviceSees). Meets x.0 x.1 (driver_of c.let_meet.new.driver) (device_of c.let_meet.new.device)) (λ i. (c.driver.view_is i, c.device.view_is i)) c.let_meet.ensures.list

pub returns-clause-lawful : goal.returns-clause-lawful
returns-clause-lawful c = (driver_lawful _ c.let_meet.ensures.ends.0, device_lawful _ c.let_meet.ensures.ends.1)
