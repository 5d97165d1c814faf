use Rattle.std.proofs.Common.{ℕ, ◌≡◌, ◌+◌, ◌≤◌, ◌∙◌, vec_capacity, ap, sym, arith, subst}
use Rattle.ifl_desc.specs.Ends.{DriverSees, DeviceSees}
use Rattle.ifl_desc.specs.Closed.{HaveMet, Leaves}
use Rattle.ifl_desc.proofs.Closing.{have_met, closes_since}
use Rattle.ifl_legacy.proofs.Ties.{tie_same}
use Rattle.ifl_legacy.proofs.ring.LegacyRingDescRing.close.Goals as goal

pub gather-requires : goal.gather-requires
gather-requires c = let z = c.self.invariant in let m = c.meet.ensures.list in let l = c.credits.ensures.list in let f = c.fetch.ensures.list in
    let d_table = ap (λ (x : DriverSees). x.ring) c.driver.view_is ∙ ap (λ (x : DriverSees). x.ring) l.same ∙ ap (λ (x : DriverSees). x.ring) m.driver ∙ c.requires.rings.0 ∙ sym c.self.view_is in
    let v_table = ap (λ (x : DeviceSees). x.ring) c.device.view_is ∙ ap (λ (x : DeviceSees). x.ring) f.1 ∙ ap (λ (x : DeviceSees). x.ring) m.device ∙ c.requires.rings.1 ∙ sym c.self.view_is in
    let size : c.driver.inside.rack.size ≡ c.self.inside.size = sym c.driver.invariant.rack.size ∙ ap (λ x. x.slots) d_table ∙ z.1 in record {
      tables = (d_table, v_table);
      table = ((let words = z.0 in omega arith), z.2 ∙ sym z.1);
      ends = (c.driver.invariant, c.device.invariant);
      met = subst (λ (x : DriverSees × DeviceSees). HaveMet x.0 x.1) (λ i. (sym c.driver.view_is i, sym c.device.view_is i)) (have_met _ _ _ _ _ _ _ _ m l f c.requires.done.0 c.requires.done.1);
      room = (z.5, subst (λ (n : ℕ). n + n ≤ vec_capacity c.self.inside.room) (sym size) z.6);
      stays = tie_same _;
    }

pub returns-clause-list : goal.returns-clause-list
returns-clause-list c = closes_since _ _ _ _ _ _ _ _ c.meet.ensures.list c.credits.ensures.list c.fetch.ensures.list _
    (subst (λ (x : DriverSees × DeviceSees). Leaves x.0 x.1 c.gather.result) (λ i. (c.driver.view_is i, c.device.view_is i)) c.gather.ensures.list)
