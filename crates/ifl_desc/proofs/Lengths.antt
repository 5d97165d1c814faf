-- The five lengths of a list, by what its two ends know.
use Rattle.std.proofs.Common.{◌≡◌, ℕ, ◌≤◌, List, [], length, sym, refl, ap, ◌∙◌, arith, append-nil}
use Rattle.ifl_desc.specs.declared.history.Side.TheVariants.{Driver, Device}
use Rattle.ifl_desc.specs.declared.history.Event.{Event}
use Rattle.ifl_desc.specs.History.{sent, own}
use Rattle.ifl_desc.specs.Ends.{DriverSees, DeviceSees, IsDriver, IsDevice, AreEndsOf, AreInOrder, lengths_at, returned, rung}
use Rattle.ifl_desc.specs.Calls.{Meets}
use Rattle.ifl_desc.proofs.Steps.{same_sent, same_known}

module _ (S : ℕ) (h : List Event) (d : DriverSees) (v : DeviceSees) (e : AreEndsOf S h d v) where
  pub known_bounds : (returned d ≤ (lengths_at h d v).returned) × (rung v ≤ (lengths_at h d v).rung)
  known_bounds =
      let o = e.lawful.order h (([], append-nil h)) in let told = o.told in let heard = o.heard in
      let a = same_known Driver d.seen h e.driver_own in let b = same_known Device v.seen h e.device_own in (omega arith, omega arith)

  pub lengths_in_order : IsDriver d → IsDevice v → AreInOrder S (lengths_at h d v)
  lengths_in_order k w =
      let known = known_bounds in let back = known.0 in let bell = known.1 in
      let rang = ap length (same_sent Driver d.seen h e.driver_own) in let gave = ap length (same_sent Device v.seen h e.device_own) in
      let behind = k.behind in let room = k.room in let after = w.after in let within = w.within in let size = e.size in
      record { returned = omega arith; fetched = omega arith; rung = omega arith; posted = omega arith; free = omega arith }

module _ (d d' : DriverSees) (v v' : DeviceSees) (m : Meets d v d' v') where
  pub met_own : own Driver v'.seen ≡ own Driver d.seen
  met_own = ap (own Driver) m.one_history ∙ m.driver_own

  pub met_other : own Device d'.seen ≡ own Device v.seen
  met_other = ap (own Device) (sym m.one_history) ∙ m.device_own

  pub met_heard : (sent Device d'.seen ≡ sent Device v.seen) × (sent Driver v'.seen ≡ sent Driver d.seen)
  met_heard = (same_sent Device d'.seen v.seen met_other, same_sent Driver v'.seen d.seen met_own)

  pub met_ends : IsDriver d' → AreEndsOf d'.ring.slots d'.seen d' v'
  met_ends k = record {
    lawful = k.lawful;
    size = refl;
    of_driver = ([], append-nil d'.seen);
    driver_own = refl;
    of_device = ([], append-nil v'.seen ∙ m.one_history);
    device_own = ap (own Device) m.one_history;
  }
