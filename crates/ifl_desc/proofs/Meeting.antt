-- The ends after they met.
use Rattle.std.proofs.Common.{◌≡◌, ℕ, List, [], length, sym, ap, ◌∙◌, subst, arith, append-nil}
use mathlib.Core.Option.{none}
use mathlib.Core.List.{IsPrefix}
use Rattle.atomic_table.specs.Table.{Me, step}
use Rattle.ifl_desc.specs.declared.history.Side.{Side}
use Rattle.ifl_desc.specs.declared.history.Side.TheVariants.{Driver, Device}
use Rattle.ifl_desc.specs.declared.history.Event.{Event}
use Rattle.ifl_desc.specs.declared.history.View.{View}
use Rattle.ifl_desc.specs.declared.rack.Rack.{Rack}
use Rattle.ifl_desc.specs.History.{own}
use Rattle.ifl_desc.specs.Frames.{IsShort, IsBegun}
use Rattle.ifl_desc.specs.Rule.{Slot, view, InOrder, IsLawful}
use Rattle.ifl_desc.specs.Plays.{saw, caught, note, hearing}
use Rattle.ifl_desc.specs.Rack.{IsRack, placed, taken, seen_of}
use Rattle.ifl_desc.proofs.Steps.{same_sent, same_known}
use Rattle.ifl_desc.proofs.AfterSteps.{saw_done}
use Rattle.ifl_desc.specs.Sides.{DriverOk, DeviceOk}

abbrev pub Mine : Type 0
Mine = Me Slot View

-- a look, after which all that was heard has been seen
pub record Met (r : Side) (h h' : Rack) (g : List Event) : Type 0 where
  pub rack : IsRack r h'
  pub list : placed h' ≡ placed h
  pub same : taken r h' ≡ taken r h
  pub goes_on : IsPrefix (seen_of h) (seen_of h')
  pub heard : IsPrefix g (seen_of h')
  pub mine : own r (seen_of h') ≡ own r (seen_of h)
  pub lawful : IsLawful h'.size (seen_of h')

pub met : (r : Side) (h h' : Rack) (k : IsRack r h) (m : Mine) (g : List Event) (slots x : ℕ) → slots ≡ h.size → m.0 ≡ hearing h.seat.me.0 (note g) → m.1 ≡ h.seat.me.1 → saw r (step slots 0 0 0 none) m x h'.seat.me
    → h'.seat.table_id ≡ h.seat.table_id → h'.size ≡ h.size → h'.first ≡ h.first → h'.put ≡ h.put → h'.bare ≡ h.bare → h'.left ≡ h.left → Met r h h' g
met r h h' k m g slots x slots_is m0 m1 told id size first put bare left =
    let seen : m.0.seen ≡ seen_of h = ap (λ (z : View). z.seen) m0 in
    let heard : m.0.heard ≡ g = ap (λ (z : View). z.heard) m0 in
    let pre : IsPrefix (seen_of h) (seen_of h') = subst (λ (z : List Event). IsPrefix z (seen_of h')) seen told.1 in
    let mine : own r (seen_of h') ≡ own r (seen_of h) = told.3 ∙ ap (own r) seen in
    let order : InOrder h.size (seen_of h') = subst (λ (z : ℕ). InOrder z (seen_of h')) slots_is told.4 in
    let d = saw_done r h k h' pre mine told.0 order (told.6 ∙ m1) (ap (λ z. z.slots) id ∙ k.size) size first put bare left in record {
      rack = d.0;
      list = d.1;
      same = d.2;
      goes_on = pre;
      heard = subst (λ (z : List Event). IsPrefix z (seen_of h')) heard told.2;
      mine = mine;
      lawful = subst (λ (z : ℕ). IsLawful z (seen_of h')) (slots_is ∙ sym size) told.5;
    }

-- a look, after which just what was heard has been seen
pub caught_up : (r : Side) (h h' : Rack) (k : IsRack r h) (m : Mine) (g : List Event) (slots x : ℕ) → slots ≡ h.size → m.0 ≡ hearing h.seat.me.0 (note g) → m.1 ≡ h.seat.me.1 → IsPrefix (seen_of h) g → caught r (step slots 0 0 0 none) m x h'.seat.me
    → h'.seat.table_id ≡ h.seat.table_id → h'.size ≡ h.size → h'.first ≡ h.first → h'.put ≡ h.put → h'.bare ≡ h.bare → h'.left ≡ h.left → Met r h h' g × (seen_of h' ≡ g)
caught_up r h h' k m g slots x slots_is m0 m1 later told id size first put bare left =
    let heard : m.0.heard ≡ g = ap (λ (z : View). z.heard) m0 in
    let saw_it : seen_of h' ≡ m.0.heard = ap (λ (z : View). z.seen) told.0 in
    let seen : seen_of h' ≡ g = saw_it ∙ heard in
    let pre : IsPrefix (seen_of h) (seen_of h') = subst (IsPrefix (seen_of h)) (sym seen) later in
    let mine : own r (seen_of h') ≡ own r (seen_of h) = ap (own r) saw_it ∙ told.1 ∙ ap (own r) (ap (λ (z : View). z.seen) m0) in
    let order : InOrder h.size (seen_of h') = subst (λ (z : ℕ × List Event). InOrder z.0 z.1) (λ i. (slots_is i, sym saw_it i)) told.2 in
    let d = saw_done r h k h' pre mine (told.0 ∙ ap (view r) (sym saw_it)) order (told.4 ∙ m1) (ap (λ z. z.slots) id ∙ k.size) size first put bare left in (
      record {
        rack = d.0;
        list = d.1;
        same = d.2;
        goes_on = pre;
        heard = ([], append-nil g ∙ sym seen);
        mine = mine;
        lawful = subst (λ (z : ℕ × List Event). IsLawful z.0 z.1) (λ i. ((slots_is ∙ sym size) i, sym saw_it i)) told.3;
      },
      seen,
    )

pub met_driver : (h h' : Rack) (g : List Event) (k : DriverOk h) → Met Driver h h' g → h'.size ≡ h.size → h'.put ≡ h.put → h'.bare ≡ h.bare → h'.left ≡ h.left → DriverOk h'
met_driver h h' g k m size put bare left = let t = k.total in let b = k.bare in let a = ap length (same_sent Driver (seen_of h') (seen_of h) m.mine) in let c = same_known Driver (seen_of h') (seen_of h) m.mine in
    record { rack = m.rack; total = omega arith; bare = omega arith; lawful = m.lawful; short = subst (IsShort 0) (sym m.list) k.short }

pub met_device : (h h' : Rack) (g : List Event) (k : DeviceOk h) → Met Device h h' g → h'.size ≡ h.size → h'.put ≡ h.put → h'.bare ≡ h.bare → h'.left ≡ h.left → DeviceOk h'
met_device h h' g k m size put bare left = let t = k.total in let a = ap length (same_sent Device (seen_of h') (seen_of h) m.mine) in let c = same_known Device (seen_of h') (seen_of h) m.mine in
    record { rack = m.rack; total = omega arith; lawful = m.lawful; begun = subst IsBegun (sym m.list) k.begun }
