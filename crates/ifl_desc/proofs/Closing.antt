-- What a closed ring leaves, by what its two ends knew.
use Rattle.std.proofs.Common.{◌≡◌, ℕ, zero, suc, ◌+◌, ◌-◌, ◌≤◌, List, [], ◌∷◌, ◌++◌, length, take, drop, sym, refl, ap, ◌∙◌, subst, arith, append_assoc, append-nil, length-append, length-drop}
use mathlib.Core.List.{IsPrefix}
use lib.Seq.{drop-append-le}
use Rattle.ifl_desc.specs.declared.desc.Desc.{Desc}
use Rattle.ifl_desc.specs.declared.history.Side.{Side}
use Rattle.ifl_desc.specs.declared.history.Side.TheVariants.{Driver, Device}
use Rattle.ifl_desc.specs.declared.history.Event.{Event}
use Rattle.ifl_desc.specs.declared.rack.Rack.{Rack}
use Rattle.ifl_desc.specs.History.{other, sent, known, own}
use Rattle.ifl_desc.specs.Frames.{IsShort}
use Rattle.ifl_desc.specs.Rule.{InOrder, IsLawful}
use Rattle.ifl_desc.specs.Rack.{placed, taken, seen_of, ahead}
use Rattle.ifl_desc.specs.Sides.{driver_of, device_of, DriverOk, DeviceOk}
use mathlib.Core.Option.{none}
use Rattle.atomic_table.specs.Table.{step}
use Rattle.ifl_desc.specs.declared.history.Event.TheVariants.{Looked}
use Rattle.ifl_desc.specs.declared.history.View.{View}
use Rattle.ifl_desc.specs.Ends.{DriverSees, DeviceSees, completed}
use Rattle.ifl_desc.specs.Calls.{Meets, Credits, Fetches}
use Rattle.ifl_desc.specs.Plays.{Mine, closing, retired, gathered, joined}
use Rattle.ifl_desc.proofs.AfterSteps.{grew_prefix, kept_sent}
use Rattle.ifl_desc.specs.Closed.{ClosedSees, IsClosed, Leaves, Closes, HaveMet, left_of, remains_of}
use Rattle.ifl_desc.proofs.Steps.{sent_append, same_sent, same_known}
use Rattle.ifl_desc.proofs.Looking.{same_looks, grew_own, grew_looks}
use Rattle.ifl_desc.proofs.Racks.{take_all_of}

pub prefix_trans : (a b c : List Event) → IsPrefix a b → IsPrefix b c → IsPrefix a c
prefix_trans a b c p q = (p.0 ++ q.0, sym (append_assoc a p.0 q.0) ∙ ap (λ (z : List Event). z ++ q.0) p.1 ∙ q.1)

nil_of : (l : List Desc) → length l ≡ 0 → l ≡ []
nil_of [] e = refl
nil_of (d ∷ l) e = absurd (omega arith)

-- a beginning in which a side has sent as many has all that it sent
pub as_long : (r : Side) (a b : List Event) → IsPrefix a b → length (sent r b) ≤ length (sent r a) → sent r b ≡ sent r a
as_long r a b p le =
    let t : List Desc = sent r p.0 in
    let e : sent r b ≡ sent r a ++ t = ap (sent r) (sym p.1) ∙ sent_append r a p.0 in
    let n : length (sent r b) ≡ length (sent r a) + length t = ap length e ∙ length-append (sent r a) t in
    e ∙ ap (λ (z : List Desc). sent r a ++ z) (nil_of t (omega arith)) ∙ append-nil (sent r a)

-- what a side sent in a longer history is no less
pub no_less : (r : Side) (a b : List Event) → IsPrefix a b → length (sent r a) ≤ length (sent r b)
no_less r a b p = let t : List Desc = sent r p.0 in let n : length (sent r b) ≡ length (sent r a) + length t = ap length (ap (sent r) (sym p.1) ∙ sent_append r a p.0) ∙ length-append (sent r a) t in omega arith

drop_front : (n : ℕ) (xs ys : List Desc) → length xs ≡ n → drop n (xs ++ ys) ≡ ys
drop_front zero [] ys e = refl
drop_front zero (x ∷ xs) ys e = absurd (omega arith)
drop_front (suc n) [] ys e = absurd (omega arith)
drop_front (suc n) (x ∷ xs) ys e = drop_front n xs ys (omega arith)

-- the entries ahead of an end that knows all that was sent
ahead_whole : (r : Side) (h : List Event) (left : ℕ) → known r h ≡ length (sent (other r) h) → ahead r h left ≡ drop (known r h - left) (sent (other r) h)
ahead_whole r h left e = ap (drop (known r h - left)) (ap (λ (z : ℕ). take z (sent (other r) h)) e ∙ take_all_of (sent (other r) h))

module _ (h v : Rack) (k : DriverOk h) (w : DeviceOk v) (m : HaveMet (driver_of h) (device_of v)) (end : List Event) (was : List Event)
    (driver_saw : IsPrefix (seen_of h) end) (driver_own : own Driver (seen_of h) ≡ own Driver end)
    (device_saw : IsPrefix (seen_of v) was) (device_same : own Device was ≡ own Device (seen_of v)) (was_saw : IsPrefix was end) (was_own : own Device was ≡ own Device end)
    (lawful : IsLawful h.size end) (items : List Desc) (out : items ≡ (ahead Driver (seen_of h) h.left ++ ahead Device (seen_of v) v.left) ++ placed h) where
  abbrev rung : List Desc
  rung = sent Driver end

  abbrev returned : List Desc
  returned = sent Device end

  abbrev closed : ClosedSees
  closed = remains_of items h.size h.put end

  abbrev back : ℕ
  back = taken Driver h

  device_prefix : IsPrefix (seen_of v) end
  device_prefix = prefix_trans (seen_of v) was end device_saw was_saw

  rung_is : rung ≡ sent Driver (seen_of h)
  rung_is = sym (same_sent Driver (seen_of h) end driver_own)

  returned_is : returned ≡ sent Device (seen_of v)
  returned_is = sym (same_sent Device was end was_own) ∙ same_sent Device was (seen_of v) device_same

  driver_knows : returned ≡ sent Device (seen_of h)
  driver_knows = let a = ap length returned_is in let b = m.of_device in as_long Device (seen_of h) end driver_saw (omega arith)

  device_knows : rung ≡ sent Driver (seen_of v)
  device_knows = let a = ap length rung_is in let b = m.of_driver in as_long Driver (seen_of v) end device_prefix (omega arith)

  first_part : ahead Driver (seen_of h) h.left ≡ drop back returned
  first_part = ahead_whole Driver (seen_of h) h.left m.told ∙ ap (drop back) (sym driver_knows)

  second_part : ahead Device (seen_of v) v.left ≡ drop (length returned) rung
  second_part = ahead_whole Device (seen_of v) v.left m.heard ∙ (λ i. drop ((m.done ∙ ap length (sym returned_is)) i) (sym device_knows i))

  list_is : items ≡ drop back returned ++ (drop (length returned) rung ++ placed h)
  list_is = out ∙ (λ i. (first_part i ++ second_part i) ++ placed h) ∙ append_assoc (drop back returned) (drop (length returned) rung) (placed h)

  order : InOrder h.size end
  order = lawful.order end ([], append-nil end)

  in_turn : length returned ≤ length rung
  in_turn = let a = order.done in let b = order.heard in omega arith

  back_before : back ≤ length returned
  back_before = let a = ap length driver_knows in let b = m.told in omega arith

  many : length items ≡ (length returned - back) + ((length rung - length returned) + h.put)
  many =
      let rest : List Desc = drop (length returned) rung ++ placed h in
      let a = length-append (drop back returned) rest in let b = length-append (drop (length returned) rung) (placed h) in
      let c = length-drop back returned in let d = length-drop (length returned) rung in let n = k.rack.many in
      ap length list_is ∙ (omega arith)

  back_is : closed.back ≡ back
  back_is = let a = many in let b = back_before in let c = in_turn in omega arith

  pending_is : closed.pending ≡ placed h
  pending_is =
      let front : List Desc = drop back returned ++ drop (length returned) rung in
      let a = length-append (drop back returned) (drop (length returned) rung) in let c = length-drop back returned in let d = length-drop (length returned) rung in let n = many in
      let e : items ≡ front ++ placed h = out ∙ (λ i. (first_part i ++ second_part i) ++ placed h) in
      ap (λ (z : List Desc). drop (length items - h.put) z) e ∙ drop_front (length items - h.put) front (placed h) (omega arith)

  pub closed_left : items ≡ left_of closed
  closed_left = list_is ∙ sym (drop-append-le back returned (drop (length returned) rung ++ placed h) back_before)
      ∙ (λ i. drop (sym back_is i) (returned ++ (drop (length returned) rung ++ sym pending_is i)))

  pub closed_lawful : IsClosed closed
  closed_lawful =
      let a = back_is in let b = back_before in let p = ap length pending_is in let n = k.rack.many in let r = ap length rung_is in
      let s = ap length driver_knows in let u = m.told in let t = k.total in let o = k.bare in let f = k.rack.left in record {
        lawful = lawful;
        short = subst (IsShort 0) (sym pending_is) k.short;
        lengths = record { returned = omega arith; fetched = omega arith; rung = in_turn; posted = omega arith; free = omega arith };
        done = refl;
      }

  pub closed_list : Leaves (driver_of h) (device_of v) closed
  closed_list = record {
    size = sym k.rack.size;
    of_driver = driver_saw;
    of_device = device_prefix;
    driver_own = sym driver_own;
    device_own = sym was_own ∙ device_same;
    pending = pending_is;
    back = back_is;
    fetched = ap length returned_is ∙ sym m.done;
  }

-- the remains that the two seats leave, once the device's was retired and joined to the driver's
pub remains_ok : (h v : Rack) (k : DriverOk h) (w : DeviceOk v) → HaveMet (driver_of h) (device_of v) → (S slots i x y : ℕ) → S ≡ h.size → slots ≡ h.size
    → (d : View) → d ≡ h.seat.me.0 → (a b : Mine) → a.0 ≡ v.seat.me.0 → retired (step slots i 0 0 none) a x b → (j e : Mine) → j.0 ≡ closing d b.0 → gathered (step slots i 0 0 none) j y e
    → (items : List Desc) → items ≡ (ahead Driver (seen_of h) h.left ++ ahead Device (seen_of v) v.left) ++ placed h
    → IsClosed (remains_of items S h.put e.0.seen) × (items ≡ left_of (remains_of items S h.put e.0.seen)) × Leaves (driver_of h) (device_of v) (remains_of items S h.put e.0.seen)
remains_ok h v k w m S slots i x y S_is slots_is d d_is a b a_is gone j e j_is told items out =
    let end : List Event = e.0.seen in
    let was : List Event = b.0.seen in
    let seen : j.0.seen ≡ seen_of h = ap (λ (z : View). z.seen) j_is ∙ ap (λ (z : View). z.seen) d_is in
    let other_seen : joined j.0.role ≡ was = ap (λ (z : View). joined z.role) j_is in
    let before : a.0.seen ≡ seen_of v = ap (λ (z : View). z.seen) a_is in
    let driver_saw : IsPrefix (seen_of h) end = subst (λ (z : List Event). IsPrefix z end) seen told.0 in
    let driver_own : own Driver (seen_of h) ≡ own Driver end = ap (own Driver) (sym seen) ∙ told.1 in
    let was_saw : IsPrefix was end = subst (λ (z : List Event). IsPrefix z end) other_seen told.2 in
    let was_own : own Device was ≡ own Device end = ap (own Device) (sym other_seen) ∙ told.3 in
    let device_saw : IsPrefix (seen_of v) was = subst (λ (z : List Event). IsPrefix z was) before gone.1 in
    let device_same : own Device was ≡ own Device (seen_of v) = gone.2 ∙ ap (own Device) before in
    let lawful : IsLawful h.size end = subst (λ (z : ℕ). IsLawful z end) slots_is told.4 in
    let P : ℕ → Type 0 = λ z. IsClosed (remains_of items z h.put end) × (items ≡ left_of (remains_of items z h.put end)) × Leaves (driver_of h) (device_of v) (remains_of items z h.put end) in
    subst P (sym S_is) (
      closed_lawful h v k w m end was driver_saw driver_own device_saw device_same was_saw was_own lawful items out,
      closed_left h v k w m end was driver_saw driver_own device_saw device_same was_saw was_own lawful items out,
      closed_list h v k w m end was driver_saw driver_own device_saw device_same was_saw was_own lawful items out,
    )

module _ (d d' d'' : DriverSees) (v v' v'' : DeviceSees) (n k : ℕ) (m : Meets d v d' v') (c : Credits d' n d'') (f : Fetches v' k v'') where
  driver_sent : sent Driver d''.seen ≡ sent Driver d.seen
  driver_sent = c.rings_not ∙ same_sent Driver d'.seen d.seen m.driver_own

  device_sent : sent Device v''.seen ≡ sent Device v.seen
  device_sent = kept_sent Device v'.seen v''.seen k f.0 ∙ same_sent Device v'.seen v.seen m.device_own

  -- the ends that met, and then looked, know all that was sent
  pub have_met : completed v ≡ v.fetched → v.ready ≡ [] → HaveMet d'' v''
  have_met all gone =
      let by_device = no_less Device v.seen d''.seen (prefix_trans v.seen d'.seen d''.seen m.driver_hears c.goes_on) in
      let by_driver = no_less Driver d.seen v''.seen (prefix_trans d.seen v'.seen v''.seen m.device_hears (grew_prefix Device v'.seen v''.seen (Looked Device k) f.0)) in
      let a = ap length device_sent in let b = ap length driver_sent in
      let e : v''.fetched ≡ v.fetched = ap (λ (z : DeviceSees). z.fetched) f.1 ∙ ap (λ (z : DeviceSees). z.fetched) m.device in
      let r = ap length gone in record {
        told = c.all;
        heard = f.2;
        of_device = omega arith;
        of_driver = omega arith;
        done = omega arith;
        none = ap (λ (z : DeviceSees). z.ready) f.1 ∙ ap (λ (z : DeviceSees). z.ready) m.device ∙ gone;
      }

  -- what these ends leave closes those that met
  pub closes_since : (z : ClosedSees) → Leaves d'' v'' z → Closes d v z
  closes_since z o =
      let grown = grew_own Device v'.seen v''.seen (Looked Device k) f.0 in
      let a = same_looks Driver z.history d''.seen o.driver_own in let b = same_looks Driver d'.seen d.seen m.driver_own in let few = c.few in
      let e = same_known Driver z.history d''.seen o.driver_own in let g = same_known Driver d'.seen d.seen m.driver_own in let more = c.more in
      let x = same_looks Device z.history v''.seen o.device_own in let y = same_looks Device v'.seen v.seen m.device_own in let once = grew_looks Device v'.seen v''.seen (Looked Device k) f.0 in record {
        size = o.size ∙ ap (λ (x : DriverSees). x.ring.slots) c.same ∙ ap (λ (x : DriverSees). x.ring.slots) m.driver;
        of_driver = prefix_trans d.seen d'.seen z.history m.of_driver (prefix_trans d'.seen d''.seen z.history c.goes_on o.of_driver);
        of_device = prefix_trans v.seen v'.seen z.history m.of_device (prefix_trans v'.seen v''.seen z.history (grew_prefix Device v'.seen v''.seen (Looked Device k) f.0) o.of_device);
        driver_steps = (c.own_steps.0, o.driver_own ∙ c.own_steps.1 ∙ ap (λ (x : List Event). x ++ c.own_steps.0) m.driver_own, c.own_steps.2);
        device_steps = (Looked Device k ∷ [], o.device_own ∙ grown ∙ ap (λ (x : List Event). x ++ Looked Device k ∷ []) m.device_own, (tt, tt));
        driver_looks = omega arith;
        device_looks = omega arith;
        rung = same_sent Driver z.history d''.seen o.driver_own ∙ driver_sent;
        returned = same_sent Device z.history v''.seen o.device_own ∙ device_sent;
        pending = o.pending ∙ ap (λ (x : DriverSees). x.pending) c.same ∙ ap (λ (x : DriverSees). x.pending) m.driver;
        back = o.back ∙ ap (λ (x : DriverSees). x.back) c.same ∙ ap (λ (x : DriverSees). x.back) m.driver;
        fetched = o.fetched ∙ ap (λ (x : DeviceSees). x.fetched) f.1 ∙ ap (λ (x : DeviceSees). x.fetched) m.device;
      }
