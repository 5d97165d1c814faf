-- The driver's end after each of its calls.
use Rattle.std.proofs.Common.{◌≡◌, ℕ, suc, ◌+◌, ◌-◌, ◌%◌, ◌<◌, ◌≤◌, cond, List, [], ◌∷◌, ◌++◌, length, sym, refl, ap, ◌∙◌, subst, arith, append-nil, length-append}
use mathlib.Core.Option.{none}
use Rattle.atomic_table.specs.Table.{Me, step}
use Rattle.ifl_desc.specs.declared.desc.Desc.{Desc}
use Rattle.ifl_desc.specs.declared.history.Side.{Side}
use Rattle.ifl_desc.specs.declared.history.Side.TheVariants.{Driver, Device}
use Rattle.ifl_desc.specs.declared.history.Event.{Event}
use Rattle.ifl_desc.specs.declared.history.Event.TheVariants.{Sent, Looked}
use Rattle.ifl_desc.specs.declared.history.View.{View}
use Rattle.ifl_desc.specs.declared.rack.Rack.{Rack}
use Rattle.ifl_desc.specs.History.{sent, known}
use Rattle.ifl_desc.specs.Frames.{IsShort, open_after}
use Rattle.ifl_desc.specs.Rule.{Slot, laid, IsLawful}
use Rattle.ifl_desc.specs.Plays.{distance, pushed, counted, pulled}
use Rattle.ifl_desc.specs.Ends.{DriverSees, IsDriver, room_of}
use Rattle.ifl_desc.specs.Calls.{Grew, Flushes, Learns, Credits}
use Rattle.ifl_desc.specs.Rack.{IsRack, SameSeat, placed, taken, seen_of, spin}
use Rattle.ifl_desc.proofs.Rows.{slot_at}
use Rattle.std.proofs.Math.Nat.{add-mod_right}
use Rattle.ifl_desc.proofs.Steps.{Counting, looked_counts}
use Rattle.ifl_desc.proofs.Looking.{only_none, only_trans, only_one, grew_looks}
use Rattle.ifl_desc.proofs.Closing.{prefix_trans}
use Rattle.ifl_desc.proofs.AfterSteps.{push_done, pull_done, count_done, quiet_sent, grew_sent, grew_known, grew_prefix, kept_sent, more_known, laid_shift}
use Rattle.ifl_desc.specs.Sides.{driver_of, DriverOk}

pub driver_lawful : (h : Rack) → DriverOk h → IsDriver (driver_of h)
driver_lawful h k = let n = k.rack.many in let l = k.rack.left in let t = k.total in let b = k.bare in let s = k.rack.size in record {
  lawful = subst (λ (z : ℕ). IsLawful z (seen_of h)) (sym k.rack.size) k.lawful;
  short = k.short;
  behind = omega arith;
  room = omega arith;
}

short_more : (n : ℕ) (p : List Desc) (d : Desc) → IsShort n p → open_after n p < 64 → IsShort n (p ++ d ∷ [])
short_more n [] d s o = (o, tt)
short_more n (x ∷ p) d s o = (s.0, short_more (cond x.last 0 (suc n)) p d s.1 o)

pub posts_ok : (h h' : Rack) (d : Desc) → DriverOk h → open_after 0 (placed h) < 64 → 1 < h.bare → IsRack Driver h' → SameSeat h.seat h'.seat → placed h' ≡ placed h ++ d ∷ []
    → h'.put ≡ h.put + 1 → h'.bare + 1 ≡ h.bare → h'.left ≡ h.left → h'.size ≡ h.size → DriverOk h'
posts_ok h h' d k o more rack same list put bare left size =
    let e : seen_of h' ≡ seen_of h = ap (λ (z : View). z.seen) same.2 in
    let t = k.total in
    let a = ap (λ (z : List Event). length (sent Driver z)) e in
    let b = ap (known Driver) e in record {
      rack = rack;
      total = omega arith;
      bare = omega arith;
      lawful = subst (λ (z : ℕ × List Event). IsLawful z.0 z.1) (λ i. (sym size i, sym e i)) k.lawful;
      short = subst (IsShort 0) (sym list) (short_more 0 (placed h) d k.short o);
    }

pub room_is : (h : Rack) → DriverOk h → (v : DriverSees) → driver_of h ≡ v → 0 < room_of v → 1 < h.bare
room_is h k v e r = let r' : 0 < room_of (driver_of h) = subst (λ (z : DriverSees). 0 < room_of z) (sym e) r in let n = k.rack.many in let l = k.rack.left in let t = k.total in let b = k.bare in let s = k.rack.size in omega arith

pub flush_done : (h h' : Rack) (k : DriverOk h) (slots new : ℕ) → slots ≡ h.size → new ≡ (length (sent Driver (seen_of h)) + h.put) % h.size → pushed Driver (step slots 0 new 0 none) h.seat.me new h'.seat.me
    → h'.seat.table_id ≡ h.seat.table_id → h'.size ≡ h.size → h'.first ≡ new → h'.put ≡ 0 → h'.bare ≡ h.bare → h'.left ≡ h.left → DriverOk h' × Flushes (driver_of h) (driver_of h')
flush_done h h' k slots new slots_is word told id size first put bare left =
    let told' : pushed Driver (step h.size 0 new 0 none) h.seat.me new h'.seat.me = subst (λ (z : ℕ). pushed Driver (step z 0 new 0 none) h.seat.me new h'.seat.me) slots_is told in
    let n = k.rack.many in let l = k.rack.left in let t = k.total in let b = k.bare in let f = k.rack.fits in
    let short : h.put < h.size = omega arith in
    let d = push_done Driver h k.rack 0 new new short word h' told' (ap (λ z. z.slots) id ∙ k.rack.size) size first put bare left in
    let e : Event = Sent Driver (placed h) in
    let seen' : List Event = seen_of h' in
    let a' : length (sent Driver seen') ≡ length (sent Driver (seen_of h)) + length (placed h) = ap length (grew_sent Driver (seen_of h) seen' e d.2 ∙ ap (λ (z : List Desc). sent Driver (seen_of h) ++ z) (append-nil (placed h))) ∙ length-append (sent Driver (seen_of h)) (placed h) in
    let kn : known Driver seen' ≡ known Driver (seen_of h) + 0 = grew_known Driver (seen_of h) seen' e d.2 in
    let back : taken Driver h' ≡ taken Driver h = omega arith in (
      record {
        rack = d.0;
        total = omega arith;
        bare = omega arith;
        lawful = subst (λ (z : ℕ). IsLawful z seen') (sym size) told'.3;
        short = subst (IsShort 0) (sym d.1) tt;
      },
      (d.2, (λ i. record { ring = id i; seen = seen'; pending = d.1 i; back = back i })),
    )

-- the number of the last slot held, as code computes it
pub last_is : (r : Side) (h : Rack) (k : IsRack r h) → (((h.first + h.put) + h.bare) + h.left) % h.size ≡ (length (sent r (seen_of h)) + ((h.put + h.bare) + h.left)) % h.size
last_is r h k = ap (λ (z : ℕ). z % h.size) (let g : ((h.first + h.put) + h.bare) + h.left ≡ h.first + ((h.put + h.bare) + h.left) = omega arith in g) ∙ slot_at h.size (length (sent r (seen_of h))) h.first ((h.put + h.bare) + h.left) k.first

pub learn_count : (h : Rack) (k : DriverOk h) (x : ℕ) → (x + (h.size - (((h.first + h.put) + h.bare) + h.left) % h.size)) % h.size ≡ distance h.size (known Driver (seen_of h)) x
learn_count h k x = let t = k.total in
    ap (λ (z : ℕ). (x + (h.size - z)) % h.size) (last_is Driver h k.rack ∙ ap (λ (z : ℕ). z % h.size) (let g : length (sent Driver (seen_of h)) + ((h.put + h.bare) + h.left) ≡ known Driver (seen_of h) + h.size = omega arith in g)
    ∙ add-mod_right (known Driver (seen_of h)) h.size)

pub learn_done : (h h' : Rack) (k : DriverOk h) (m' : Me Slot View) (slots x n : ℕ) → slots ≡ h.size → n ≡ distance h.size (known Driver (seen_of h)) x → pulled Driver (step slots 1 0 0 none) h.seat.me x m'
    → h'.seat.table_id ≡ h.seat.table_id → h'.seat.me.0 ≡ m'.0 → h'.seat.me.1 ≡ spin n m'.1 → h'.size ≡ h.size → h'.first ≡ h.first → h'.put ≡ h.put → h'.bare ≡ h.bare → h'.left ≡ h.left + n
    → DriverOk h' × Credits (driver_of h) n (driver_of h')
learn_done h h' k m' slots x n slots_is n_is told id me0 me1 size first put bare left =
    let told' : pulled Driver (step h.size 1 0 0 none) h.seat.me x m' = subst (λ (z : ℕ). pulled Driver (step z 1 0 0 none) h.seat.me x m') slots_is told in
    let a : List Event = seen_of h in
    let seen' : List Event = m'.0.seen in
    let t = k.total in let l = k.rack.left in let b = k.bare in
    let o = told'.2 in
    let w0 : Grew Driver a seen' (Looked Driver n) = subst (λ (z : ℕ). Grew Driver a seen' (Looked Driver z)) (sym n_is) told'.1 in
    let kn : known Driver seen' ≡ known Driver a + n = more_known Driver a seen' n w0 in
    let sn : length (sent Driver seen') ≡ length (sent Driver a) = ap length (kept_sent Driver a seen' n w0) in
    let o1 = o.done in let o2 = o.heard in let all = told'.4 in
    let fits : (h'.put + h'.bare) + h'.left ≤ h.size = omega arith in
    let turn : (xs : List Slot) → laid h.size (known Driver a) xs ≡ laid h.size (length (sent Driver a) + ((h.put + h.bare) + h.left)) xs =
    λ xs. sym (laid_shift h.size (known Driver a) xs) ∙ ap (λ (z : ℕ). laid h.size z xs) (let g : known Driver a + h.size ≡ length (sent Driver a) + ((h.put + h.bare) + h.left) = omega arith in g) in
    let d = pull_done Driver h k.rack 1 x turn m' told' h' me0 (me1 ∙ ap (λ (z : ℕ). spin z m'.1) n_is) (ap (λ z. z.slots) id ∙ k.rack.size) size first put bare (left ∙ ap (λ (z : ℕ). h.left + z) n_is) fits in
    let es : seen_of h' ≡ seen' = ap (λ (z : View). z.seen) me0 in
    let w : Grew Driver a (seen_of h') (Looked Driver n) = subst (λ (z : List Event). Grew Driver a z (Looked Driver n)) (sym es) w0 in
    let kn' : known Driver (seen_of h') ≡ known Driver a + n = more_known Driver a (seen_of h') n w in
    let sn' : length (sent Driver (seen_of h')) ≡ length (sent Driver a) = ap length (kept_sent Driver a (seen_of h') n w) in
    let all' : known Driver (seen_of h') ≡ length (sent Device (seen_of h')) = (λ i. known Driver (es i)) ∙ all ∙ (λ i. length (sent Device (sym es i))) in
    let back : taken Driver h' ≡ taken Driver h = omega arith in (
      record {
        rack = d.0;
        total = omega arith;
        bare = omega arith;
        lawful = subst (λ (z : ℕ × List Event). IsLawful z.0 z.1) (λ i. (sym size i, sym es i)) told'.3;
        short = subst (IsShort 0) (sym d.1) k.short;
      },
      record {
        goes_on = grew_prefix Driver a (seen_of h') (Looked Driver n) w;
        same = λ i. record { ring = id i; seen = seen_of h'; pending = d.1 i; back = back i };
        own_steps = only_one Driver a (seen_of h') n (Looked Driver n) (looked_counts Driver n) w;
        rings_not = kept_sent Driver a (seen_of h') n w;
        looked = let z = grew_looks Driver a (seen_of h') (Looked Driver n) w in omega arith;
        few = let z = grew_looks Driver a (seen_of h') (Looked Driver n) w in omega arith;
        more = kn';
        all = all';
      },
    )

-- the driver counted n more at one step
pub learn_some : (h h' : Rack) (k : DriverOk h) (m' : Me Slot View) (slots n : ℕ) (e : Event) → Counting Driver n e → slots ≡ h.size → counted Driver slots e n h.seat.me m'
    → h'.seat.table_id ≡ h.seat.table_id → h'.seat.me.0 ≡ m'.0 → h'.seat.me.1 ≡ spin n m'.1 → h'.size ≡ h.size → h'.first ≡ h.first → h'.put ≡ h.put → h'.bare ≡ h.bare → h'.left ≡ h.left + n
    → DriverOk h' × Learns (driver_of h) n (driver_of h') × Grew Driver (seen_of h) (seen_of h') e
learn_some h h' k m' slots n e counting slots_is told id me0 me1 size first put bare left =
    let told' : counted Driver h.size e n h.seat.me m' = subst (λ (z : ℕ). counted Driver z e n h.seat.me m') slots_is told in
    let a : List Event = seen_of h in
    let seen' : List Event = m'.0.seen in
    let t = k.total in let l = k.rack.left in let b = k.bare in
    let o = told'.2 in let o0 = o.told in let o1 = o.done in let o2 = o.heard in let o3 = o.within in
    let more = counting.more in
    let kn : known Driver seen' ≡ known Driver a + n = let g = grew_known Driver a seen' e told'.1 in omega arith in
    let sn : length (sent Driver seen') ≡ length (sent Driver a) = ap length (quiet_sent Driver a seen' n e counting told'.1) in
    let fits : (h'.put + h'.bare) + h'.left ≤ h.size = omega arith in
    let turn : (xs : List Slot) → laid h.size (known Driver a) xs ≡ laid h.size (length (sent Driver a) + ((h.put + h.bare) + h.left)) xs =
    λ xs. sym (laid_shift h.size (known Driver a) xs) ∙ ap (λ (z : ℕ). laid h.size z xs) (let g : known Driver a + h.size ≡ length (sent Driver a) + ((h.put + h.bare) + h.left) = omega arith in g) in
    let d = count_done Driver h k.rack n e counting turn m' told' h' me0 me1 (ap (λ z. z.slots) id ∙ k.rack.size) size first put bare left fits in
    let es : seen_of h' ≡ seen' = ap (λ (z : View). z.seen) me0 in
    let w : Grew Driver a (seen_of h') e = d.2 in
    let kn' : known Driver (seen_of h') ≡ known Driver a + n = let g = grew_known Driver a (seen_of h') e w in omega arith in
    let sn' : length (sent Driver (seen_of h')) ≡ length (sent Driver a) = ap length (quiet_sent Driver a (seen_of h') n e counting w) in
    let back : taken Driver h' ≡ taken Driver h = omega arith in (
      record {
        rack = d.0;
        total = omega arith;
        bare = omega arith;
        lawful = subst (λ (z : ℕ × List Event). IsLawful z.0 z.1) (λ i. (sym size i, sym es i)) told'.3;
        short = subst (IsShort 0) (sym d.1) k.short;
      },
      record {
        goes_on = grew_prefix Driver a (seen_of h') e w;
        same = λ i. record { ring = id i; seen = seen_of h'; pending = d.1 i; back = back i };
        own_steps = only_one Driver a (seen_of h') n e counting w;
        rings_not = quiet_sent Driver a (seen_of h') n e counting w;
        more = kn';
      },
      w,
    )

pub learns_not : (a : DriverSees) → Learns a 0 a
learns_not a = record { goes_on = ([], append-nil a.seen); same = refl; own_steps = only_none Driver a.seen; rings_not = refl; more = omega arith }

pub learns_on : (a b c : DriverSees) (n m : ℕ) → Learns a n b → Learns b m c → Learns a (n + m) c
learns_on a b c n m u v = let x = u.more in let y = v.more in record {
  goes_on = prefix_trans a.seen b.seen c.seen u.goes_on v.goes_on;
  same = v.same ∙ ap (λ (z : DriverSees). record z { seen = c.seen }) u.same;
  own_steps = only_trans Driver a.seen b.seen c.seen u.own_steps v.own_steps;
  rings_not = v.rings_not ∙ u.rings_not;
  more = omega arith;
}

-- a driver can't count as many as there are slots
pub learns_few : (a b : DriverSees) (n : ℕ) → Learns a n b → IsDriver a → IsDriver b → n < a.ring.slots
learns_few a b n u ka kb =
    let p = ka.lawful.order a.seen ([], append-nil a.seen) in let q = kb.lawful.order b.seen ([], append-nil b.seen) in
    let x = u.more in let y = ap length u.rings_not in let w = p.within in let q0 = q.told in let q1 = q.done in let q2 = q.heard in omega arith

pub reclaims_ok : (h h' : Rack) (k : DriverOk h) → IsRack Driver h' → SameSeat h.seat h'.seat → placed h' ≡ placed h
    → h'.put ≡ h.put → h'.bare ≡ h.bare + 1 → h'.left + 1 ≡ h.left → h'.size ≡ h.size → DriverOk h'
reclaims_ok h h' k rack same list put bare left size =
    let e : seen_of h' ≡ seen_of h = ap (λ (z : View). z.seen) same.2 in
    let t = k.total in let b = k.bare in
    let a = ap (λ (z : List Event). length (sent Driver z)) e in
    let c = ap (known Driver) e in record {
      rack = rack;
      total = omega arith;
      bare = omega arith;
      lawful = subst (λ (z : ℕ × List Event). IsLawful z.0 z.1) (λ i. (sym size i, sym e i)) k.lawful;
      short = subst (IsShort 0) (sym list) k.short;
    }
