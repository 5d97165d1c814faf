-- A receive engine after each of its steps.
use Rattle.std.proofs.Common.{◌≡◌, ℕ, suc, ◌+◌, ◌-◌, ◌<◌, ◌≤◌, Bool, true, false, cond, List, [], ◌∷◌, ◌++◌, length, sym, refl, ap, ◌∙◌, subst, arith, append-nil, append_assoc, length-append}
use Rattle.atomic_table.specs.Seated.{TableId}
use Rattle.ifl_base.specs.declared.ticket.Ticket.{Ticket}
use Rattle.ifl_base.specs.declared.ticket.Stamp.{Stamp}
use Rattle.ifl_mbuf.specs.Segment.{Segment}
use Rattle.ifl_desc.specs.declared.desc.Status.TheVariants.{Filled, Unused}
use Rattle.ifl_desc.specs.declared.desc.Desc.{Desc}
use Rattle.ifl_desc.specs.declared.history.Side.TheVariants.{Device}
use Rattle.ifl_desc.specs.declared.history.Event.{Event}
use Rattle.ifl_desc.specs.declared.history.Event.TheVariants.{Sent, Looked}
use Rattle.ifl_desc.specs.History.{sent, known, looks}
use Rattle.ifl_desc.specs.Ends.{DeviceSees, DriverSees, IsDevice}
use Rattle.ifl_desc.specs.Calls.{Grew, Fetches, Completes, Meets}
use Rattle.ifl_desc.proofs.AfterSteps.{grew_sent, grew_known, grew_prefix, kept_sent, more_known}
use Rattle.ifl_desc.proofs.Closing.{prefix_trans}
use Rattle.ifl_desc.proofs.Steps.{same_sent, same_known}
use Rattle.ifl_desc.specs.Frames.{bytes_of}
use Rattle.ifl_device.specs.Receive.{RxSees, IsRx, IsStored, IsFilledAs, AreFilled, AreUnused, Sends, Returns, free_of, needed, rx_of, rx_returned}
use Rattle.ifl_device.proofs.Engines.{looks_grew}
use Rattle.ifl_device.proofs.Records.{bytes_append}
use Rattle.ifl_desc.proofs.Splitting.{AreUnmarked, whole_made, unmarked_more}

pub needed_one : (n : ℕ) → n ≤ 2048 → needed n ≡ 1
needed_one n h = omega arith

pub needed_more : (n : ℕ) → 2048 < n → needed n ≡ suc (needed (n - 2048))
needed_more n h = omega arith

pub filled_more : (t : Ticket) (s : Stamp) (ds : List Desc) (d : Desc) → AreFilled t s ds → d.ticket ≡ t → d.stamp ≡ s → d.status ≡ Filled → AreFilled t s (ds ++ d ∷ [])
filled_more t s [] d f x y z = (x, y, z, tt)
filled_more t s (e ∷ ds) d f x y z = (f.0, f.1, f.2, filled_more t s ds d f.3 x y z)

pub unused_more : (ds : List Desc) (d : Desc) → AreUnused ds → d.last ≡ true → d.status ≡ Unused → AreUnused (ds ++ d ∷ [])
unused_more [] d u x y = (x, y, tt)
unused_more (e ∷ ds) d u x y = (u.0, u.1, unused_more ds d u.2 x y)

-- the end has returned nothing yet
pub sends_none : (a : DeviceSees) → Sends a [] a
sends_none a = record { goes_on = ([], append-nil a.seen); list_is = sym (append-nil (sent Device a.seen)); looks_not = refl; known_not = refl; same = (λ i. record { ring = a.ring; seen = a.seen; fetched = (let g : a.fetched ≡ a.fetched + 0 = omega arith in g) i; ready = a.ready }) }

-- and then one frame more
pub sends_more : (a b e : DeviceSees) (ds fs : List Desc) → Sends a ds b → Grew Device b.seen e.seen (Sent Device fs) → e ≡ record b { seen = e.seen; fetched = b.fetched + length fs } → Sends a (ds ++ fs) e
sends_more a b e ds fs s g k =
    let f : b.fetched ≡ a.fetched + length ds = ap (λ (z : DeviceSees). z.fetched) s.same in
    let count : b.fetched + length fs ≡ a.fetched + length (ds ++ fs) = (let l = length-append ds fs in omega arith) in record {
      goes_on = prefix_trans a.seen b.seen e.seen s.goes_on (grew_prefix Device b.seen e.seen (Sent Device fs) g);
      list_is = grew_sent Device b.seen e.seen (Sent Device fs) g ∙ (λ i. s.list_is i ++ append-nil fs i) ∙ append_assoc (sent Device a.seen) ds fs;
      looks_not = looks_grew b.seen e.seen (Sent Device fs) g ∙ (let x : looks Device b.seen + 0 ≡ looks Device b.seen = omega arith in x) ∙ s.looks_not;
      known_not = grew_known Device b.seen e.seen (Sent Device fs) g ∙ (let x : known Device b.seen + 0 ≡ known Device b.seen = omega arith in x) ∙ s.known_not;
      same = k ∙ (λ i. record { ring = (s.same i).ring; seen = e.seen; fetched = count i; ready = (s.same i).ready });
    }

-- part of a frame is filled, and these bytes are left
pub record Filling (t : Ticket) (s : Stamp) (bytes : List ℕ) (a b : DeviceSees) (rest : List ℕ) : Type 0 where
  pub same : b ≡ record a { ready = b.ready; fetched = a.fetched + length b.ready }
  pub filled : AreFilled t s b.ready
  pub unmarked : AreUnmarked b.ready
  pub bytes_are : bytes_of b.ready ++ rest ≡ bytes
  pub count : length b.ready + needed (length rest) ≡ needed (length bytes)

pub filling_none : (t : Ticket) (s : Stamp) (bytes : List ℕ) (a : DeviceSees) → a.ready ≡ [] → Filling t s bytes a a bytes
filling_none t s bytes a none = record {
  same = (λ i. record { ring = a.ring; seen = a.seen; fetched = (let l = ap length none in let g : a.fetched ≡ a.fetched + length a.ready = omega arith in g) i; ready = a.ready });
  filled = subst (AreFilled t s) (sym none) tt;
  unmarked = subst AreUnmarked (sym none) tt;
  bytes_are = ap (λ (z : List Desc). bytes_of z ++ bytes) none;
  count = (let l = ap length none in omega arith);
}

module _ (t : Ticket) (s : Stamp) (bytes : List ℕ) (a b e : DeviceSees) (rest : List ℕ) (k : Filling t s bytes a b rest) (d : Desc) where
  -- one buffer more is full
  pub filling_more : (part more : List ℕ) → rest ≡ part ++ more → length part ≡ 2048 → 2048 < length rest → IsFilledAs t s part false d → Completes (record b { fetched = suc b.fetched }) d e → Filling t s bytes a e more
  filling_more part more cut full long f done =
      let is : e ≡ record b { fetched = suc b.fetched; ready = b.ready ++ d ∷ [] } = subst (λ (z : Bool). cond z (Grew Device b.seen e.seen (Sent Device (b.ready ++ d ∷ [])) × (e ≡ record b { seen = e.seen; fetched = suc b.fetched; ready = [] })) (e ≡ record b { fetched = suc b.fetched; ready = b.ready ++ d ∷ [] })) f.3 done in
      let ready : e.ready ≡ b.ready ++ d ∷ [] = ap (λ (z : DeviceSees). z.ready) is in
      let len : length e.ready ≡ suc (length b.ready) = ap length ready ∙ length-append b.ready (d ∷ []) ∙ (let g : length b.ready + 1 ≡ suc (length b.ready) = omega arith in g) in
      let fetched : suc b.fetched ≡ a.fetched + length e.ready = (let x = ap (λ (z : DeviceSees). z.fetched) k.same in omega arith) in record {
        same = is ∙ (λ i. record { ring = (k.same i).ring; seen = (k.same i).seen; fetched = fetched i; ready = sym ready i });
        filled = subst (AreFilled t s) (sym ready) (filled_more t s b.ready d k.filled f.0 f.1 f.2);
        unmarked = subst AreUnmarked (sym ready) (unmarked_more b.ready d k.unmarked f.3);
        bytes_are = ap (λ (z : List Desc). bytes_of z ++ more) ready ∙ ap (λ (z : List ℕ). z ++ more) (bytes_append b.ready (d ∷ []) ∙ ap (λ (z : List ℕ). bytes_of b.ready ++ z) (append-nil d.seg.bytes ∙ f.4))
            ∙ append_assoc (bytes_of b.ready) part more ∙ ap (λ (z : List ℕ). bytes_of b.ready ++ z) (sym cut) ∙ k.bytes_are;
        count = (let c = k.count in let n = needed_more (length rest) long in let l = ap length cut in let m = length-append part more in
            let left : length more ≡ length rest - 2048 = omega arith in let w = ap needed left in omega arith);
      }

  -- the last buffer is filled, and the frame is returned
  pub filling_last : a.ready ≡ [] → length rest ≤ 2048 → IsFilledAs t s rest true d → Completes (record b { fetched = suc b.fetched }) d e → IsStored t s bytes (b.ready ++ d ∷ []) × Sends a (b.ready ++ d ∷ []) e
  filling_last none short f done =
      let frame : List Desc = b.ready ++ d ∷ [] in
      let is : Grew Device b.seen e.seen (Sent Device (b.ready ++ d ∷ [])) × (e ≡ record b { seen = e.seen; fetched = suc b.fetched; ready = [] }) = subst (λ (z : Bool). cond z (Grew Device b.seen e.seen (Sent Device (b.ready ++ d ∷ [])) × (e ≡ record b { seen = e.seen; fetched = suc b.fetched; ready = [] })) (e ≡ record b { fetched = suc b.fetched; ready = b.ready ++ d ∷ [] })) f.3 done in
      let len : length frame ≡ suc (length b.ready) = length-append b.ready (d ∷ []) ∙ (let g : length b.ready + 1 ≡ suc (length b.ready) = omega arith in g) in
      let fetched : suc b.fetched ≡ a.fetched + length frame = (let x = ap (λ (z : DeviceSees). z.fetched) k.same in omega arith) in
      let seen : b.seen ≡ a.seen = ap (λ (z : DeviceSees). z.seen) k.same in
      let grew : Grew Device a.seen e.seen (Sent Device frame) = subst (λ (z : List Event). Grew Device z e.seen (Sent Device frame)) seen is.0 in
      let same : e ≡ record a { seen = e.seen; fetched = a.fetched + length frame } = is.1 ∙ (λ i. record { ring = (k.same i).ring; seen = e.seen; fetched = fetched i; ready = sym none i }) in (
        record {
          whole = whole_made b.ready d k.unmarked f.3;
          filled = filled_more t s b.ready d k.filled f.0 f.1 f.2;
          bytes_are = bytes_append b.ready (d ∷ []) ∙ ap (λ (z : List ℕ). bytes_of b.ready ++ z) (append-nil d.seg.bytes ∙ f.4) ∙ k.bytes_are;
          count = (let c = k.count in let n = needed_one (length rest) short in omega arith);
        },
        sends_more a a e [] frame (sends_none a) grew same,
      )

-- one buffer more is returned unused
pub unused_one : (a b m e : DeviceSees) (ds : List Desc) (d : Desc) → a.ready ≡ [] → Sends a ds b → m ≡ record b { fetched = suc b.fetched } → d.last ≡ true → Completes m d e → Sends a (ds ++ d ∷ []) e
unused_one a b m e ds d none s is last done =
    let k : Grew Device m.seen e.seen (Sent Device (m.ready ++ d ∷ [])) × (e ≡ record m { seen = e.seen; ready = [] }) = subst (λ (z : Bool). cond z (Grew Device m.seen e.seen (Sent Device (m.ready ++ d ∷ [])) × (e ≡ record m { seen = e.seen; ready = [] })) (e ≡ record m { ready = m.ready ++ d ∷ [] })) last done in
    let ready : b.ready ≡ [] = ap (λ (z : DeviceSees). z.ready) s.same ∙ none in
    let m_ready : m.ready ≡ [] = ap (λ (z : DeviceSees). z.ready) is ∙ ready in
    let m_seen : m.seen ≡ b.seen = ap (λ (z : DeviceSees). z.seen) is in
    let fetched : suc b.fetched ≡ b.fetched + 1 = omega arith in
    sends_more a b e ds (d ∷ []) s
    (subst (λ (z : List Event × List Desc). Grew Device z.0 e.seen (Sent Device (z.1 ++ d ∷ []))) (λ i. (m_seen i, m_ready i)) k.0)
    (k.1 ∙ (λ i. record { ring = (is i).ring; seen = e.seen; fetched = ((ap (λ (z : DeviceSees). z.fetched) is) ∙ fetched) i; ready = sym ready i }))

module _ (e : RxSees) (k : IsRx e) where
  -- fewer are rung and unused than the ring has slots
  pub free_few : free_of e < e.ring.slots
  free_few = let o = k.lawful.lawful.order e.device.seen ([], append-nil e.device.seen) in let w = o.within in let h = o.heard in let t = o.told in let f = k.fetched in let s = ap (λ (z : TableId). z.slots) k.own in omega arith

  module _ (n : ℕ) (d : DeviceSees) (f : Fetches e.device n d) (lawful : IsDevice d) where
    pub rx_looked : IsRx (rx_of e.ring d)
    rx_looked = let s = kept_sent Device e.device.seen d.seen n f.0 in record {
      own = ap (λ (z : DeviceSees). z.ring) f.1 ∙ k.own;
      lawful = lawful;
      ready = ap (λ (z : DeviceSees). z.ready) f.1 ∙ k.ready;
      fetched = ap (λ (z : DeviceSees). z.fetched) f.1 ∙ k.fetched ∙ ap length (sym s);
    }

    pub rx_look_returns : Returns [] e (rx_of e.ring d)
    rx_look_returns = let l = looks_grew e.device.seen d.seen (Looked Device n) f.0 in record {
      ring = refl;
      looked = record { once = omega arith; then = d.seen; before = grew_prefix Device e.device.seen d.seen (Looked Device n) f.0; after = ([], append-nil d.seen); all = f.2; still = refl };
      list_is = kept_sent Device e.device.seen d.seen n f.0 ∙ sym (append-nil (rx_returned e));
    }

    pub rx_free : free_of (rx_of e.ring d) ≡ free_of e + n
    rx_free = let m = more_known Device e.device.seen d.seen n f.0 in let g = ap (λ (z : DeviceSees). z.fetched) f.1 in let w = k.lawful.within in omega arith

  module _ (ds : List Desc) (d : DeviceSees) (s : Sends e.device ds d) (lawful : IsDevice d) where
    pub rx_sent : IsRx (rx_of e.ring d)
    rx_sent = record {
      own = ap (λ (z : DeviceSees). z.ring) s.same ∙ k.own;
      lawful = lawful;
      ready = ap (λ (z : DeviceSees). z.ready) s.same ∙ k.ready;
      fetched = (let f = ap (λ (z : DeviceSees). z.fetched) s.same in let g = k.fetched in let l = ap length s.list_is in let a = length-append (rx_returned e) ds in omega arith);
    }

    pub rx_sent_free : free_of (rx_of e.ring d) + length ds ≡ free_of e
    rx_sent_free = let f = ap (λ (z : DeviceSees). z.fetched) s.same in let n = s.known_not in let w = lawful.within in omega arith

  -- the engine met the driver's end
  pub rx_met : (v : DriverSees) (v' : DriverSees) (d : DeviceSees) → Meets v e.device v' d → IsDevice d → IsRx (rx_of e.ring d)
  rx_met v v' d m lawful = record {
    own = ap (λ (z : DeviceSees). z.ring) m.device ∙ k.own;
    lawful = lawful;
    ready = ap (λ (z : DeviceSees). z.ready) m.device ∙ k.ready;
    fetched = ap (λ (z : DeviceSees). z.fetched) m.device ∙ k.fetched ∙ ap length (sym (same_sent Device d.seen e.device.seen m.device_own));
  }

  pub rx_met_free : (v : DriverSees) (v' : DriverSees) (d : DeviceSees) → Meets v e.device v' d → free_of (rx_of e.ring d) ≡ free_of e
  rx_met_free v v' d m = let f = ap (λ (z : DeviceSees). z.fetched) m.device in let n = same_known Device d.seen e.device.seen m.device_own in omega arith

-- one buffer is filled, whichever proof says that its segment lies within a cluster
pub filled_one : (t : Ticket) (s : Stamp) (bytes : List ℕ) (last : Bool) (a m e : DeviceSees) (number : ℕ) (seg : Segment) (fits : length seg.bytes ≤ 2048) → seg ≡ record { number = number; off = 0; bytes = bytes } → m ≡ record a { fetched = suc a.fetched }
    → Completes m (record { seg = seg; ticket = t; stamp = s; last = last; status = Filled; fits = fits }) e → (x : Desc) × IsFilledAs t s bytes last x × Completes (record a { fetched = suc a.fetched }) x e
filled_one t s bytes last a m e number seg fits is same done =
    let x : Desc = record { seg = seg; ticket = t; stamp = s; last = last; status = Filled; fits = fits } in
    (x, (refl, refl, refl, refl, ap (λ (z : Segment). z.bytes) is), subst (λ (z : DeviceSees). Completes z x e) same done)

pub unused_next : (a b m e : DeviceSees) (ds : List Desc) (d : Desc) → a.ready ≡ [] → AreUnused ds → Sends a ds b → m ≡ record b { fetched = suc b.fetched } → (fits : length d.seg.bytes ≤ 2048) → Completes m (record d { last = true; status = Unused; fits = fits }) e → IsDevice e
    → (x : List Desc) × AreUnused x × Sends a x e × IsDevice e
unused_next a b m e ds d none u s is fits done lawful =
    let x : Desc = record d { last = true; status = Unused; fits = fits } in
    (ds ++ x ∷ [], unused_more ds x u refl refl, unused_one a b m e ds x none s is refl done, lawful)

pub unused_smaller : (b m e : DeviceSees) (d : Desc) → m ≡ record b { fetched = suc b.fetched } → b.fetched < known Device b.seen → (fits : length d.seg.bytes ≤ 2048) → Completes m (record d { last = true; status = Unused; fits = fits }) e
    → known Device e.seen - e.fetched < known Device b.seen - b.fetched
unused_smaller b m e d is less fits done =
    let n = grew_known Device m.seen e.seen (Sent Device (m.ready ++ (record d { last = true; status = Unused; fits = fits }) ∷ [])) done.0 in let f = ap (λ (z : DeviceSees). z.fetched) done.1 in
    let g = ap (λ (z : DeviceSees). z.fetched) is in let w = ap (λ (z : DeviceSees). known Device z.seen) is in omega arith
