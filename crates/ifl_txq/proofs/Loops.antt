-- Several steps of a queue in a row.
use Rattle.std.proofs.Common.{◌≡◌, ℕ, zero, suc, ◌+◌, ◌-◌, ◌*◌, ◌<◌, ◌≤◌, ◌⊎◌, inl, inr, Bool, true, false, cond, List, [], ◌∷◌, ◌++◌, length, map, take, drop, Some, sym, refl, ap, ◌∙◌, subst, arith, append-nil, append_assoc, length-append}
use mathlib.Core.List.{IsPrefix}
use Rattle.std.specs.Int.{div_ceil}
use Rattle.std.proofs.Math.Nat.{mul-le-mul_right}
use Rattle.std.proofs.lemmas.Grind.{div_ceil_times}
use Rattle.std.proofs.lemmas.List.{map-append, drop-append-le, length-drop}
use Rattle.ifl_ringcore.specs.declared.history.Meaning.{Meaning}
use Rattle.ifl_desc.specs.declared.desc.Desc.{Desc}
use Rattle.ifl_desc.specs.declared.history.Side.TheVariants.{Driver, Device}
use Rattle.ifl_desc.specs.declared.history.Event.{Event}
use Rattle.ifl_desc.specs.History.{sent, known, looks, bells}
use Rattle.ifl_desc.specs.Ends.{DriverSees, posted, room_of}
use Rattle.ifl_desc.specs.Calls.{Credits}
use Rattle.ifl_pool.specs.Pools.{PassState}
use Rattle.ifl_txq.specs.declared.item.Item.{Item}
use Rattle.ifl_txq.specs.Items.{meaning_of}
use Rattle.ifl_txq.specs.Frames.{fates_of, fate_of}
use Rattle.ifl_txq.specs.Log.{LogSees, after_settle}
use Rattle.ifl_txq.specs.Queue.{QueueSees, IsQueue, IsRung, Origin, origin_of, reclaimed_list}
use Rattle.ifl_txq.specs.Standing.{QueueStandsFor}
use Rattle.ifl_txq.specs.Calls.{Gave, reclaimed_since, after_returns, Reclaimed, boarded}
use Rattle.ifl_txq.specs.Steps.{TakesBack, LookedBack, Took, RangOnce, SentNext, SentAll}
use Rattle.ifl_desc.proofs.Racks.{take_one}
use Rattle.ifl_txq.proofs.Splitting.{fates_append}
use Rattle.ifl_txq.proofs.Standing.{taken_back, back_there, returned_there}
use Rattle.ifl_desc.proofs.Looking.{bells_append, bells_Credits}
use Rattle.ifl_txq.proofs.Moves.{took_none, took_both, rang_took, rang_rung, rang_bell, rang_boarded, rang_list}

pub gave_none : (a : PassState) → Gave 0 a a
gave_none a = record { pool = refl; part = refl; taken = refl; given = omega arith }

pub gave_both : (m n : ℕ) (a b c : PassState) → Gave m a b → Gave n b c → Gave (m + n) a c
gave_both m n a b c x y = let g = x.given in let h = y.given in record { pool = y.pool ∙ x.pool; part = y.part ∙ x.part; taken = y.taken ∙ x.taken; given = omega arith }

-- some of what is known to be returned was reclaimed
pub record Reclaiming (a b : QueueSees) (frames : ℕ) : Type 0 where
  pub same : b ≡ record a { driver = b.driver; pass = b.pass; log = b.log }
  pub driver : b.driver ≡ record (a.driver) { back = b.driver.back }
  pub from : a.driver.back ≤ b.driver.back
  pub frames_are : frames ≡ length (fates_of (reclaimed_since a b))
  pub settled : b.log ≡ after_returns (reclaimed_since a b) a.log
  pub gave : Gave (length (reclaimed_since a b)) a.pass b.pass
  pub origin : origin_of b ≡ origin_of a
  pub stands : (ms : List Meaning) → QueueStandsFor a ms → QueueStandsFor b ms
  pub lawful : IsQueue b

drop_taken : {X : Type 0} (n : ℕ) (l : List X) → drop n (take n l) ≡ []
drop_taken zero l = refl
drop_taken (suc n) [] = refl
drop_taken (suc n) (x ∷ l) = drop_taken n l

pub reclaiming_new : (a : QueueSees) → IsQueue a → Reclaiming a a 0
reclaiming_new a k = record {
  same = refl;
  driver = refl;
  from = omega arith;
  frames_are = sym (ap (λ (z : List Desc). length (fates_of z)) (drop_taken a.driver.back (sent Device a.driver.seen)));
  settled = sym (ap (λ (z : List Desc). after_returns z a.log) (drop_taken a.driver.back (sent Device a.driver.seen)));
  gave = subst (λ (z : List Desc). Gave (length z) a.pass a.pass) (sym (drop_taken a.driver.back (sent Device a.driver.seen))) (gave_none a.pass);
  origin = refl;
  stands = λ ms s. s;
  lawful = k;
}

after_returns-append : (ds : List Desc) (d : Desc) (log : LogSees) → after_returns (ds ++ d ∷ []) log ≡ cond d.last (after_settle d.ticket (fate_of d.status) (after_returns ds log)) (after_returns ds log)
after_returns-append [] d log = refl
after_returns-append (e ∷ ds) d log = after_returns-append ds d (cond e.last (after_settle e.ticket (fate_of e.status) log) log)

cond_counts : (b : Bool) (x y : LogSees) → x.counts ≡ y.counts → (cond b x y).counts ≡ y.counts
cond_counts true x y e = e
cond_counts false x y e = refl

module _ (a b c : QueueSees) (frames : ℕ) (r : Reclaiming a b frames) (last : Bool) (t : TakesBack b (Some last) c) (lawful : IsQueue c) where
  abbrev d : Desc
  d = t.0

  next_back : c.driver.back ≡ suc b.driver.back
  next_back = ap (λ (z : DriverSees). z.back) t.2.0

  next_driver : c.driver ≡ record (a.driver) { back = c.driver.back }
  next_driver = t.2.0 ∙ (λ i. record (r.driver i) { back = sym next_back i })

  seen_same : b.driver.seen ≡ a.driver.seen
  seen_same = ap (λ (z : DriverSees). z.seen) r.driver

  seen_next : c.driver.seen ≡ b.driver.seen
  seen_next = ap (λ (z : DriverSees). z.seen) t.2.0

  list_next : reclaimed_list c.driver ≡ reclaimed_list b.driver ++ d ∷ []
  list_next = (λ i. take (next_back i) (sent Device (seen_next i))) ∙ take_one (sent Device b.driver.seen) b.driver.back d t.2.2

  dropped : reclaimed_since a c ≡ reclaimed_since a b ++ d ∷ []
  dropped = ap (drop a.driver.back) list_next ∙ drop-append-le a.driver.back (reclaimed_list b.driver) (d ∷ []) (let l = length_taken (sent Device b.driver.seen) b.driver.back (back_there b.driver r.lawful.lawful) in let f = r.from in omega arith)
    where
      length_taken : (l : List Desc) (n : ℕ) → n ≤ length l → length (take n l) ≡ n
      length_taken l zero le = refl
      length_taken [] (suc n) le = absurd (omega arith)
      length_taken (x ∷ l) (suc n) le = ap suc (length_taken l n (omega arith))

  frames_next : length (fates_of (reclaimed_since a c)) ≡ frames + cond last 1 0
  frames_next =
      ap (λ (z : List Desc). length (fates_of z)) dropped ∙ ap length (fates_append (reclaimed_since a b) (d ∷ []))
      ∙ length-append (fates_of (reclaimed_since a b)) (fates_of (d ∷ []))
      ∙ (λ i. sym r.frames_are i + one d.last i) ∙ ap (λ (z : Bool). frames + cond z 1 0) (sym t.1)
    where
      one : (z : Bool) → length (cond z (fate_of d.status ∷ []) []) ≡ cond z 1 0
      one true = refl
      one false = refl

  settled_next : c.log ≡ after_returns (reclaimed_since a c) a.log
  settled_next =
      ap (λ (z : QueueSees). z.log) t.4 ∙ ap (λ (z : LogSees). cond d.last (after_settle d.ticket (fate_of d.status) z) z) r.settled
      ∙ sym (after_returns-append (reclaimed_since a b) d a.log) ∙ ap (λ (z : List Desc). after_returns z a.log) (sym dropped)

  gave_next : Gave (length (reclaimed_since a c)) a.pass c.pass
  gave_next = subst (λ (z : ℕ). Gave z a.pass c.pass) (sym (length-append (reclaimed_since a b) (d ∷ [])) ∙ ap length (sym dropped)) (gave_both (length (reclaimed_since a b)) 1 a.pass b.pass c.pass r.gave t.3)

  pub reclaiming_more : (now : ℕ) → now ≡ frames + cond last 1 0 → Reclaiming a c now
  reclaiming_more now e = let f = r.from in let n = next_back in record {
    same = t.4 ∙ (λ i. record (r.same i) { driver = c.driver; pass = c.pass; log = sym (ap (λ (z : QueueSees). z.log) t.4) i });
    driver = next_driver;
    from = omega arith;
    frames_are = e ∙ sym frames_next;
    settled = settled_next;
    gave = gave_next;
    origin = (λ i. origin_of (t.4 i)) ∙ (λ i. record (origin_of b) { part = t.3.part i; counts = cond_counts d.last (after_settle d.ticket (fate_of d.status) b.log) b.log refl i }) ∙ r.origin;
    stands = λ ms s. taken_back b c r.lawful (Some last) t ms (r.stands ms s);
    lawful = lawful;
  }

more_bells : (g h : List Event) → IsPrefix g h → bells g ≤ bells h
more_bells g h p = let e = ap bells p.1 in let b = bells_append g p.0 in omega arith

-- nothing more is known to be returned
pub reclaimed_all : (o a b : QueueSees) (frames : ℕ) → LookedBack o a → Reclaiming a b frames → b.driver.back ≡ known Driver b.driver.seen → Reclaimed o b
reclaimed_all o a b frames l r told =
    let c : Credits o.driver l.0.0 a.driver = l.0.1 in let seen : b.driver.seen ≡ a.driver.seen = ap (λ (z : DriverSees). z.seen) r.driver in record {
      same = r.same ∙ (λ i. record (l.1 i) { driver = b.driver; pass = b.pass; log = b.log });
      goes_on = subst (IsPrefix o.driver.seen) (sym seen) c.goes_on;
      pending = ap (λ (z : DriverSees). z.pending) r.driver ∙ ap (λ (z : DriverSees). z.pending) c.same;
      rings_not = ap (sent Driver) seen ∙ c.rings_not;
      looked = subst (λ (z : List Event). looks Driver o.driver.seen < looks Driver z) (sym seen) c.looked;
      all = ap (known Driver) seen ∙ c.all ∙ ap (λ (z : List Event). length (sent Device z)) (sym seen);
      told = told;
      bells_are = ap bells seen ∙ bells_Credits o.driver l.0.0 a.driver c;
      settled = r.settled ∙ (λ i. after_returns (drop (back i) (reclaimed_list b.driver)) (l.1 i).log);
      gave = subst (λ (z : ℕ × PassState). Gave (length (drop z.0 (reclaimed_list b.driver))) z.1 b.pass) (λ i. (back i, (l.1 i).pass)) r.gave;
    }
  where
    back : a.driver.back ≡ o.driver.back
    back = ap (λ (z : DriverSees). z.back) l.0.1.same

-- some items of a batch were taken off a port that is being stopped
pub record Flushing (a b : QueueSees) (batch left : List Item) (count : ℕ) : Type 0 where
  pub done : List Item
  pub split : batch ≡ done ++ left
  pub count_is : count ≡ length done
  pub took : Took (map meaning_of done) a b
  pub driver : b.driver ≡ a.driver
  pub lawful : IsQueue b

pub flushing_new : (a : QueueSees) (batch : List Item) → IsQueue a → Flushing a a batch batch 0
flushing_new a batch k = record { done = []; split = refl; count_is = refl; took = took_none a; driver = refl; lawful = k }

pub flushing_more : (a b c : QueueSees) (batch left rest : List Item) (i : Item) (count : ℕ) → Flushing a b batch left count → left ≡ i ∷ rest → Took (meaning_of i ∷ []) b c → c.driver ≡ b.driver → IsQueue c → Flushing a c batch rest (count + 1)
flushing_more a b c batch left rest i count f is took driver lawful = let n = length-append f.done (i ∷ []) in let x = f.count_is in record {
  done = f.done ++ i ∷ [];
  split = f.split ∙ ap (λ (z : List Item). f.done ++ z) is ∙ sym (append_assoc f.done (i ∷ []) rest);
  count_is = omega arith;
  took = subst (λ (z : List Meaning). Took z a c) (sym (map-append meaning_of f.done (i ∷ []))) (took_both (map meaning_of f.done) (meaning_of i ∷ []) a b c f.took took);
  driver = driver ∙ f.driver;
  lawful = lawful;
}

pub flushing_done : (a b : QueueSees) (batch left : List Item) (count : ℕ) → Flushing a b batch left count → left ≡ [] → (count ≡ length batch) × Took (map meaning_of batch) a b
flushing_done a b batch left count f none =
    let all : batch ≡ f.done = f.split ∙ ap (λ (z : List Item). f.done ++ z) none ∙ append-nil f.done in
    (f.count_is ∙ ap length (sym all), subst (λ (z : List Item). Took (map meaning_of z) a b) (sym all) f.took)

-- some items of a batch were taken off a port that is up
pub record Sending (a b : QueueSees) (batch left : List Item) (count unrung : ℕ) : Type 0 where
  pub done : List Item
  pub split : batch ≡ done ++ left
  pub count_is : count ≡ length done
  pub took : Took (map meaning_of done) a b
  pub few : unrung < a.doorbell_every
  pub rung : unrung ≡ 0 → IsRung b.driver
  pub bells_are : bells b.driver.seen * a.doorbell_every + unrung + boarded a ≡ bells a.driver.seen * a.doorbell_every + boarded b
  pub lawful : IsQueue b

pub sending_new : (a : QueueSees) (batch : List Item) → IsQueue a → IsRung a.driver → Sending a a batch batch 0 0
sending_new a batch k rung = let e = k.some_every in record {
  done = [];
  split = refl;
  count_is = refl;
  took = took_none a;
  few = omega arith;
  rung = λ _. rung;
  bells_are = omega arith;
  lawful = k;
}

same_every : (xs : List Meaning) (a b : QueueSees) → Took xs a b → b.doorbell_every ≡ a.doorbell_every
same_every xs a b t = ap (λ (z : Origin). z.doorbell_every) t.origin

pub sending_more : (a b c : QueueSees) (batch left rest : List Item) (count unrung now : ℕ) → Sending a b batch left count unrung → SentNext b left unrung (Some now) c rest → IsQueue c → Sending a c batch rest (count + 1) now
sending_more a b c batch left rest count unrung now s n lawful =
    let i : Item = n.0.0 in let l = length-append s.done (i ∷ []) in let x = s.count_is in
    let e : b.doorbell_every ≡ a.doorbell_every = same_every (map meaning_of s.done) a b s.took in
    let y : bells c.driver.seen * a.doorbell_every + now + boarded b ≡ bells b.driver.seen * a.doorbell_every + unrung + boarded c = subst (λ (z : ℕ). bells c.driver.seen * z + now + boarded b ≡ bells b.driver.seen * z + unrung + boarded c) e n.3 in
    let z = s.bells_are in let few = n.1 in record {
      done = s.done ++ i ∷ [];
      split = s.split ∙ ap (λ (w : List Item). s.done ++ w) n.0.1 ∙ sym (append_assoc s.done (i ∷ []) rest);
      count_is = omega arith;
      took = subst (λ (w : List Meaning). Took w a c) (sym (map-append meaning_of s.done (i ∷ []))) (took_both (map meaning_of s.done) (meaning_of i ∷ []) a b c s.took n.0.2);
      few = omega arith;
      rung = n.2 s.rung;
      bells_are = by_sums (bells c.driver.seen * a.doorbell_every) (bells b.driver.seen * a.doorbell_every) (bells a.driver.seen * a.doorbell_every) now unrung (boarded a) (boarded b) (boarded c) y z;
      lawful = lawful;
    }
  where
    by_sums : (p q r now unrung f g h : ℕ) → p + now + g ≡ q + unrung + h → q + unrung + f ≡ r + g → p + now + f ≡ r + h
    by_sums p q r now unrung f g h y z = omega arith

-- a quotient that is rounded up is the only such number
pub ceil_is : (m e c : ℕ) → 0 < e → m ≤ c * e → c * e < m + e → div_ceil m e ≡ c
ceil_is m e c pos low high =
    let t = div_ceil_times m e pos in let t0 = t.0 in let t1 = t.1 in
    not_apart (div_ceil m e) c (λ l. let x = times_more (div_ceil m e) c l in omega arith) (λ l. let x = times_more c (div_ceil m e) l in omega arith)
  where
    times_more : (x y : ℕ) → x < y → x * e + e ≤ y * e
    times_more x y l = let z : (x + 1) * e ≤ y * e = mul-le-mul_right e (omega arith) in omega arith

    not_apart : (x y : ℕ) → (x < y → ⊥) → (y < x → ⊥) → x ≡ y
    not_apart x y f g = omega arith

-- the doorbell steps of packets, at each e of them and at the end
bells_of : (q u e extra : ℕ) → 0 < e → u < e → (u ≡ 0 → extra ≡ 0) → (0 < u → extra ≡ 1) → div_ceil (q * e + u) e ≡ q + extra
bells_of q zero e extra pos few none one = let x : extra ≡ 0 = none refl in let y : (q + extra) * e ≡ q * e = ap (λ (z : ℕ). (q + z) * e) x ∙ (let h : (q + 0) * e ≡ q * e = omega arith in h) in ceil_is (q * e + 0) e (q + extra) pos (omega arith) (omega arith)
bells_of q (suc u) e extra pos few none one = let x : extra ≡ 1 = one (omega arith) in let y : (q + extra) * e ≡ q * e + e = ap (λ (z : ℕ). (q + z) * e) x ∙ (let h : (q + 1) * e ≡ q * e + e = omega arith in h) in ceil_is (q * e + suc u) e (q + extra) pos (omega arith) (omega arith)

-- the loop is over
module _ (a b c : QueueSees) (batch left : List Item) (count unrung : ℕ) (k : IsQueue a) (s : Sending a b batch left count unrung) where
  -- all that waits was rung
  pub sent_all : (extra : ℕ) → (unrung ≡ 0 → extra ≡ 0) → (0 < unrung → extra ≡ 1) → Took [] b c → IsRung c.driver → boarded c ≡ boarded b → bells c.driver.seen ≡ bells b.driver.seen + extra
      → room_of c.driver ≡ room_of b.driver → (left ≡ []) ⊎ (room_of b.driver ≤ b.max_segs + 2) → SentAll a batch count c left
  sent_all extra none one quiet rung frames rings room stops =
      let e : ℕ = a.doorbell_every in let more = more_bells a.driver.seen b.driver.seen s.took.goes_on in
      let q : ℕ = bells b.driver.seen - bells a.driver.seen in
      let split : bells b.driver.seen ≡ bells a.driver.seen + q = omega arith in
      let product : bells b.driver.seen * e ≡ bells a.driver.seen * e + q * e = ap (λ (z : ℕ). z * e) split ∙ (omega arith) in
      let n = s.bells_are in
      let m : boarded b ≡ boarded a + (q * e + unrung) = omega arith in
      let l = length-append s.done left in let x = s.count_is in let y = ap length s.split in record {
        within = omega arith;
        left_is = sym (ap (drop count) s.split ∙ ap (λ (z : ℕ). drop z (s.done ++ left)) s.count_is ∙ drop_done s.done left);
        took = subst (λ (z : List Meaning). Took z a c) (append-nil (map meaning_of (take count batch))) (took_both (map meaning_of (take count batch)) [] a b c (subst (λ (z : List Item). Took (map meaning_of z) a b) taken s.took) quiet);
        rung = rung;
        fewer = λ lt. stopped stops lt;
        rings = (q * e + unrung, frames ∙ m, (let z = bells_of q unrung e extra k.some_every s.few none one in omega arith));
      }
    where
      drop_done : (xs ys : List Item) → drop (length xs) (xs ++ ys) ≡ ys
      drop_done [] ys = refl
      drop_done (z ∷ xs) ys = drop_done xs ys

      take_done : (xs ys : List Item) → take (length xs) (xs ++ ys) ≡ xs
      take_done [] ys = refl
      take_done (z ∷ xs) ys = ap (λ (w : List Item). z ∷ w) (take_done xs ys)

      taken : s.done ≡ take count batch
      taken = sym (ap (take count) s.split ∙ ap (λ (z : ℕ). take z (s.done ++ left)) s.count_is ∙ take_done s.done left)

      stopped : (left ≡ []) ⊎ (room_of b.driver ≤ b.max_segs + 2) → count < length batch → room_of c.driver ≤ c.max_segs + 2
      stopped (inl e) lt = let l = length-append s.done left in let x = s.count_is in let y = ap length s.split in let z = ap length e in absurd (omega arith)
      stopped (inr f) lt = let z = ap (λ (w : Origin). w.max_segs) quiet.origin in omega arith

fates_few : (ds : List Desc) → length (fates_of ds) ≤ length ds
fates_few [] = omega arith
fates_few (d ∷ ds) = by_mark d.last (fates_few ds)
  where
    by_mark : (b : Bool) → length (fates_of ds) ≤ length ds → length (cond b (fate_of d.status ∷ fates_of ds) (fates_of ds)) ≤ suc (length ds)
    by_mark true l = omega arith
    by_mark false l = omega arith

taken_few : (l : List Desc) (n : ℕ) → length (take n l) ≤ n
taken_few l zero = omega arith
taken_few [] (suc n) = omega arith
taken_few (x ∷ l) (suc n) = let r = taken_few l n in omega arith

-- fewer frames than the ring has slots
pub frames_bound : (a b : QueueSees) (frames : ℕ) → IsQueue a → Reclaiming a b frames → frames < a.driver.ring.slots
frames_bound a b frames k r =
    let f = r.frames_are in let few = fates_few (drop a.driver.back (reclaimed_list b.driver)) in let l = length-drop a.driver.back (reclaimed_list b.driver) in let t = taken_few (sent Device b.driver.seen) b.driver.back in
    let there = back_there b.driver r.lawful.lawful in let ret = returned_there b.driver r.lawful.lawful in let e = ap (λ (z : DriverSees). length (sent Driver z.seen)) r.driver in let room = k.lawful.room in omega arith

-- what waited was rung at the end
module _ (a b c : QueueSees) (batch left : List Item) (count unrung : ℕ) (k : IsQueue a) (s : Sending a b batch left count unrung) (stops : (left ≡ []) ⊎ (room_of b.driver ≤ b.max_segs + 2)) where
  pub ends_rung : 0 < unrung → RangOnce b c → SentAll a batch count c left
  ends_rung more r =
      let x = rang_bell b c s.lawful r in
      let l = ap length (rang_list b c s.lawful r) in let m = length-append (sent Driver b.driver.seen) b.driver.pending in let n = length-append (sent Driver c.driver.seen) c.driver.pending in
      let back = ap (λ (z : DriverSees). z.back) r.0.1 in let slots = ap (λ (z : DriverSees). z.ring.slots) r.0.1 in
      sent_all a b c batch left count unrung k s 1 (λ z. absurd (omega arith)) (λ _. refl) (rang_took b c s.lawful r) (rang_rung b c s.lawful r) (rang_boarded b c s.lawful r) (omega arith)
      (same_room c.driver.ring.slots b.driver.ring.slots (posted c.driver) (posted b.driver) c.driver.back b.driver.back slots (omega arith) back) stops
    where
      same_room : (x y p q v w : ℕ) → x ≡ y → p ≡ q → v ≡ w → x - 1 - (p - v) ≡ y - 1 - (q - w)
      same_room x y p q v w e f g = λ i. e i - 1 - (f i - g i)

  pub ends_quiet : unrung ≡ 0 → SentAll a batch count b left
  ends_quiet none = sent_all a b b batch left count unrung k s 0 (λ _. refl) (λ more. absurd (omega arith)) (took_none b) (s.rung none) refl (omega arith) refl stops

-- where the last try changed nothing
pub sending_still : (a b c : QueueSees) (batch left rest : List Item) (count unrung : ℕ) → Sending a b batch left count unrung → c ≡ b → rest ≡ left → Sending a c batch rest count unrung
sending_still a b c batch left rest count unrung s e f = subst (λ (z : QueueSees × List Item). Sending a z.0 batch z.1 count unrung) (λ i. (sym e i, sym f i)) s
