-- A free list after each of its steps.
use Rattle.std.proofs.Common.{◌≡◌, ℕ, suc, ◌+◌, ◌-◌, ◌*◌, ◌^◌, ◌<◌, ◌≤◌, min, Bool, true, false, cond, nat_le, List, [], ◌∷◌, ◌++◌, length, map, take, sym, refl, ap, ◌∙◌, subst, arith, append-nil, length-append}
use Rattle.atomic_table.specs.Seated.{TableId}
use Rattle.std.proofs.lemmas.List.{map-append}
use Rattle.ifl_pcap.specs.File.{written, record_of}
use Rattle.ifl_pool.specs.declared.known.Known.{Known}
use Rattle.ifl_desc.specs.declared.desc.Desc.{Desc}
use Rattle.ifl_desc.specs.declared.history.Event.{Event}
use Rattle.ifl_desc.specs.declared.history.Event.TheVariants.{Sent}
use Rattle.ifl_desc.specs.declared.history.Side.TheVariants.{Driver, Device}
use Rattle.ifl_desc.specs.History.{sent}
use Rattle.ifl_desc.specs.Frames.{bytes_of, open_after, frames_of, IsWholeFrame}
use Rattle.ifl_desc.specs.Ends.{DriverSees, DeviceSees, IsDriver, room_of}
use Rattle.ifl_desc.specs.Calls.{Grew, Flushes, Credits, Meets}
use Rattle.ifl_desc.proofs.AfterSteps.{grew_sent, grew_prefix, grew_other}
use Rattle.ifl_desc.proofs.Steps.{same_sent, sent_append}
use Rattle.ifl_device.specs.Adapter.{captured}
use Rattle.ifl_device.specs.Wire.{WireSees}
use Rattle.ifl_device.specs.Engine.{IsHeld}
use Rattle.ifl_device.specs.Receive.{is_filled}
use Rattle.ifl_device.proofs.Engines.{written_one}
use Rattle.ifl_desc.proofs.Splitting.{frames_more}
use Rattle.ifl_desc.proofs.Framing.{open_append}
use Rattle.ifl_rxq.specs.Clusters.{Posting, Frees}
use Rattle.ifl_rxq.specs.FreeLists.{FreeSees, IsFreeList, Refills, Looks, Met, Holds, Settles, accounted, avail_of, delivered_of, filled_of, free_list_of, kept_by, kept_of, outstanding, settled, small_of}
use Rattle.ifl_rxq.proofs.Splits.{take_front, whole_open, filled_append, written_length, records, records_first}

-- one more frame in the capture
small_append : (n : ℕ) (xs ys : List (List Desc)) → small_of n (xs ++ ys) ≡ small_of n xs + small_of n ys
small_append n [] ys = omega arith
small_append n (f ∷ xs) ys = let i = small_append n xs ys in let c : ℕ = cond (nat_le (length (bytes_of f)) n) 1 0 in (let g : c + small_of n (xs ++ ys) ≡ (c + small_of n xs) + small_of n ys = omega arith in g)

pub kept_append : (n : ℕ) (xs ys : List (List Desc)) → kept_of n (xs ++ ys) ≡ kept_of n xs + kept_of n ys
kept_append n [] ys = omega arith
kept_append n (f ∷ xs) ys = let i = kept_append n xs ys in let c : ℕ = kept_by n f in (let g : c + kept_of n (xs ++ ys) ≡ (c + kept_of n xs) + kept_of n ys = omega arith in g)

small_few : (n : ℕ) (fs : List (List Desc)) → small_of n fs ≤ length fs
small_few n [] = omega arith
small_few n (f ∷ fs) = by_test (nat_le (length (bytes_of f)) n) (small_few n fs)
  where
    by_test : (b : Bool) → small_of n fs ≤ length fs → cond b 1 0 + small_of n fs ≤ suc (length fs)
    by_test true i = omega arith
    by_test false i = omega arith

records_long : (fs : List (List Desc)) → 16 * length fs ≤ records fs
records_long [] = omega arith
records_long (f ∷ fs) = let i = records_long fs in let r = records_first f fs in omega arith

-- what was delivered lies in the host capture
pub few_delivered : (a : FreeSees) → IsFreeList a → a.host.room < 2 ^ 64 → a.delivered < 2 ^ 63
few_delivered a k small = let d = k.delivered in let l = records_long (delivered_of a) in let w = written_length (delivered_of a) in let h = ap length k.host in let r = k.room in
    let s : a.host.room < 18446744073709551616 = small in (let g : a.delivered < 9223372036854775808 = omega arith in g)

pub few_copied : (a : FreeSees) → IsFreeList a → a.copied ≤ a.delivered
few_copied a k = let c = k.copied in let d = k.delivered in let s = small_few a.copy_break (delivered_of a) in omega arith

module _ (a : FreeSees) (k : IsFreeList a) where
  abbrev list : List Desc
  list = sent Device a.driver.seen

  back_there : a.driver.back ≤ length list
  back_there = let o = (k.lawful.lawful.order a.driver.seen ([], append-nil a.driver.seen)).told in let h = k.lawful.behind in omega arith

  -- what is settled stands as it stood, where more is returned
  pub still_settled : (e : DriverSees) (more : List Desc) → sent Device e.seen ≡ list ++ more → e.back ≡ a.driver.back → take (e.back - length a.held) (sent Device e.seen) ≡ settled a
  still_settled e more s b = (λ i. take (b i - length a.held) (s i)) ∙ take_front (a.driver.back - length a.held) list more (let h = back_there in omega arith)

  still_held : (e : DriverSees) (more : List Desc) → sent Device e.seen ≡ list ++ more → e.back ≡ a.driver.back → take e.back (sent Device e.seen) ≡ take a.driver.back list
  still_held e more s b = (λ i. take (b i) (s i)) ∙ take_front a.driver.back list more back_there

  -- another driver's end and another pass, with nothing more settled
  pub moved_list : (e : DriverSees) (pass : Known) (left : ℕ) (more : List Desc) → e.ring ≡ a.driver.ring → IsDriver e → e.pending ≡ [] → sent Device e.seen ≡ list ++ more → e.back ≡ a.driver.back
      → left + outstanding (free_list_of a.ring a.pool a.copy_break e pass left a.held a.host a.delivered a.copied) < a.ring.slots
      → accounted (free_list_of a.ring a.pool a.copy_break e pass left a.held a.host a.delivered a.copied) ≤ pass.counts.taken
      → IsFreeList (free_list_of a.ring a.pool a.copy_break e pass left a.held a.host a.delivered a.copied)
  moved_list e pass left more ring lawful rung s b few accounts = let st = still_settled e more s b in record {
    own = ring ∙ k.own;
    lawful = lawful;
    rung = rung;
    held = still_held e more s b ∙ k.held ∙ ap (λ (z : List Desc). z ++ a.held) (sym st);
    within = (let w = k.within in omega arith);
    whole = k.whole;
    ends = ap (open_after 0) st ∙ k.ends;
    host = k.host ∙ ap (λ (z : List Desc). written (map captured (filled_of (frames_of z)))) (sym st);
    room = k.room;
    delivered = k.delivered ∙ ap (λ (z : List Desc). length (filled_of (frames_of z))) (sym st);
    copied = k.copied ∙ ap (λ (z : List Desc). small_of a.copy_break (filled_of (frames_of z))) (sym st);
    few = few;
    small = k.small;
    accounts = accounts;
  }

  pub avail_is : room_of a.driver - length a.held ≡ avail_of a
  avail_is = let f = k.few in let s = ap (λ (z : TableId). z.slots) k.own in omega arith

  module _ (budget n : ℕ) (d e : DriverSees) (pass : Known) (left : ℕ) (p : Posting a.pool.size (min budget (avail_of a)) n a.driver a.pass a.kept d pass left) (f : Flushes d e) (lawful : IsDriver e) where
    abbrev refilled : FreeSees
    refilled = free_list_of a.ring a.pool a.copy_break e pass left a.held a.host a.delivered a.copied

    abbrev posts : List Desc
    posts = p.some.posts.0

    d_is : d ≡ record (a.driver) { pending = posts }
    d_is = p.some.posts.3

    grew : Grew Driver a.driver.seen e.seen (Sent Driver posts)
    grew = subst (λ (z : DriverSees). Grew Driver z.seen e.seen (Sent Driver z.pending)) d_is f.0

    rung_more : sent Driver e.seen ≡ sent Driver a.driver.seen ++ posts
    rung_more = grew_sent Driver a.driver.seen e.seen (Sent Driver posts) grew ∙ ap (λ (z : List Desc). sent Driver a.driver.seen ++ z) (append-nil posts)

    other_more : (more : List Desc) × (sent Device e.seen ≡ list ++ more)
    other_more = grew_other Driver a.driver.seen e.seen (Sent Driver posts) grew Device

    back_is : e.back ≡ a.driver.back
    back_is = ap (λ (z : DriverSees). z.back) f.1 ∙ ap (λ (z : DriverSees). z.back) d_is

    pending_is : e.pending ≡ []
    pending_is = ap (λ (z : DriverSees). z.pending) f.1

    more_out : outstanding refilled ≡ outstanding a + n
    more_out = let r = ap length rung_more in let l = length-append (sent Driver a.driver.seen) posts in let c = p.some.posts.1 in let q = ap length pending_is in let b = back_is in
        let x = ap length k.rung in let w = k.lawful.behind in let o = (k.lawful.lawful.order a.driver.seen ([], append-nil a.driver.seen)) in let t = o.told in let u = o.done in let v = o.heard in omega arith

    few_kept : left + outstanding refilled < a.ring.slots
    few_kept = let m = more_out in let t = p.some.kept_first in let most = p.few in let g = k.few in omega arith

    accounted_is : pass.counts.taken + accounted a ≡ a.pass.counts.taken + accounted refilled
    accounted_is = let m = more_out in let t = p.some.taken in let g = p.some.given in omega arith

    pub refill_list : IsFreeList refilled
    refill_list = let m = other_more in moved_list e pass left m.0 (ap (λ (z : DriverSees). z.ring) f.1 ∙ ap (λ (z : DriverSees). z.ring) d_is) lawful pending_is m.1 back_is few_kept (let x = accounted_is in let y = k.accounts in omega arith)

    pub refill_does : Refills a budget n refilled
    refill_does = let m = other_more in record {
      on = record { ring = refl; pool = refl; copy_break = refl; room = refl; seen = grew_prefix Driver a.driver.seen e.seen (Sent Driver posts) grew; part = p.some.part; excess = accounted_is };
      same = refl;
      back = back_is;
      still = still_settled e m.0 m.1 back_is;
      more = more_out;
      posts = (posts, p.some.posts.1, p.some.posts.2, grew);
      few = p.few;
      kept = p.some.kept_first;
      given = p.some.given;
      less = p.less;
      all_out = p.all_out;
    }

  module _ (n : ℕ) (e : DriverSees) (c : Credits a.driver n e) (lawful : IsDriver e) where
    abbrev looked : FreeSees
    looked = free_list_of a.ring a.pool a.copy_break e a.pass a.kept a.held a.host a.delivered a.copied

    look_more : sent Device e.seen ≡ list ++ sent Device c.goes_on.0
    look_more = ap (sent Device) (sym c.goes_on.1) ∙ sent_append Device a.driver.seen c.goes_on.0

    look_back : e.back ≡ a.driver.back
    look_back = ap (λ (z : DriverSees). z.back) c.same

    look_pending : e.pending ≡ []
    look_pending = ap (λ (z : DriverSees). z.pending) c.same ∙ k.rung

    look_out : outstanding looked ≡ outstanding a
    look_out = λ i. ((length (c.rings_not i) + length ((ap (λ (z : DriverSees). z.pending) c.same) i)) - look_back i) + length a.held

    pub look_list : IsFreeList looked
    look_list = moved_list e a.pass a.kept (sent Device c.goes_on.0) (ap (λ (z : DriverSees). z.ring) c.same) lawful look_pending look_more look_back (let o = look_out in let f = k.few in omega arith) (let o = look_out in let f = k.accounts in omega arith)

    pub look_does : Looks a looked
    look_does = record {
      same = refl;
      on = record { ring = refl; pool = refl; copy_break = refl; room = refl; seen = c.goes_on; part = refl; excess = (let o = look_out in omega arith) };
      rung = c.rings_not;
      looked = c.looked;
      known_all = c.all;
      still = still_settled e (sent Device c.goes_on.0) look_more look_back;
    }

  -- it met the engine
  module _ (v v' : DeviceSees) (e : DriverSees) (m : Meets a.driver v e v') (lawful : IsDriver e) where
    abbrev met : FreeSees
    met = free_list_of a.ring a.pool a.copy_break e a.pass a.kept a.held a.host a.delivered a.copied

    met_more : sent Device e.seen ≡ list ++ sent Device m.of_driver.0
    met_more = ap (sent Device) (sym m.of_driver.1) ∙ sent_append Device a.driver.seen m.of_driver.0

    met_back : e.back ≡ a.driver.back
    met_back = ap (λ (z : DriverSees). z.back) m.driver

    met_pending : e.pending ≡ []
    met_pending = ap (λ (z : DriverSees). z.pending) m.driver ∙ k.rung

    met_out : outstanding met ≡ outstanding a
    met_out = λ i. ((length ((same_sent Driver e.seen a.driver.seen m.driver_own) i) + length ((ap (λ (z : DriverSees). z.pending) m.driver) i)) - met_back i) + length a.held

    pub met_does : Met a v met v'
    met_does = record {
      ends = m;
      same = refl;
      on = record { ring = refl; pool = refl; copy_break = refl; room = refl; seen = m.of_driver; part = refl; excess = (let o = met_out in omega arith) };
      still = still_settled e (sent Device m.of_driver.0) met_more met_back;
    }

    pub met_list : IsFreeList met
    met_list = moved_list e a.pass a.kept (sent Device m.of_driver.0) (ap (λ (z : DriverSees). z.ring) m.driver) lawful met_pending met_more met_back (let o = met_out in let f = k.few in omega arith) (let o = met_out in let f = k.accounts in omega arith)

  -- a frame is held, or none is known
  module _ (none : a.held ≡ []) (frame : List Desc) (e : DriverSees) (same : e ≡ record (a.driver) { back = a.driver.back + length frame }) (lawful : IsDriver e) (held : take e.back list ≡ take a.driver.back list ++ frame) (whole : IsHeld frame) where
    abbrev holding : FreeSees
    holding = free_list_of a.ring a.pool a.copy_break e a.pass a.kept frame a.host a.delivered a.copied

    hold_seen : e.seen ≡ a.driver.seen
    hold_seen = ap (λ (z : DriverSees). z.seen) same

    hold_back : e.back ≡ a.driver.back + length frame
    hold_back = ap (λ (z : DriverSees). z.back) same

    front : settled a ≡ take a.driver.back list
    front = ap (λ (z : List Desc). take (a.driver.back - length z) list) none ∙ ap (λ (z : ℕ). take z list) (let g : a.driver.back - 0 ≡ a.driver.back = omega arith in g)

    hold_settled : settled holding ≡ settled a
    hold_settled = (λ i. take (((ap (λ (z : ℕ). z - length frame) hold_back) ∙ (let g : (a.driver.back + length frame) - length frame ≡ a.driver.back = omega arith in g)) i) (sent Device (hold_seen i))) ∙ sym front

    hold_out : outstanding holding ≡ outstanding a
    hold_out = let b = hold_back in let p = ap (λ (z : DriverSees). length (sent Driver z.seen) + length z.pending) same in let n = ap length none in let r = lawful.behind in
        let o = (lawful.lawful.order e.seen ([], append-nil e.seen)) in let t = o.told in let u = o.done in let v = o.heard in omega arith

    pub hold_list : IsFreeList holding
    hold_list = record {
      own = ap (λ (z : DriverSees). z.ring) same ∙ k.own;
      lawful = lawful;
      rung = ap (λ (z : DriverSees). z.pending) same ∙ k.rung;
      held = ap (λ (z : List Event). take e.back (sent Device z)) hold_seen ∙ held ∙ ap (λ (z : List Desc). z ++ frame) (sym front ∙ sym hold_settled);
      within = (let b = hold_back in omega arith);
      whole = whole;
      ends = ap (open_after 0) hold_settled ∙ k.ends;
      host = k.host ∙ ap (λ (z : List Desc). written (map captured (filled_of (frames_of z)))) (sym hold_settled);
      room = k.room;
      delivered = k.delivered ∙ ap (λ (z : List Desc). length (filled_of (frames_of z))) (sym hold_settled);
      copied = k.copied ∙ ap (λ (z : List Desc). small_of a.copy_break (filled_of (frames_of z))) (sym hold_settled);
      few = (let o = hold_out in let f = k.few in omega arith);
      small = k.small;
      accounts = (let o = hold_out in let f = k.accounts in omega arith);
    }

    pub hold_does : Holds a holding
    hold_does = record {
      rests = record { on = record { ring = refl; pool = refl; copy_break = refl; room = refl; seen = ([], append-nil a.driver.seen ∙ sym hold_seen); part = refl; excess = (let o = hold_out in omega arith) }; seen = hold_seen; taken = refl };
      still = hold_settled;
      kept = refl;
      count = refl;
      host = refl;
    }

  -- the held frame is settled
  module _ (w : IsWholeFrame a.held) (pass : Known) (left : ℕ) (keeps : Bool) (frees : Frees (length a.held) keeps a.pass a.kept pass left) (keeps_is : cond keeps (length a.held) 0 ≡ kept_by a.copy_break a.held) (fill : Bool) (is : is_filled a.held ≡ fill) (host : WireSees) (room : host.room ≡ a.host.room)
      (fits : length host.bytes ≤ 24 + host.room) (bytes : host.bytes ≡ cond fill (a.host.bytes ++ record_of (captured a.held)) a.host.bytes) (delivered copied : ℕ) (count : delivered ≡ a.delivered + cond fill 1 0)
      (short : copied ≡ a.copied + cond fill (cond (nat_le (length (bytes_of a.held)) a.copy_break) 1 0) 0) where
    abbrev emptied : FreeSees
    emptied = free_list_of a.ring a.pool a.copy_break a.driver pass left [] host delivered copied

    next_settled : settled emptied ≡ settled a ++ a.held
    next_settled = ap (λ (z : ℕ). take z list) (let g : a.driver.back - 0 ≡ a.driver.back = omega arith in g) ∙ k.held

    frames_are : frames_of (settled emptied) ≡ frames_of (settled a) ++ a.held ∷ []
    frames_are = ap frames_of next_settled ∙ frames_more (settled a) a.held k.ends w

    abbrev one : List (List Desc)
    one = cond fill (a.held ∷ []) []

    filled_one : filled_of (a.held ∷ []) ≡ one
    filled_one = ap (λ (b : Bool). cond b (a.held ∷ []) []) is

    delivered_is : delivered_of emptied ≡ delivered_of a ++ one
    delivered_is = ap filled_of frames_are ∙ filled_append (frames_of (settled a)) (a.held ∷ []) ∙ ap (λ (z : List (List Desc)). delivered_of a ++ z) filled_one

    out_is : outstanding emptied + length a.held ≡ outstanding a
    out_is = omega arith

    by_host : (b : Bool) → host.bytes ≡ cond b (a.host.bytes ++ record_of (captured a.held)) a.host.bytes → host.bytes ≡ written (map captured (delivered_of a ++ cond b (a.held ∷ []) []))
    by_host true e = e ∙ ap (λ (z : List ℕ). z ++ record_of (captured a.held)) k.host ∙ sym (written_one (map captured (delivered_of a)) (captured a.held)) ∙ ap written (sym (map-append captured (delivered_of a) (a.held ∷ [])))
    by_host false e = e ∙ k.host ∙ ap (λ (z : List (List Desc)). written (map captured z)) (sym (append-nil (delivered_of a)))

    by_count : (b : Bool) → length (delivered_of a ++ cond b (a.held ∷ []) []) ≡ length (delivered_of a) + cond b 1 0
    by_count true = length-append (delivered_of a) (a.held ∷ [])
    by_count false = length-append (delivered_of a) []

    by_short : (b : Bool) → small_of a.copy_break (delivered_of a ++ cond b (a.held ∷ []) []) ≡ small_of a.copy_break (delivered_of a) + cond b (cond (nat_le (length (bytes_of a.held)) a.copy_break) 1 0) 0
    by_short true = small_append a.copy_break (delivered_of a) (a.held ∷ []) ∙ (let c : ℕ = cond (nat_le (length (bytes_of a.held)) a.copy_break) 1 0 in let g : small_of a.copy_break (delivered_of a) + (c + 0) ≡ small_of a.copy_break (delivered_of a) + c = omega arith in g)
    by_short false = small_append a.copy_break (delivered_of a) []

    pub settle_list : IsFreeList emptied
    settle_list = record {
      own = k.own;
      lawful = k.lawful;
      rung = k.rung;
      held = k.held ∙ sym next_settled ∙ sym (append-nil (settled emptied));
      within = omega arith;
      whole = tt;
      ends = ap (open_after 0) next_settled ∙ open_append 0 (settled a) a.held ∙ ap (λ (z : ℕ). open_after z a.held) k.ends ∙ whole_open 0 a.held w;
      host = by_host fill bytes ∙ ap (λ (z : List (List Desc)). written (map captured z)) (sym delivered_is);
      room = fits;
      delivered = count ∙ ap (λ (z : ℕ). z + cond fill 1 0) k.delivered ∙ sym (by_count fill) ∙ ap length (sym delivered_is);
      copied = short ∙ ap (λ (z : ℕ). z + cond fill (cond (nat_le (length (bytes_of a.held)) a.copy_break) 1 0) 0) k.copied ∙ sym (by_short fill) ∙ ap (small_of a.copy_break) (sym delivered_is);
      few = (let o = out_is in let f = k.few in let m = frees.more in let g = frees.given in omega arith);
      small = k.small;
      accounts = (let o = out_is in let f = k.accounts in let m = frees.more in let t = frees.taken in omega arith);
    }

    pub settle_does : Settles (cond fill 1 0) a emptied
    settle_does = record {
      rests = record { on = record { ring = refl; pool = refl; copy_break = refl; room = room; seen = ([], append-nil a.driver.seen); part = frees.part; excess = (let o = out_is in let m = frees.more in let t = frees.taken in omega arith) }; seen = refl; taken = frees.taken };
      next = next_settled;
      none = refl;
      kept = frees.keeps ∙ ap (λ (z : ℕ). a.kept + z) keeps_is;
      count = count;
    }
