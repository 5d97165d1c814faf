-- One burst, and the end.
use Rattle.std.proofs.Common.{◌≡◌, ℕ, ◌+◌, ◌-◌, ◌<◌, ◌≤◌, Bool, cond, min, List, [], ◌∷◌, ◌++◌, length, take, sym, refl, ap, ◌∙◌, subst, arith, append-nil, append_assoc, length-append}
use Rattle.std.specs.List.{flat_map}
use Rattle.ifl_base.specs.declared.limits.TheConstants.{PART}
use Rattle.ifl_pcap.specs.declared.frame.Frame.{Frame}
use Rattle.ifl_pcap.specs.File.{record_of}
use Rattle.ifl_desc.specs.declared.desc.Desc.{Desc}
use Rattle.ifl_desc.specs.declared.history.Side.TheVariants.{Driver, Device}
use Rattle.ifl_desc.specs.History.{sent}
use Rattle.ifl_desc.specs.Frames.{open_after, frames_from, frames_of}
use Rattle.ifl_desc.proofs.Closing.{no_less}
use Rattle.ifl_desc.proofs.Splitting.{returned_open}
use Rattle.ifl_device.specs.Receive.{RxSees, IsRx, Empties, AreUnused, filled_status, rx_returned}
use Rattle.ifl_rxq.specs.declared.line.MissedLine.{MissedLine}
use Rattle.ifl_rxq.specs.FreeLists.{FreeSees, IsFreeList, Met, Delivers, Refills, GoesOn, accounted, delivered_of, filled_of, settled}
use Rattle.ifl_rxq.specs.Receive.{AreReceived, Ran}
use Rattle.ifl_rxq.specs.Worker.{HasArrived, IsReady, IsDone, full_for}
use Rattle.ifl_rxq.proofs.Splits.{frames_both, filled_append, records}
use Rattle.ifl_rxq.proofs.Runs.{ran_filled, ran_records, ran_received, records_take}
use Rattle.ifl_rxq.proofs.Settling.{back_there, settled_length, settles_all, fewer, no_more}
use Rattle.ifl_rxq.proofs.Bound.{refill_fills, met_buffers, met_returned, met_rung, sent_front}

-- as many clusters are accounted for as were taken, still
pub owes_same : (a b : FreeSees) → GoesOn a b → a.pass.counts.taken ≡ accounted a → b.pass.counts.taken ≡ accounted b
owes_same a b o e = let x = o.excess in omega arith

module _ (burst : ℕ) (frames : List Frame) (n : ℕ) (f : FreeSees) (e : RxSees) (m : List MissedLine) (r : IsReady burst frames n f e m) where
  -- a list that has settled what the engine returned has delivered its frames
  pub ready_delivered : length (frames_of (rx_returned e)) ≤ f.delivered
  ready_delivered =
      let k = r.list in let s = r.caught_up in let o = r.ends in
      let fs = ap (λ (z : List Desc). length (filled_of (frames_of z))) s.1 in let g = ap (λ (z : List (List Desc)). length (filled_of z)) (frames_both (rx_returned e) s.0 o) in
      let h = ap length (filled_append (frames_of (rx_returned e)) (frames_of s.0)) in let a = length-append (filled_of (frames_of (rx_returned e))) (filled_of (frames_of s.0)) in
      let i = ap length (ran_filled burst (full_for f) 0 0 (take n frames) m (frames_of (rx_returned e)) r.arrived.0 r.arrived.1) in let d = k.delivered in omega arith

  -- a full number of buffers is rung beyond what it returned
  pub ready_full : full_for f + length (rx_returned e) ≤ length (sent Driver f.driver.seen)
  ready_full =
      let k = r.list in let s = ap length r.caught_up.1 in let a = length-append (rx_returned e) r.caught_up.0 in let g = ap length k.rung in let full = r.full in let w = k.within in
      let rest : List Desc = [] in let l = settled_length f k (sent Device f.driver.seen) [] (sym (append-nil (sent Device f.driver.seen))) (returned_open f.driver.seen k.lawful.lawful.frames) in
      let b = back_there f k (sent Device f.driver.seen) [] (sym (append-nil (sent Device f.driver.seen))) (returned_open f.driver.seen k.lawful.lawful.frames) in
      let o = (k.lawful.lawful.order f.driver.seen ([], append-nil f.driver.seen)) in let t = o.done in let u = o.heard in omega arith

module _ (burst : ℕ) (frames : List Frame) (n end : ℕ) (f0 f1 f2 f3 f4 : FreeSees) (e0 e1 e2 e3 : RxSees) (m0 m2 : List MissedLine) (r : IsReady burst frames n f0 e0 m0)
    (host : length (flat_map record_of frames) ≤ f0.host.room)
    (meet1 : Met f0 e0.device f1 e1.device) (ring1 : e1.ring ≡ e0.ring) (k1 : IsFreeList f1) (v1 : IsRx e1)
    (arrive : (full : ℕ) → HasArrived burst full frames n e1 m0 → full + length (rx_returned e1) ≤ length (sent Driver e1.device.seen) → HasArrived burst full frames end e2 m2)
    (few : length (frames_of (rx_returned e2)) ≤ length (frames_of (rx_returned e1)) + burst) (ring2 : e2.ring ≡ e1.ring) (v2 : IsRx e2)
    (meet2 : Met f1 e2.device f2 e3.device) (ring3 : e3.ring ≡ e2.ring) (k2 : IsFreeList f2) (v3 : IsRx e3)
    (got : ℕ) (deliver : Delivers f2 burst got f3) (k3 : IsFreeList f3) (posted : ℕ) (refill : Refills f3 4294967295 posted f4) (k4 : IsFreeList f4) where
  returned1 : rx_returned e1 ≡ rx_returned e0
  returned1 = met_returned f0.driver e0.device f1.driver e1.device meet1.ends

  returned3 : rx_returned e3 ≡ rx_returned e2
  returned3 = met_returned f1.driver e2.device f2.driver e3.device meet2.ends

  arrived1 : HasArrived burst (full_for f0) frames n e1 m0
  arrived1 = (r.arrived.0, subst (λ (z : List Desc). Ran burst (full_for f0) 0 0 (take n frames) m0 (frames_of z) r.arrived.0) (sym returned1) r.arrived.1)

  rung1 : full_for f0 + length (rx_returned e1) ≤ length (sent Driver e1.device.seen)
  rung1 = let a = ready_full burst frames n f0 e0 m0 r in let b = met_buffers f0.driver e0.device f1.driver e1.device meet1.ends in let c = ap length returned1 in omega arith

  arrived2 : HasArrived burst (full_for f0) frames end e2 m2
  arrived2 = arrive (full_for f0) arrived1 rung1

  abbrev real : List Desc
  real = rx_returned e2

  sees2 : (more : List Desc) × (sent Device f2.driver.seen ≡ real ++ more)
  sees2 = sent_front e2.device.seen f2.driver.seen meet2.ends.driver_hears

  sees3 : (more : List Desc) × (sent Device f3.driver.seen ≡ real ++ more)
  sees3 = let s = sent_front f2.driver.seen f3.driver.seen deliver.on.seen in (sees2.0 ++ s.0, s.1 ∙ ap (λ (z : List Desc). z ++ s.0) sees2.1 ∙ append_assoc real sees2.0 s.0)

  ends2 : open_after 0 real ≡ 0
  ends2 = returned_open e2.device.seen v2.lawful.lawful.frames

  room3 : records (filled_of (frames_of real)) ≤ f3.host.room
  room3 = let a = ap records (ran_filled burst (full_for f0) 0 0 (take end frames) m2 (frames_of real) arrived2.0 arrived2.1) in
      let b = ran_records burst (full_for f0) 0 0 (take end frames) m2 (frames_of real) arrived2.0 arrived2.1 in let c = records_take end frames in
      let x = meet1.on.room in let y = meet2.on.room in let z = deliver.on.room in omega arith

  few3 : length (settled f3) < length real → f3.delivered < f2.delivered + burst
  few3 less = let a = fewer f3 k3 real sees3.0 sees3.1 ends2 less in let d = ready_delivered burst frames n f0 e0 m0 r in
      let x = ap (λ (z : FreeSees). z.delivered) meet1.same in let y = ap (λ (z : FreeSees). z.delivered) meet2.same in let c = ap (λ (z : List Desc). length (frames_of z)) returned1 in omega arith

  settled3 : (more : List Desc) × (settled f3 ≡ real ++ more)
  settled3 = settles_all burst got f2 f3 k3 deliver real sees3.0 sees3.1 ends2 few3 room3

  ring_same : f4.ring ≡ f0.ring
  ring_same = refill.on.ring ∙ deliver.on.ring ∙ meet2.on.ring ∙ meet1.on.ring

  pool_same : f4.pool ≡ f0.pool
  pool_same = refill.on.pool ∙ deliver.on.pool ∙ meet2.on.pool ∙ meet1.on.pool

  full_same : full_for f4 ≡ full_for f0
  full_same = λ i. min ((ring_same i).slots - 1) (pool_same i).size

  part3 : f3.pass.part ≡ PART
  part3 = deliver.on.part ∙ meet2.on.part ∙ meet1.on.part ∙ r.part

  owes3 : f3.pass.counts.taken ≡ accounted f3
  owes3 = owes_same f2 f3 deliver.on (owes_same f1 f2 meet2.on (owes_same f0 f1 meet1.on r.accounts))

  -- it is ready for the next
  pub burst_ready : IsReady burst frames end f4 e3 m2
  burst_ready = record {
    arrived = (arrived2.0, subst (λ (z : ℕ × List Desc). Ran burst z.0 0 0 (take end frames) m2 (frames_of z.1) arrived2.0) (λ i. (sym full_same i, sym returned3 i)) arrived2.1);
    caught_up = (settled3.0, refill.still ∙ settled3.1 ∙ ap (λ (z : List Desc). z ++ settled3.0) (sym returned3));
    full = refill_fills posted 4294967295 f3 f4 k4 refill (omega arith) part3 owes3;
    ring = ring3 ∙ ring2 ∙ ring1 ∙ r.ring ∙ sym ring_same;
    part = refill.on.part ∙ part3;
    accounts = owes_same f3 f4 refill.on owes3;
    list = k4;
    ends = ap (open_after 0) returned3 ∙ ends2;
  }

  pub burst_same : (f4.ring ≡ f0.ring) × (f4.pool ≡ f0.pool) × (f4.copy_break ≡ f0.copy_break) × (f4.host.room ≡ f0.host.room) × (e3.ring ≡ e0.ring)
  burst_same = (ring_same, pool_same, refill.on.copy_break ∙ deliver.on.copy_break ∙ meet2.on.copy_break ∙ meet1.on.copy_break, refill.on.room ∙ deliver.on.room ∙ meet2.on.room ∙ meet1.on.room, ring3 ∙ ring2 ∙ ring1)

nil_of : (l : List Desc) → length l ≡ 0 → l ≡ []
nil_of [] e = refl
nil_of (d ∷ l) e = absurd (omega arith)

-- no frame of unused buffers was filled
unused_frames : (ds : List Desc) → AreUnused ds → filled_of (frames_of ds) ≡ []
unused_frames [] u = refl
unused_frames (d ∷ ds) u =
    ap (λ (b : Bool). filled_of (cond b ((d ∷ []) ∷ frames_from [] ds) (frames_from (d ∷ []) ds))) u.0
    ∙ ap (λ (b : Bool). cond b ((d ∷ []) ∷ filled_of (frames_of ds)) (filled_of (frames_of ds))) (ap filled_status u.1) ∙ unused_frames ds u.2

module _ (burst : ℕ) (frames : List Frame) (n : ℕ) (f0 f1 f2 f3 : FreeSees) (e0 e1 e2 e3 : RxSees) (m : List MissedLine) (r : IsReady burst frames n f0 e0 m) (all : n ≡ length frames)
    (host : length (flat_map record_of frames) ≤ f0.host.room)
    (meet1 : Met f0 e0.device f1 e1.device) (k1 : IsFreeList f1) (v1 : IsRx e1) (count : ℕ) (empties : Empties e1 count e2) (v2 : IsRx e2)
    (meet2 : Met f1 e2.device f2 e3.device) (k2 : IsFreeList f2) (v3 : IsRx e3) (got : ℕ) (deliver : Delivers f2 1 got f3) (k3 : IsFreeList f3) where
  abbrev stored : List Desc
  stored = rx_returned e0

  abbrev unused : List Desc
  unused = empties.unused.0

  last_returned1 : rx_returned e1 ≡ stored
  last_returned1 = met_returned f0.driver e0.device f1.driver e1.device meet1.ends

  last_returned2 : rx_returned e2 ≡ stored ++ unused
  last_returned2 = empties.unused.3.list_is ∙ ap (λ (z : List Desc). z ++ unused) last_returned1

  last_returned3 : rx_returned e3 ≡ rx_returned e2
  last_returned3 = met_returned f1.driver e2.device f2.driver e3.device meet2.ends

  stored_ends : open_after 0 stored ≡ 0
  stored_ends = r.ends

  ran : Ran burst (full_for f0) 0 0 frames m (frames_of stored) r.arrived.0
  ran = subst (λ (z : List Frame). Ran burst (full_for f0) 0 0 z m (frames_of stored) r.arrived.0) (ap (λ (z : ℕ). take z frames) all ∙ take_all frames) r.arrived.1
    where
      take_all : (l : List Frame) → take (length l) l ≡ l
      take_all [] = refl
      take_all (x ∷ l) = ap (λ (z : List Frame). x ∷ z) (take_all l)

  filled_are : filled_of (frames_of (rx_returned e2)) ≡ frames_of stored
  filled_are = ap (λ (z : List Desc). filled_of (frames_of z)) last_returned2 ∙ ap filled_of (frames_both stored unused stored_ends) ∙ filled_append (frames_of stored) (frames_of unused)
      ∙ (λ i. ran_filled burst (full_for f0) 0 0 frames m (frames_of stored) r.arrived.0 ran i ++ unused_frames unused empties.unused.1 i) ∙ append-nil (frames_of stored)

  last_sees : (more : List Desc) × (sent Device f3.driver.seen ≡ rx_returned e2 ++ more)
  last_sees = let t = sent_front e2.device.seen f2.driver.seen meet2.ends.driver_hears in let s = sent_front f2.driver.seen f3.driver.seen deliver.on.seen in
      (t.0 ++ s.0, s.1 ∙ ap (λ (z : List Desc). z ++ s.0) t.1 ∙ append_assoc (rx_returned e2) t.0 s.0)

  last_ends : open_after 0 (rx_returned e2) ≡ 0
  last_ends = returned_open e2.device.seen v2.lawful.lawful.frames

  last_few : length (settled f3) < length (rx_returned e2) → f3.delivered < f2.delivered + 1
  last_few less = let a = no_more f3 k3 (rx_returned e2) last_sees.0 last_sees.1 last_ends less in let b = ap length filled_are in let d = ready_delivered burst frames n f0 e0 m r in
      let x = ap (λ (z : FreeSees). z.delivered) meet1.same in let y = ap (λ (z : FreeSees). z.delivered) meet2.same in omega arith

  last_room : records (filled_of (frames_of (rx_returned e2))) ≤ f3.host.room
  last_room = let a = ap records filled_are in let b = ran_records burst (full_for f0) 0 0 frames m (frames_of stored) r.arrived.0 ran in
      let x = meet1.on.room in let y = meet2.on.room in let z = deliver.on.room in omega arith

  last_settled : (more : List Desc) × (settled f3 ≡ rx_returned e2 ++ more)
  last_settled = settles_all 1 got f2 f3 k3 deliver (rx_returned e2) last_sees.0 last_sees.1 last_ends last_few last_room

  rung_same : sent Driver f3.driver.seen ≡ sent Driver f0.driver.seen
  rung_same = deliver.rung ∙ met_rung f1.driver e2.device f2.driver e3.device meet2.ends ∙ met_rung f0.driver e0.device f1.driver e1.device meet1.ends

  -- the engine has returned all that is rung
  all_returned : length (sent Driver f3.driver.seen) ≤ length (rx_returned e2)
  all_returned =
      let l = empties.unused.3.looked in let a = ap length rung_same in let b = met_buffers f0.driver e0.device f1.driver e1.device meet1.ends in let c = no_less Driver e1.device.seen l.then l.before in
      let x = l.all in let s = l.still in let z = empties.none in let g = v2.fetched in omega arith

  back_rung : f3.driver.back ≤ length (sent Driver f3.driver.seen)
  back_rung = let h = k3.lawful.behind in let o = k3.lawful.lawful.order f3.driver.seen ([], append-nil f3.driver.seen) in let t = o.told in let u = o.done in let w = o.heard in omega arith

  lengths : length (settled f3) ≡ f3.driver.back - length f3.held
  lengths = settled_length f3 k3 (rx_returned e2) last_sees.0 last_sees.1 last_ends

  nothing_more : last_settled.0 ≡ []
  nothing_more = let s = ap length last_settled.1 in let a = length-append (rx_returned e2) last_settled.0 in let b = all_returned in let c = back_rung in let l = lengths in nil_of last_settled.0 (omega arith)

  pub finish_done : IsDone f3 e3
  finish_done = record {
    none = (let s = ap length last_settled.1 in let a = length-append (rx_returned e2) last_settled.0 in let b = all_returned in let c = back_rung in let l = lengths in let p = ap length k3.rung in let w = k3.within in omega arith);
    all = last_returned3 ∙ sym (append-nil (rx_returned e2)) ∙ ap (λ (z : List Desc). rx_returned e2 ++ z) (sym nothing_more) ∙ sym last_settled.1;
  }

  pub finish_received : AreReceived burst (full_for f0) 0 0 frames m (delivered_of f3)
  finish_received =
      let is : delivered_of f3 ≡ frames_of stored = ap (λ (z : List Desc). filled_of (frames_of z)) (last_settled.1 ∙ ap (λ (z : List Desc). rx_returned e2 ++ z) nothing_more ∙ append-nil (rx_returned e2)) ∙ filled_are in
      subst (AreReceived burst (full_for f0) 0 0 frames m) (sym is) (ran_received burst (full_for f0) 0 0 frames m (frames_of stored) r.arrived.0 ran)

  pub finish_same : (f3.ring ≡ f0.ring) × (f3.pool ≡ f0.pool) × (f3.copy_break ≡ f0.copy_break) × (f3.pass.part ≡ PART) × (f3.pass.counts.taken ≡ accounted f3)
  finish_same = (
    deliver.on.ring ∙ meet2.on.ring ∙ meet1.on.ring,
    deliver.on.pool ∙ meet2.on.pool ∙ meet1.on.pool,
    deliver.on.copy_break ∙ meet2.on.copy_break ∙ meet1.on.copy_break,
    deliver.on.part ∙ meet2.on.part ∙ meet1.on.part ∙ r.part,
    owes_same f2 f3 deliver.on (owes_same f1 f2 meet2.on (owes_same f0 f1 meet1.on r.accounts)),
  )
