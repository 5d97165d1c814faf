-- The end of a receive run.
use Rattle.std.proofs.Common.{◌≡◌, ℕ, suc, ◌+◌, ◌-◌, ◌<◌, ◌≤◌, inl, inr, List, [], ◌∷◌, ◌++◌, length, take, drop, get_or, zero, map, subst, sym, refl, ap, ◌∙◌, arith, append-nil, length-append}
use Rattle.std.specs.List.{flat_map}
use Rattle.std.proofs.lemmas.Grind.{flat_map-append}
use Rattle.ifl_pcap.specs.declared.frame.Frame.{Frame}
use Rattle.atomic_table.specs.Seated.{TableId}
use Rattle.ifl_base.specs.declared.limits.TheConstants.{PART}
use Rattle.ifl_pcap.specs.File.{record_of, written}
use Rattle.ifl_pool.specs.Pools.{PoolId, PassState, ClosedState as ClosedPool, IsClosedPool}
use Rattle.ifl_desc.specs.Frames.{frames_of}
use Rattle.ifl_device.specs.Adapter.{captured}
use Rattle.ifl_rxq.specs.declared.line.RxCounters.{RxCounters}
use Rattle.ifl_rxq.specs.declared.sizes.RxSizes.{RxSizes}
use Rattle.ifl_rxq.specs.declared.sizes.RxRules.{RxRules}
use Rattle.ifl_rxq.specs.Worker.{IsDone}
use Rattle.ifl_rxq.specs.Received.{IsReceived, IsServed, stored_in}
use Rattle.ifl_pcap.proofs.Parts.{length-record_of}
use Rattle.ifl_desc.specs.declared.desc.Desc.{Desc}
use Rattle.ifl_desc.specs.declared.history.Side.TheVariants.{Driver, Device}
use Rattle.ifl_desc.specs.History.{sent}
use Rattle.ifl_desc.specs.Ends.{DriverSees, DeviceSees}
use Rattle.ifl_desc.specs.Closed.{ClosedSees, Closes, IsClosed, left_of, whole_list}
use Rattle.ifl_device.specs.Receive.{RxSees, IsRx, needed}
use Rattle.ifl_rxq.specs.declared.line.MissedLine.{MissedLine}
use Rattle.ifl_rxq.specs.FreeLists.{FreeSees, IsFreeList, accounted, delivered_of, filled_of, outstanding, settled, small_of}
use Rattle.ifl_rxq.specs.Receive.{AreReceived, full_of, used_before}
use Rattle.ifl_rxq.proofs.Bound.{take_one_more}
use Rattle.ifl_rxq.proofs.Splits.{take_length}

-- the records of one frame more
pub records_more : (l : List Frame) (i : ℕ) (f : Frame) → i < length l → f ≡ get_or l i f → length (flat_map record_of (take (i + 1) l)) ≡ length (flat_map record_of (take i l)) + (16 + length f.bytes)
records_more l i f h e =
    let a = ap (λ (z : List Frame). length (flat_map record_of z)) ((let g : i + 1 ≡ suc i = omega arith in ap (λ (n : ℕ). take n l) g) ∙ take_one_more l i f h e) in let b = ap length (flat_map-append record_of (take i l) (f ∷ [])) in
    let c = length-append (flat_map record_of (take i l)) (record_of f ++ []) in let d = length-append (record_of f) [] in let r = length-record_of f in omega arith

-- each arrival is stored or missed
pub received_count : (burst full k used : ℕ) (fs : List Frame) (missed : List MissedLine) (stored : List (List Desc)) → AreReceived burst full k used fs missed stored → length stored + length missed ≡ length fs
received_count burst full k used [] missed stored r = let a = ap length r.0 in let b = ap length r.1 in omega arith
received_count burst full k used (f ∷ fs) missed stored (inl a) = let e = ap length a.2 in let i = received_count burst full (suc k) (used_before burst k used + needed (length f.bytes)) fs missed a.1 a.4 in omega arith
received_count burst full k used (f ∷ fs) missed stored (inr b) = let e = ap length b.2 in let i = received_count burst full (suc k) (used_before burst k used) fs b.1 stored b.6 in omega arith

-- a list of which nothing is outstanding has settled all that it reclaimed, and that is all that it rang
pub all_back : (f : FreeSees) → IsFreeList f → outstanding f ≡ 0 → (length (sent Driver f.driver.seen) ≡ f.driver.back) × (length (settled f) ≡ f.driver.back)
all_back f k none =
    let p = ap length k.rung in let w = k.within in let h = k.lawful.behind in let o = k.lawful.lawful.order f.driver.seen ([], append-nil f.driver.seen) in let t = o.told in let u = o.done in let v = o.heard in
    let l = take_length (f.driver.back - length f.held) (sent Device f.driver.seen) (omega arith) in (omega arith, omega arith)

drop_all : (n : ℕ) (l : List Desc) → length l ≤ n → drop n l ≡ []
drop_all zero [] h = refl
drop_all (suc n) [] h = refl
drop_all zero (x ∷ l) h = absurd (omega arith)
drop_all (suc n) (x ∷ l) h = drop_all n l (omega arith)

drop_length : (n : ℕ) (l : List Desc) → length (drop n l) ≡ length l - n
drop_length zero l = omega arith
drop_length (suc n) [] = omega arith
drop_length (suc n) (x ∷ l) = let i = drop_length n l in omega arith

-- where all that was posted is reclaimed, nothing is left
pub nothing_left : (d : DriverSees) (v : DeviceSees) (c : ClosedSees) → Closes d v c → length (sent Driver d.seen) ≡ d.back → d.pending ≡ [] → length (sent Device v.seen) ≡ d.back → left_of c ≡ []
nothing_left d v c l rung none returned =
    let a = length-append (sent Device c.history) (drop (length (sent Device c.history)) (sent Driver c.history) ++ c.pending) in
    let b = length-append (drop (length (sent Device c.history)) (sent Driver c.history)) c.pending in let e = drop_length (length (sent Device c.history)) (sent Driver c.history) in
    let p = ap length (l.pending ∙ none) in let r = ap length l.rung in let s = ap length l.returned in let t = l.back in
    drop_all c.back (whole_list c) (omega arith)

-- what a worker left is that of a run whose list and engine are taken apart
pub served : (r : RxRules) (ring : TableId) (pool : PoolId) (frames : List Frame) (a : FreeSees) (e : RxSees) (d : DriverSees) (v : DeviceSees) (pass : PassState) (host : List ℕ) (n m : ℕ) (missed : List MissedLine)
    → IsFreeList a → IsRx e → IsDone a e → a.ring ≡ ring → e.ring ≡ ring → a.pool ≡ pool → a.copy_break ≡ r.copy_break → AreReceived r.burst (full_of ring.slots pool.size) 0 0 frames missed (delivered_of a)
    → d ≡ a.driver → v ≡ e.device → pass.pool ≡ a.pool → pass.known.part ≡ PART → pass.known.counts.taken ≡ accounted a → pass.known.counts.given ≡ accounted a → host ≡ a.host.bytes → n ≡ a.delivered → m ≡ a.copied
    → IsServed r ring pool frames d v pass host n m missed
served r ring pool frames a e d v pass host n m missed k x done ring_is ring_as pool_is break_is received driver_is device_is own part taken given host_is n_is m_is = record {
  arrivals = subst (AreReceived r.burst (full_of ring.slots pool.size) 0 0 frames missed) (sym stored) received;
  capture = host_is ∙ k.host ∙ ap (λ (z : List (List Desc)). written (map captured z)) (sym stored);
  delivered_are = n_is ∙ k.delivered ∙ ap length (sym stored);
  copied_are = m_is ∙ k.copied ∙ (λ i. small_of (break_is i) (sym stored i));
  rings = (ap (λ (z : DriverSees). z.ring) driver_is ∙ k.own ∙ ring_is, ap (λ (z : DeviceSees). z.ring) device_is ∙ x.own ∙ ring_as);
  ended = (ap (λ (z : DeviceSees). length (sent Device z.seen)) device_is ∙ sym x.fetched ∙ ap (λ (z : DeviceSees). z.fetched) (sym device_is), ap (λ (z : DeviceSees). z.ready) device_is ∙ x.ready);
  none = (ap (λ (z : DriverSees). length (sent Driver z.seen)) driver_is ∙ back.0 ∙ back_is, ap (λ (z : DriverSees). z.pending) driver_is ∙ k.rung, ap length returned ∙ back.1 ∙ back_is);
  own = own ∙ pool_is;
  whole = part;
  given = taken ∙ sym given;
}
  where
    returned : sent Device v.seen ≡ settled a
    returned = ap (λ (z : DeviceSees). sent Device z.seen) device_is ∙ done.all

    stored : stored_in (sent Device v.seen) ≡ delivered_of a
    stored = ap (λ (z : List Desc). filled_of (frames_of z)) returned

    back : (length (sent Driver a.driver.seen) ≡ a.driver.back) × (length (settled a) ≡ a.driver.back)
    back = all_back a k done.none

    back_is : a.driver.back ≡ d.back
    back_is = ap (λ (z : DriverSees). z.back) (sym driver_is)

-- and its parts, closed, are what the run leaves
pub received : (z : RxSizes) (r : RxRules) (ring : TableId) (pool : PoolId) (frames : List Frame) (d : DriverSees) (v : DeviceSees) (pass : PassState) (host : List ℕ) (n m : ℕ) (missed : List MissedLine)
    → ring.slots ≡ z.descriptors → pool.size ≡ z.clusters → IsServed r ring pool frames d v pass host n m missed
    → (counters : RxCounters) → counters.arrived ≡ length frames → counters.delivered ≡ n → counters.missed ≡ length missed → counters.copied ≡ m
    → (desc : ClosedSees) → Closes d v desc → IsClosed desc
    → (closed : ClosedPool) → closed.size ≡ pool.size → IsClosedPool closed.size closed.history (length closed.clusters) → length closed.clusters + pass.known.counts.taken ≡ pool.size + pass.known.counts.given
    → IsReceived z r frames missed host counters desc closed
received z r ring pool frames d v pass host n m missed slots clusters s counters arrived delivered lost copied desc closes lawful closed size history count = record {
  arrivals = subst (λ (x : ℕ × ℕ × List (List Desc)). AreReceived r.burst (full_of x.0 x.1) 0 0 frames missed x.2) (λ i. (slots i, clusters i, sym stored i)) s.arrivals;
  capture = s.capture ∙ ap (λ (x : List (List Desc)). written (map captured x)) (sym stored);
  arrived = arrived;
  delivered = delivered ∙ s.delivered_are ∙ ap length (sym stored);
  lost = (lost, (let c = received_count r.burst (full_of ring.slots pool.size) 0 0 frames missed (stored_in (sent Device v.seen)) s.arrivals in let g = s.delivered_are in omega arith));
  copied = copied ∙ s.copied_are ∙ ap (small_of r.copy_break) (sym stored);
  size = closes.size ∙ ap (λ (x : TableId). x.slots) s.rings.0 ∙ slots;
  closed = lawful;
  left = nothing_left d v desc closes s.none.0 s.none.1 s.none.2;
  clusters = size ∙ clusters;
  pool_closed = subst (λ (x : ℕ). IsClosedPool x closed.history (length closed.clusters)) (size ∙ clusters) history;
  pool_all = (let g = s.given in let c = clusters in omega arith);
}
  where
    stored : stored_in (sent Device desc.history) ≡ stored_in (sent Device v.seen)
    stored = ap (λ (x : List Desc). filled_of (frames_of x)) closes.returned
