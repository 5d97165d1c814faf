-- How many buffers are free when a frame arrives.
use Rattle.std.proofs.Common.{◌≡◌, ℕ, zero, suc, ◌+◌, ◌-◌, ◌%◌, ◌<◌, ◌≤◌, ◌⊎◌, inl, inr, Bool, cond, nat_eq, ne_eqb, min, List, [], ◌∷◌, ◌++◌, length, take, get_or, sym, refl, ap, ◌∙◌, subst, arith, append-nil, length-append}
use mathlib.Core.List.{IsPrefix}
use Rattle.std.proofs.Math.Nat.{mod-add-mod, mod-eq_of_lt, add-mod_right}
use Rattle.ifl_base.specs.declared.limits.TheConstants.{PART}
use Rattle.ifl_pcap.specs.declared.frame.Frame.{Frame}
use Rattle.ifl_desc.specs.declared.desc.Desc.{Desc}
use Rattle.ifl_desc.specs.declared.history.Event.{Event}
use Rattle.ifl_desc.specs.declared.history.Side.TheVariants.{Driver, Device}
use Rattle.ifl_desc.specs.History.{sent}
use Rattle.ifl_desc.specs.Frames.{frames_of}
use Rattle.ifl_desc.specs.Ends.{DriverSees, DeviceSees}
use Rattle.ifl_desc.specs.Calls.{Meets}
use Rattle.ifl_desc.proofs.Closing.{prefix_trans, no_less}
use Rattle.ifl_desc.proofs.Steps.{same_sent, sent_append}
use Rattle.ifl_device.specs.Receive.{RxSees, IsRx, Returns, IsStored, free_of, needed, rx_returned}
use Rattle.ifl_desc.proofs.Splitting.{frames_more, returned_open}
use Rattle.ifl_rxq.specs.declared.line.MissedLine.{MissedLine}
use Rattle.ifl_rxq.specs.FreeLists.{FreeSees, IsFreeList, Refills, accounted, outstanding, avail_of}
use Rattle.ifl_rxq.specs.Receive.{Arrives, HasBuffers, Ran, used_before}
use Rattle.ifl_rxq.specs.Worker.{HasArrived, full_for}
use Rattle.ifl_rxq.proofs.Runs.{ran_stored, ran_missed}

-- a refill without limit leaves a full number of buffers outstanding
pub refill_fills : (n budget : ℕ) (a b : FreeSees) → IsFreeList b → Refills a budget n b → 65536 ≤ budget → a.pass.part ≡ PART → a.pass.counts.taken ≡ accounted a → full_for b ≤ outstanding b
refill_fills n budget a b k r big part owes = by_order (order n (min budget (avail_of a)))
  where
    order : (i j : ℕ) → (j ≤ i) ⊎ (i < j)
    order i zero = inl (omega arith)
    order zero (suc j) = inr (omega arith)
    order (suc i) (suc j) = elim (order i j) as (λ _. (suc j ≤ suc i) ⊎ (suc i < suc j)) [ inl h ↦ inl (omega arith) | inr h ↦ inr (omega arith) ]

    by_order : (min budget (avail_of a) ≤ n) ⊎ (n < min budget (avail_of a)) → full_for b ≤ outstanding b
    by_order (inl h) = let m = r.more in let s = k.small in let e = ap (λ (z : FreeSees). z.ring.slots) r.same in omega arith
    by_order (inr h) = let l = r.less h in let o = r.all_out h part in let x = r.on.excess in let z = l.1 in omega arith

-- the last number of a burst is the first of the next
pub next_burst : (burst next : ℕ) → next % burst ≡ 0 → (next + burst) % burst ≡ 0
next_burst burst next e = add-mod_right next burst ∙ e

inside_burst : (burst next i : ℕ) → next % burst ≡ 0 → next < i → i < next + burst → i % burst ≡ i - next
inside_burst burst next i e low high =
    let j : ℕ = i - next in
    let s : next + (i - next) ≡ i = omega arith in
    let z : 0 + (i - next) ≡ i - next = omega arith in
    let l : i - next < burst = omega arith in
    ap (λ (x : ℕ). x % burst) (sym s) ∙ sym (mod-add-mod next burst (i - next)) ∙ ap (λ (x : ℕ). (x + (i - next)) % burst) e ∙ ap (λ (x : ℕ). x % burst) z ∙ mod-eq_of_lt l

-- within a burst what was used is not forgotten
pub used_inside : (burst next i used : ℕ) → next % burst ≡ 0 → next < i → i < next + burst → used_before burst i used ≡ used
used_inside burst next i used e low high = let m = inside_burst burst next i e low high in
    ap (λ (b : Bool). cond b 0 used) (ne_eqb (i % burst) 0 (λ same. absurd (omega arith)))

-- at its beginning it is
pub used_first : (burst next used : ℕ) → next % burst ≡ 0 → used_before burst next used ≡ 0
used_first burst next used e = ap (λ (z : ℕ). cond (nat_eq z 0) 0 used) e

pub take_one_more : (l : List Frame) (i : ℕ) (f : Frame) → i < length l → f ≡ get_or l i f → take (suc i) l ≡ take i l ++ f ∷ []
take_one_more [] i f h e = absurd (omega arith)
take_one_more (x ∷ l) zero f h e = ap (λ (z : Frame). z ∷ []) (sym e)
take_one_more (x ∷ l) (suc i) f h e = ap (λ (z : List Frame). x ∷ z) (take_one_more l i f (omega arith) e)

take_many : (l : List Frame) (i : ℕ) → i ≤ length l → length (take i l) ≡ i
take_many l zero h = refl
take_many [] (suc i) h = absurd (omega arith)
take_many (x ∷ l) (suc i) h = let j = take_many l i (omega arith) in omega arith

-- what the engine saw goes on
pub looked_prefix : (ds : List Desc) (a b : RxSees) → Returns ds a b → IsPrefix a.device.seen b.device.seen
looked_prefix ds a b r = prefix_trans a.device.seen r.looked.then b.device.seen r.looked.before r.looked.after

-- so far the frames below i arrived, and what the burst has used is told apart
abbrev pub Arriving : ℕ → ℕ → List Frame → ℕ → RxSees → List MissedLine → ℕ → Type 0
Arriving burst full frames i e missed used = Ran burst full 0 0 (take i frames) missed (frames_of (rx_returned e)) used

module _ (burst full : ℕ) (frames : List Frame) (i : ℕ) (f : Frame) (a : RxSees) (m : List MissedLine) (b : RxSees) (n : List MissedLine) (at : i < length frames) (is : f ≡ get_or frames i f)
    (ka : IsRx a) (kb : IsRx b) (used : ℕ) (ran : Arriving burst full frames i a m used) (has : HasBuffers burst full i used a) where
  longer : (ds : List Desc) → Returns ds a b → length (sent Driver a.device.seen) ≤ length (sent Driver b.device.seen)
  longer ds r = no_less Driver a.device.seen b.device.seen (looked_prefix ds a b r)

  index_is : i ≡ 0 + length (take i frames)
  index_is = let t = take_many frames i (omega arith) in omega arith

  frames_next : take (suc i) frames ≡ take i frames ++ f ∷ []
  frames_next = take_one_more frames i f at is

  after_stored : (frame : List Desc) → IsStored (record { sender = 0; index = i }) f.stamp f.bytes frame → Returns frame a b → n ≡ m
      → (next : ℕ) × Arriving burst full frames (suc i) b n next × (full + length (rx_returned b) ≤ length (sent Driver b.device.seen) + next)
  after_stored frame s r e =
      let more : ℕ = used_before burst i used + needed (length f.bytes) in
      let fs : frames_of (rx_returned b) ≡ frames_of (rx_returned a) ++ frame ∷ [] = ap frames_of r.list_is ∙ frames_more (rx_returned a) frame (returned_open a.device.seen ka.lawful.lawful.frames) s.whole in
      let step = ran_stored burst full i 0 0 (take i frames) m (frames_of (rx_returned a)) used f frame index_is ran s in
      let l = longer frame r in let c = s.count in let x = ap length r.list_is in let y = length-append (rx_returned a) frame in (
        more,
        subst (λ (z : List Frame × List MissedLine × List (List Desc)). Ran burst full 0 0 z.0 z.1 z.2 more) (λ j. (sym frames_next j, sym e j, sym fs j)) step,
        omega arith,
      )

  after_missed : (line : MissedLine) → line.index ≡ i → line.free < needed (length f.bytes) → line.free ≡ free_of b → Returns [] a b → n ≡ m ++ line ∷ []
      → (next : ℕ) × Arriving burst full frames (suc i) b n next × (full + length (rx_returned b) ≤ length (sent Driver b.device.seen) + next)
  after_missed line index free is_free r e =
      let more : ℕ = used_before burst i used in
      let fs : frames_of (rx_returned b) ≡ frames_of (rx_returned a) = ap frames_of (r.list_is ∙ append-nil (rx_returned a)) in
      let l = longer [] r in let x = ap length r.list_is in let y = length-append (rx_returned a) [] in let fetched = kb.fetched in
      let still = r.looked.still in let all = r.looked.all in let before = no_less Driver a.device.seen r.looked.then r.looked.before in
      let least : full ≤ line.free + more = omega arith in
      let step = ran_missed burst full i 0 0 (take i frames) m (frames_of (rx_returned a)) used f line index_is ran index free least in (
        more,
        subst (λ (z : List Frame × List MissedLine × List (List Desc)). Ran burst full 0 0 z.0 z.1 z.2 more) (λ j. (sym frames_next j, sym e j, sym fs j)) step,
        omega arith,
      )

  -- after one more arrival
  pub after_arrival : Arrives i f a m b n → (next : ℕ) × Arriving burst full frames (suc i) b n next × (full + length (rx_returned b) ≤ length (sent Driver b.device.seen) + next)
  after_arrival (inl s) = after_stored s.0 s.1 s.2 s.3
  after_arrival (inr s) = after_missed s.0 s.1 s.2 s.3 s.4 s.5

-- so much of a burst has arrived
pub record InBurst (burst next : ℕ) (frames : List Frame) (e0 : RxSees) (m0 : List MissedLine) (i : ℕ) (e : RxSees) (m : List MissedLine) : Type 0 where
  pub did : (full : ℕ) → HasArrived burst full frames next e0 m0 → full + length (rx_returned e0) ≤ length (sent Driver e0.device.seen)
      → (used : ℕ) × Arriving burst full frames i e m used × (i < next + burst → HasBuffers burst full i used e)
  pub few : length m ≤ i
  pub frames_few : length (frames_of (rx_returned e)) + next ≤ length (frames_of (rx_returned e0)) + i
  pub ring : e.ring ≡ e0.ring
  pub seen : IsPrefix e0.device.seen e.device.seen
  pub engine : IsRx e
  pub start : next ≤ i

pub burst_begins : (burst next : ℕ) (frames : List Frame) (e : RxSees) (m : List MissedLine) → next % burst ≡ 0 → length m ≤ next → IsRx e → InBurst burst next frames e m next e m
burst_begins burst next frames e m first few k = record {
  did = λ full a b. (a.0, a.1, λ _. (let u = used_first burst next a.0 first in omega arith));
  few = few;
  frames_few = omega arith;
  ring = refl;
  seen = ([], append-nil e.device.seen);
  engine = k;
  start = omega arith;
}

arrival_lines : (i : ℕ) (f : Frame) (a : RxSees) (m : List MissedLine) (b : RxSees) (n : List MissedLine) → Arrives i f a m b n → length n ≤ length m + 1
arrival_lines i f a m b n (inl s) = let l = ap length s.3 in omega arith
arrival_lines i f a m b n (inr s) = let l = ap length s.5 in let c = length-append m (s.0 ∷ []) in omega arith

arrival_frames : (i : ℕ) (f : Frame) (a : RxSees) (m : List MissedLine) (b : RxSees) (n : List MissedLine) → IsRx a → Arrives i f a m b n → length (frames_of (rx_returned b)) ≤ length (frames_of (rx_returned a)) + 1
arrival_frames i f a m b n k (inl s) = let l = ap length (ap frames_of s.2.list_is ∙ frames_more (rx_returned a) s.0 (returned_open a.device.seen k.lawful.lawful.frames) s.1.whole) in
    let c = length-append (frames_of (rx_returned a)) (s.0 ∷ []) in omega arith
arrival_frames i f a m b n k (inr s) = let l = ap (λ (z : List Desc). length (frames_of z)) (s.4.list_is ∙ append-nil (rx_returned a)) in omega arith

arrival_on : (i : ℕ) (f : Frame) (a : RxSees) (m : List MissedLine) (b : RxSees) (n : List MissedLine) → Arrives i f a m b n → (b.ring ≡ a.ring) × IsPrefix a.device.seen b.device.seen
arrival_on i f a m b n (inl s) = (s.2.ring, looked_prefix s.0 a b s.2)
arrival_on i f a m b n (inr s) = (s.4.ring, looked_prefix [] a b s.4)

module _ (burst next : ℕ) (first : next % burst ≡ 0) (frames : List Frame) (e0 : RxSees) (m0 : List MissedLine) (i : ℕ) (a : RxSees) (m : List MissedLine) (b : RxSees) (n : List MissedLine) (f : Frame)
    (r : InBurst burst next frames e0 m0 i a m) (at : i < length frames) (within : i < next + burst) (is : f ≡ get_or frames i f) (kb : IsRx b) (one : Arrives i f a m b n) where
  more_did : (full : ℕ) → HasArrived burst full frames next e0 m0 → full + length (rx_returned e0) ≤ length (sent Driver e0.device.seen)
      → (used : ℕ) × Arriving burst full frames (suc i) b n used × (suc i < next + burst → HasBuffers burst full (suc i) used b)
  more_did full h enough =
      let d = r.did full h enough in let t = after_arrival burst full frames i f a m b n at is r.engine kb d.0 d.1 (d.2 within) one in
      (t.0, t.1, λ below. (let u = used_inside burst next (suc i) t.0 first (let s = r.start in omega arith) below in let l = t.2 in omega arith))

  pub burst_more : InBurst burst next frames e0 m0 (suc i) b n
  burst_more = let o = arrival_on i f a m b n one in record {
    did = more_did;
    few = (let l = arrival_lines i f a m b n one in let g = r.few in omega arith);
    frames_few = (let l = arrival_frames i f a m b n r.engine one in let g = r.frames_few in omega arith);
    ring = o.0 ∙ r.ring;
    seen = prefix_trans e0.device.seen a.device.seen b.device.seen r.seen o.1;
    engine = kb;
    start = (let s = r.start in omega arith);
  }

-- after they met, the engine knows of all that the list has rung
pub met_buffers : (d : DriverSees) (v : DeviceSees) (d' : DriverSees) (v' : DeviceSees) → Meets d v d' v' → length (sent Driver d.seen) ≤ length (sent Driver v'.seen)
met_buffers d v d' v' m = no_less Driver d.seen v'.seen m.device_hears

-- the engine has returned what it had
pub met_returned : (d : DriverSees) (v : DeviceSees) (d' : DriverSees) (v' : DeviceSees) → Meets d v d' v' → sent Device v'.seen ≡ sent Device v.seen
met_returned d v d' v' m = same_sent Device v'.seen v.seen m.device_own

-- and the list has rung what it had
pub met_rung : (d : DriverSees) (v : DeviceSees) (d' : DriverSees) (v' : DeviceSees) → Meets d v d' v' → sent Driver d'.seen ≡ sent Driver d.seen
met_rung d v d' v' m = same_sent Driver d'.seen d.seen m.driver_own

-- what a side sent in a beginning stands first in the whole
pub sent_front : (g h : List Event) → IsPrefix g h → (more : List Desc) × (sent Device h ≡ sent Device g ++ more)
sent_front g h p = (sent Device p.0, ap (sent Device) (sym p.1) ∙ sent_append Device g p.0)
