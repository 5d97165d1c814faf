-- Arrivals, one after another.
use Rattle.std.proofs.Common.{◌≡◌, ℕ, zero, suc, ◌+◌, ◌<◌, ◌≤◌, inl, inr, Bool, true, cond, List, [], ◌∷◌, ◌++◌, length, map, take, sym, refl, ap, ◌∙◌, subst, arith, length-append}
use Rattle.std.specs.List.{flat_map}
use Rattle.ifl_base.specs.declared.ticket.Ticket.{Ticket}
use Rattle.ifl_base.specs.declared.ticket.Stamp.{Stamp}
use Rattle.ifl_pcap.specs.declared.frame.Frame.{Frame}
use Rattle.ifl_pcap.specs.File.{record_of}
use Rattle.ifl_desc.specs.declared.desc.Desc.{Desc}
use Rattle.ifl_device.specs.Adapter.{captured}
use Rattle.ifl_device.specs.Receive.{IsStored, is_filled, filled_status, needed}
use Rattle.ifl_rxq.specs.declared.line.MissedLine.{MissedLine}
use Rattle.ifl_rxq.specs.FreeLists.{filled_of}
use Rattle.ifl_rxq.specs.Receive.{Ran, AreReceived, arrival, used_before}
use Rattle.ifl_rxq.proofs.Splits.{records}

module _ (burst full : ℕ) where
  -- one more is stored
  pub ran_stored : (n k used : ℕ) (xs : List Frame) (missed : List MissedLine) (stored : List (List Desc)) (end : ℕ) (f : Frame) (frame : List Desc) → n ≡ k + length xs → Ran burst full k used xs missed stored end
      → IsStored (arrival n) f.stamp f.bytes frame → Ran burst full k used (xs ++ f ∷ []) missed (stored ++ frame ∷ []) (used_before burst n end + needed (length f.bytes))
  ran_stored n k used [] missed stored end f frame e r s = let at : n ≡ k = omega arith in
      inl (frame, [], ap (λ (z : List (List Desc)). z ++ frame ∷ []) r.1, subst (λ (z : ℕ). IsStored (arrival z) f.stamp f.bytes frame) at s, (r.0, refl, (λ i. used_before burst (at i) (r.2 i) + needed (length f.bytes))))
  ran_stored n k used (x ∷ xs) missed stored end f frame e (inl a) s =
      inl (a.0, a.1 ++ frame ∷ [], ap (λ (z : List (List Desc)). z ++ frame ∷ []) a.2, a.3, ran_stored n (suc k) (used_before burst k used + needed (length x.bytes)) xs missed a.1 end f frame (omega arith) a.4 s)
  ran_stored n k used (x ∷ xs) missed stored end f frame e (inr b) s =
      inr (b.0, b.1, b.2, b.3, b.4, b.5, ran_stored n (suc k) (used_before burst k used) xs b.1 stored end f frame (omega arith) b.6 s)

  -- one more is missed
  pub ran_missed : (n k used : ℕ) (xs : List Frame) (missed : List MissedLine) (stored : List (List Desc)) (end : ℕ) (f : Frame) (line : MissedLine) → n ≡ k + length xs → Ran burst full k used xs missed stored end
      → line.index ≡ n → line.free < needed (length f.bytes) → full ≤ line.free + used_before burst n end → Ran burst full k used (xs ++ f ∷ []) (missed ++ line ∷ []) stored (used_before burst n end)
  ran_missed n k used [] missed stored end f line e r index free least = let at : n ≡ k = omega arith in
      inr (line, [], ap (λ (z : List MissedLine). z ++ line ∷ []) r.0, index ∙ at, free, subst (λ (z : ℕ × ℕ). full ≤ line.free + used_before burst z.0 z.1) (λ i. (at i, r.2 i)) least, (refl, r.1, (λ i. used_before burst (at i) (r.2 i))))
  ran_missed n k used (x ∷ xs) missed stored end f line e (inl a) index free least =
      inl (a.0, a.1, a.2, a.3, ran_missed n (suc k) (used_before burst k used + needed (length x.bytes)) xs missed a.1 end f line (omega arith) a.4 index free least)
  ran_missed n k used (x ∷ xs) missed stored end f line e (inr b) index free least =
      inr (b.0, b.1 ++ line ∷ [], ap (λ (z : List MissedLine). z ++ line ∷ []) b.2, b.3, b.4, b.5, ran_missed n (suc k) (used_before burst k used) xs b.1 stored end f line (omega arith) b.6 index free least)

  -- what the last burst used is not told
  pub ran_received : (k used : ℕ) (xs : List Frame) (missed : List MissedLine) (stored : List (List Desc)) (end : ℕ) → Ran burst full k used xs missed stored end → AreReceived burst full k used xs missed stored
  ran_received k used [] missed stored end r = (r.0, r.1)
  ran_received k used (x ∷ xs) missed stored end (inl a) = inl (a.0, a.1, a.2, a.3, ran_received (suc k) (used_before burst k used + needed (length x.bytes)) xs missed a.1 end a.4)
  ran_received k used (x ∷ xs) missed stored end (inr b) = inr (b.0, b.1, b.2, b.3, b.4, b.5, ran_received (suc k) (used_before burst k used) xs b.1 stored end b.6)

stored_filled : (t : Ticket) (s : Stamp) (bytes : List ℕ) (frame : List Desc) → IsStored t s bytes frame → is_filled frame ≡ true
stored_filled t s bytes [] r = absurd r.whole
stored_filled t s bytes (d ∷ ds) r = ap filled_status r.filled.2

-- a stored frame is captured as it arrived
stored_captured : (t : Ticket) (f : Frame) (frame : List Desc) → IsStored t f.stamp f.bytes frame → captured frame ≡ f
stored_captured t f [] r = absurd r.whole
stored_captured t f (d ∷ ds) r = λ i. record { stamp = r.filled.1 i; bytes = r.bytes_are i }

module _ (burst full : ℕ) where
  -- all that was stored was filled
  pub ran_filled : (k used : ℕ) (xs : List Frame) (missed : List MissedLine) (stored : List (List Desc)) (end : ℕ) → Ran burst full k used xs missed stored end → filled_of stored ≡ stored
  ran_filled k used [] missed stored end r = ap filled_of r.1 ∙ sym r.1
  ran_filled k used (x ∷ xs) missed stored end (inl a) =
      ap filled_of a.2 ∙ ap (λ (b : Bool). cond b (a.0 ∷ filled_of a.1) (filled_of a.1)) (stored_filled (arrival k) x.stamp x.bytes a.0 a.3)
      ∙ ap (λ (z : List (List Desc)). a.0 ∷ z) (ran_filled (suc k) (used_before burst k used + needed (length x.bytes)) xs missed a.1 end a.4) ∙ sym a.2
  ran_filled k used (x ∷ xs) missed stored end (inr b) = ran_filled (suc k) (used_before burst k used) xs b.1 stored end b.6

  -- the records of the stored ones are among those of all
  pub ran_records : (k used : ℕ) (xs : List Frame) (missed : List MissedLine) (stored : List (List Desc)) (end : ℕ) → Ran burst full k used xs missed stored end → records stored ≤ length (flat_map record_of xs)
  ran_records k used [] missed stored end r = let e = ap records r.1 in omega arith
  ran_records k used (x ∷ xs) missed stored end (inl a) =
      let i = ran_records (suc k) (used_before burst k used + needed (length x.bytes)) xs missed a.1 end a.4 in let e = ap records a.2 in
      let l = length-append (record_of x) (flat_map record_of xs) in let c = length-append (record_of (captured a.0)) (flat_map record_of (map captured a.1)) in
      let s = ap (λ (z : Frame). length (record_of z)) (stored_captured (arrival k) x a.0 a.3) in omega arith
  ran_records k used (x ∷ xs) missed stored end (inr b) =
      let i = ran_records (suc k) (used_before burst k used) xs b.1 stored end b.6 in let l = length-append (record_of x) (flat_map record_of xs) in omega arith

-- the first records are among all
pub records_take : (n : ℕ) (xs : List Frame) → length (flat_map record_of (take n xs)) ≤ length (flat_map record_of xs)
records_take zero xs = omega arith
records_take (suc n) [] = omega arith
records_take (suc n) (x ∷ xs) = let i = records_take n xs in let a = length-append (record_of x) (flat_map record_of (take n xs)) in let b = length-append (record_of x) (flat_map record_of xs) in omega arith
