-- The places of records in one row.
use Rattle.std.proofs.Common.{◌≡◌, ℕ, zero, suc, ◌+◌, ◌-◌, ◌<◌, ◌≤◌, ⊎_elim, List, [], ◌∷◌, ◌++◌, length, length-append, get_or, sym, refl, ap, ◌∙◌, arith}
use Rattle.std.specs.List.{sum_by}
use Rattle.std.proofs.lemmas.Bool.{cases_lt}
use Rattle.std.proofs.Math.Numerals.{add-one}
use Rattle.std.proofs.Math.Seq.{get_or-append_seam}
use Rattle.std.proofs.lemmas.List.{length-map, get_or_append_left}
use Rattle.std.proofs.lemmas.List.Sums.{sum_by-cons}
use Rattle.ifl_pcap.specs.declared.capture.Capture.{Capture}
use Rattle.ifl_pcap.specs.declared.frame.Frame.{Frame}
use Rattle.ifl_check.specs.Files.{each_frames, frames_at, IsRecordAt}
use Rattle.ifl_check.specs.Places.{place}

-- how many records there are
abbrev pub all_records : List (List Frame) → ℕ
all_records files = sum_by (λ fs. length fs) files

pub place-plus : (files : List (List Frame)) (s k : ℕ) → place files s k ≡ place files s 0 + k
unfolding place
place-plus [] s k = omega arith
place-plus (fs ∷ files) zero k = omega arith
place-plus (fs ∷ files) (suc s) k = let h = place-plus files s k in omega arith

pub place-within : (files : List (List Frame)) (s k : ℕ) → IsRecordAt files s k → place files s k < all_records files
unfolding place
place-within [] s k h = absurd (omega arith)
place-within (fs ∷ files) zero k h = let e = sum_by-cons (λ (x : List Frame). length x) fs files in omega arith
place-within (fs ∷ files) (suc s) k h = let e = sum_by-cons (λ (x : List Frame). length x) fs files in let r = place-within files s k h in omega arith

pub place-same : (files : List (List Frame)) (s k t m : ℕ) → IsRecordAt files s k → IsRecordAt files t m → place files s k ≡ place files t m → (s ≡ t) × (k ≡ m)
unfolding place
place-same [] s k t m h g e = absurd (omega arith)
place-same (fs ∷ files) zero k zero m h g e = (refl, e)
place-same (fs ∷ files) zero k (suc t) m h g e = absurd (omega arith)
place-same (fs ∷ files) (suc s) k zero m h g e = absurd (omega arith)
place-same (fs ∷ files) (suc s) k (suc t) m h g e = let r = place-same files s k t m h g (omega arith) in (ap suc r.0, r.1)

pub place-onto : (files : List (List Frame)) (p : ℕ) → p < all_records files → (s : ℕ) × (k : ℕ) × IsRecordAt files s k × (place files s k ≡ p)
unfolding place
place-onto [] p h = absurd (omega arith)
place-onto (fs ∷ files) p h = ⊎_elim
    (λ l. (0, p, l, refl))
    (λ l. let e = sum_by-cons (λ (x : List Frame). length x) fs files in
    let (s, k, r, is) = place-onto files (p - length fs) (omega arith) in (suc s, k, r, omega arith))
    (cases_lt p (length fs))

-- the files up to one
pub place-next : (files : List (List Frame)) (s : ℕ) → s < length files → place files (suc s) 0 ≡ place files s 0 + length (frames_at files s)
unfolding place
place-next [] s h = absurd (omega arith)
place-next (fs ∷ []) zero h = omega arith
place-next (fs ∷ (gs ∷ files)) zero h = omega arith
place-next (fs ∷ files) (suc s) h = let r = place-next files s (omega arith) in omega arith

pub place-le : (files : List (List Frame)) (s : ℕ) → s < length files → place files s 0 + length (frames_at files s) ≤ all_records files
unfolding place
place-le [] s h = absurd (omega arith)
place-le (fs ∷ files) zero h = let e = sum_by-cons (λ (x : List Frame). length x) fs files in omega arith
place-le (fs ∷ files) (suc s) h = let e = sum_by-cons (λ (x : List Frame). length x) fs files in let r = place-le files s (omega arith) in omega arith

pub place-end : (files : List (List Frame)) → place files (length files) 0 ≡ all_records files
unfolding place
place-end [] = refl
place-end (fs ∷ files) = let e = sum_by-cons (λ (x : List Frame). length x) fs files in let r = place-end files in omega arith

pub records-captures : (cs : List Capture) → all_records (each_frames cs) ≡ sum_by (λ c. length c.frames) cs
records-captures [] = refl
records-captures (c ∷ cs) = sum_by-cons (λ (x : List Frame). length x) c.frames (each_frames cs) ∙ ap (λ (n : ℕ). length c.frames + n) (records-captures cs) ∙ sym (sum_by-cons (λ (x : Capture). length x.frames) c cs)

pub frames-capture : (cs : List Capture) (s : ℕ) (d : Capture) → s < length cs → frames_at (each_frames cs) s ≡ (get_or cs s d).frames
frames-capture [] s d h = absurd (omega arith)
frames-capture (c ∷ cs) zero d h = refl
frames-capture (c ∷ cs) (suc s) d h = frames-capture cs s d (omega arith)

pub record-file : (files : List (List Frame)) (s k : ℕ) → IsRecordAt files s k → s < length files
record-file [] s k h = absurd (omega arith)
record-file (fs ∷ files) zero k h = omega arith
record-file (fs ∷ files) (suc s) k h = let r = record-file files s k h in omega arith

-- the place of a record, from where its file begins
pub place-start : (cs : List Capture) (starts : List ℕ) (s k : ℕ) → ((t : ℕ) → t < length cs → get_or starts t 0 ≡ place (each_frames cs) t 0) → IsRecordAt (each_frames cs) s k
    → (get_or starts s 0 + k ≡ place (each_frames cs) s k) × (get_or starts s 0 + k < sum_by (λ c. length c.frames) cs)
place-start cs starts s k h r =
    let f = record-file (each_frames cs) s k r in let n = length-map cs (λ (c : Capture). c.frames) in
    let a = h s (omega arith) in let b = place-plus (each_frames cs) s k in let w = place-within (each_frames cs) s k r in let e = records-captures cs in
    (omega arith, omega arith)

pub place-zero : (files : List (List Frame)) → place files 0 0 ≡ 0
unfolding place
place-zero [] = refl
place-zero (fs ∷ files) = refl

-- one file more
pub next-file : (cs : List Capture) (i : ℕ) (x : Capture) → i < length cs → x ≡ get_or cs i x
    → (place (each_frames cs) (i + 1) 0 ≡ place (each_frames cs) i 0 + length x.frames) × (place (each_frames cs) i 0 + length x.frames ≤ sum_by (λ c. length c.frames) cs)
next-file cs i x lt is =
    let n = length-map cs (λ (c : Capture). c.frames) in
    let here : length (frames_at (each_frames cs) i) ≡ length x.frames = ap (λ (fs : List Frame). length fs) (frames-capture cs i x lt ∙ ap (λ (c : Capture). c.frames) (sym is)) in
    let a = place-next (each_frames cs) i (omega arith) in let b = place-le (each_frames cs) i (omega arith) in let e = records-captures cs in
    (ap (λ (j : ℕ). place (each_frames cs) j 0) (add-one i) ∙ (omega arith), omega arith)

pub starts-more : (files : List (List Frame)) (starts new : List ℕ) (n total : ℕ) → ((s : ℕ) → s < n → get_or starts s 0 ≡ place files s 0) → length starts ≡ n → total ≡ place files n 0 → new ≡ starts ++ (total ∷ [])
    → ((s : ℕ) → s < n + 1 → get_or new s 0 ≡ place files s 0) × (length new ≡ n + 1)
starts-more files starts new n total h sized is grown = (
  λ s lt. ⊎_elim
      (λ below. ap (λ (z : List ℕ). get_or z s 0) grown ∙ (get_or_append_left starts (total ∷ []) 0 s (omega arith) ∙ h s below))
      (λ above. let e : s ≡ length starts = omega arith in let m : s ≡ n = omega arith in
      ap (λ (z : List ℕ). get_or z s 0) grown ∙ (ap (λ (z : ℕ). get_or (starts ++ (total ∷ [])) z 0) e ∙ (get_or-append_seam starts total [] 0 ∙ (is ∙ ap (λ (z : ℕ). place files z 0) (sym m)))))
      (cases_lt s n),
  ap (λ (z : List ℕ). length z) grown ∙ (let a = length-append starts (total ∷ []) in omega arith),
)
