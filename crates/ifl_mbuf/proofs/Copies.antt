-- The bytes of the segments that are not passed yet.
use Rattle.std.proofs.Common.{◌≡◌, ℕ, zero, suc, ◌+◌, ◌-◌, ◌<◌, List, [], ◌∷◌, ◌++◌, length, map, sym, ap, subst, ◌∙◌, arith, inl, inr, append_assoc, min}
use Rattle.std.specs.Prelude.{take, drop, slice_index_or}
use Rattle.std.proofs.lemmas.Bool.{cases_lt}
use Rattle.std.proofs.Math.Seq.{drop-nil}
use Rattle.std.proofs.lemmas.List.{take_all, length-drop}
use Rattle.ifl_mbuf.specs.declared.node.Body.{Body}
use Rattle.ifl_mbuf.specs.Layout.{segment_of, IsFull, AllFull}
use Rattle.ifl_mbuf.specs.Segment.{bytes_of}
use Rattle.ifl_mbuf.proofs.Lists.{drop-append, take-append}

-- the bytes from the i-th segment on
abbrev pub rest_of : List Body → ℕ → List ℕ
rest_of bs i = bytes_of (map segment_of (drop i bs))

-- they begin with the i-th segment's
pub rest_is : (bs : List Body) (i : ℕ) (b : Body) → i < length bs → b ≡ slice_index_or bs i b → rest_of bs i ≡ (segment_of b).bytes ++ rest_of bs (i + 1)
rest_is [] i b lt e = absurd (omega arith)
rest_is (x ∷ xs) zero b lt e = ap (λ y. (segment_of y).bytes ++ bytes_of (map segment_of xs)) (sym e)
rest_is (x ∷ xs) (suc i) b lt e =
    let next : suc (i + 1) ≡ suc i + 1 = omega arith in rest_is xs i b (omega arith) e ∙ ap (λ k. (segment_of b).bytes ++ rest_of (x ∷ xs) k) next

-- where some are left, there is an i-th segment
pub has_next : (bs : List Body) (i : ℕ) → 0 < length (rest_of bs i) → i < length bs
has_next [] i some = let none = ap (λ bs. length (bytes_of (map segment_of bs))) (drop-nil {A = Body} i) in absurd (omega arith)
has_next (x ∷ xs) zero some = omega arith
has_next (x ∷ xs) (suc i) some = let h = has_next xs i some in omega arith

pub full_at : (bs : List Body) (i : ℕ) (b : Body) → AllFull bs → i < length bs → b ≡ slice_index_or bs i b → IsFull b
full_at [] i b a lt e = absurd (omega arith)
full_at (x ∷ xs) zero b a lt e = subst IsFull (sym e) a.0
full_at (x ∷ xs) (suc i) b a lt e = full_at xs i b a.1 (omega arith) e

-- the first m bytes, of which n lie in the first of two parts
pub take-append_min : (m n : ℕ) (xs ys : List ℕ) → n ≡ min (length xs) m → take m (xs ++ ys) ≡ take n xs ++ take (m - n) ys
take-append_min m n xs ys e =
    elim (cases_lt m (length xs)) [
      | inl lt ↦ let all : m ≡ n = omega arith in let none : m - length xs ≡ m - n = omega arith in
          take-append m xs ys ∙ (ap (λ k. take k xs ++ take (m - length xs) ys) all ∙ ap (λ k. take n xs ++ take k ys) none)
      | inr le ↦ let first : n ≡ length xs = omega arith in let rest : m - length xs ≡ m - n = omega arith in
          take-append m xs ys ∙ (ap (λ l. l ++ take (m - length xs) ys) (take_all m xs le ∙ sym (take_all n xs (omega arith))) ∙ ap (λ k. take n xs ++ take k ys) rest)
    ]

-- the bytes copied and those to be copied, once n of the next part are
pub copied_more : (m done n skip : ℕ) (old new part rest all : List ℕ) → n ≡ min (length part - skip) m → take (done + n) new ≡ take done old ++ take n (drop skip part)
    → take done old ++ take m (drop skip (part ++ rest)) ≡ all → take (done + n) new ++ take (m - n) (drop (skip - length part) rest) ≡ all
copied_more m done n skip old new part rest all count written before =
    let here = drop skip part in let later = drop (skip - length part) rest in
    let n_is : n ≡ min (length here) m = count ∙ ap (λ k. min k m) (sym (length-drop skip part)) in
    ap (λ l. l ++ take (m - n) later) written ∙ (append_assoc (take done old) (take n here) (take (m - n) later)
    ∙ (ap (λ l. take done old ++ l) (sym (take-append_min m n here later n_is) ∙ ap (take m) (sym (drop-append skip part rest))) ∙ before))
