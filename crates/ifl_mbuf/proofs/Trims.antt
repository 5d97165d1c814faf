-- What stays of segments without the bytes at one end of them.
use Rattle.std.proofs.Common.{◌≡◌, ℕ, ◌-◌, ◌≤◌, List, [], ◌∷◌, ◌++◌, length, refl, sym, ap, ◌∙◌, arith, inl, inr}
use Rattle.std.specs.Prelude.{take, drop}
use Rattle.std.proofs.lemmas.Bool.{cases_lt, lt-ltb, le-ltb}
use Rattle.std.proofs.lemmas.List.{drop_all}
use Rattle.std.proofs.Math.Seq.{take-nil, drop-nil}
use Rattle.ifl_mbuf.specs.Segment.{Segment, bytes_of}
use Rattle.ifl_mbuf.specs.Trim.{without_first, only_first}
use Rattle.ifl_mbuf.proofs.Lists.{drop-append, take-append}

pub bytes_of-without_first : (n : ℕ) (ss : List Segment) → bytes_of (without_first n ss) ≡ drop n (bytes_of ss)
bytes_of-without_first n [] = sym (drop-nil n)
bytes_of-without_first n (s ∷ ss) =
    let parts = drop-append n s.bytes (bytes_of ss) in let rest = bytes_of-without_first (n - length s.bytes) ss in
    elim (cases_lt n (length s.bytes)) [
      | inl lt ↦ let here = lt-ltb n (length s.bytes) lt in let none : n - length s.bytes ≡ 0 = omega arith in
          rw here (sym (parts ∙ ap (λ k. drop n s.bytes ++ drop k (bytes_of ss)) none))
      | inr le ↦ let gone = le-ltb n (length s.bytes) le in
          rw gone (rest ∙ sym (parts ∙ ap (λ l. l ++ drop (n - length s.bytes) (bytes_of ss)) (drop_all n s.bytes le)))
    ]

pub bytes_of-only_first : (n : ℕ) (ss : List Segment) → bytes_of (only_first n ss) ≡ take n (bytes_of ss)
bytes_of-only_first n [] = sym (take-nil n)
bytes_of-only_first n (s ∷ ss) =
    let parts = take-append n s.bytes (bytes_of ss) in let rest = bytes_of-only_first (n - length s.bytes) ss in
    elim (cases_lt 0 n) [
      | inl some ↦ rw (lt-ltb 0 n some) (ap (λ l. take n s.bytes ++ l) rest ∙ sym parts)
      | inr none ↦ let is : n ≡ 0 = omega arith in rw (le-ltb 0 n none) (ap (λ k. take k (s.bytes ++ bytes_of ss)) (sym is))
    ]

pub only_first_none : (n : ℕ) (ss : List Segment) → n ≤ 0 → only_first n ss ≡ []
only_first_none n [] none = refl
only_first_none n (s ∷ ss) none = rw (le-ltb 0 n none) refl
