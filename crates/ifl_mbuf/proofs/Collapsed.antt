-- Collapsed segments.
use Rattle.std.proofs.Common.{◌≡◌, ℕ, ◌+◌, ◌-◌, ◌<◌, ◌≤◌, List, [], ◌∷◌, ◌++◌, length, min, refl, sym, ap, ◌∙◌, subst, arith, inl, inr, append_assoc, length-append}
use Rattle.std.specs.List.Sorted.{IsPermutation}
use Rattle.std.proofs.lemmas.Bool.{cases_lt, lt-ltb, le-ltb}
use Rattle.std.proofs.lemmas.List.{append-nil}
use Rattle.std.proofs.lemmas.List.Sorted.{IsPermutation-refl, IsPermutation-trans, IsPermutation-cons, IsPermutation-append_left, IsPermutation-append_comm, IsPermutation-to_front}
use Rattle.ifl_mbuf.specs.Segment.{Segment, bytes_of, numbers_of, room, extended}
use Rattle.ifl_mbuf.specs.Collapse.{packed, collapsed, IsTight}

-- what is done, before what is left
abbrev pub between : List Segment → List ℕ → List Segment × List ℕ → List Segment × List ℕ
between done freed left = (done ++ left.0, freed ++ left.1)

pub packed_over : (surplus : ℕ) (s : Segment) (ss : List Segment) → surplus ≤ 0 → packed surplus s ss ≡ (s ∷ ss, [])
packed_over surplus s [] none = refl
packed_over surplus s (t ∷ ts) none = rw (le-ltb 0 surplus none) refl

packed_stays : (surplus : ℕ) (s t : Segment) (ts : List Segment) → 0 < surplus → room s < length t.bytes → packed surplus s (t ∷ ts) ≡ (s ∷ (packed surplus t ts).0, (packed surplus t ts).1)
packed_stays surplus s t ts some narrow = rw (lt-ltb 0 surplus some) (rw (lt-ltb (room s) (length t.bytes) narrow) refl)

packed_moves : (surplus : ℕ) (s t : Segment) (ts : List Segment) → 0 < surplus → length t.bytes ≤ room s
    → packed surplus s (t ∷ ts) ≡ ((packed (surplus - 1) (extended s t.bytes) ts).0, t.number ∷ (packed (surplus - 1) (extended s t.bytes) ts).1)
packed_moves surplus s t ts some wide = rw (lt-ltb 0 surplus some) (rw (le-ltb (room s) (length t.bytes) wide) refl)

-- the first of the segments has no fewer bytes than s
abbrev BeginsWith : Segment → List Segment → Type 0
BeginsWith s [] = ⊥
BeginsWith s (u ∷ us) = length s.bytes ≤ length u.bytes

tight_on : (s t : Segment) (us : List Segment) → room s < length t.bytes → BeginsWith t us → IsTight us → IsTight (s ∷ us)
tight_on s t [] narrow begins tight = absurd begins
tight_on s t (u ∷ us) narrow begins tight = (omega arith, tight)

-- what packing keeps, and what it reaches
record IsPacked (surplus : ℕ) (s : Segment) (ss : List Segment) (r : List Segment × List ℕ) : Type 0 where
  bytes : bytes_of r.0 ≡ s.bytes ++ bytes_of ss
  clusters : IsPermutation (r.1 ++ numbers_of r.0) (s.number ∷ numbers_of ss)
  count : length r.0 + length r.1 ≡ length ss + 1
  most : length r.1 ≤ surplus
  begins : BeginsWith s r.0
  tight : length r.1 < surplus → IsTight r.0

over : (surplus : ℕ) (s : Segment) (ss : List Segment) → (0 < surplus → IsTight (s ∷ ss)) → IsPacked surplus s ss (s ∷ ss, [])
over surplus s ss tight = record {
  bytes = refl;
  clusters = IsPermutation-refl (s.number ∷ numbers_of ss);
  count = omega arith;
  most = omega arith;
  begins = omega arith;
  tight = tight;
}

stays : (surplus : ℕ) (s t : Segment) (ts : List Segment) (r : List Segment × List ℕ) → room s < length t.bytes → IsPacked surplus t ts r → IsPacked surplus s (t ∷ ts) (s ∷ r.0, r.1)
stays surplus s t ts r narrow p =
    let front = IsPermutation-append_left (numbers_of r.0) (r.1 ++ s.number ∷ []) (s.number ∷ r.1) (IsPermutation-to_front r.1 s.number) in
    let moved = subst (λ l. IsPermutation l (s.number ∷ r.1 ++ numbers_of r.0)) (append_assoc r.1 (s.number ∷ []) (numbers_of r.0)) front in
    record {
      bytes = ap (λ l. s.bytes ++ l) p.bytes;
      clusters = IsPermutation-trans (r.1 ++ s.number ∷ numbers_of r.0) (s.number ∷ r.1 ++ numbers_of r.0) (s.number ∷ t.number ∷ numbers_of ts) moved (IsPermutation-cons s.number (r.1 ++ numbers_of r.0) (t.number ∷ numbers_of ts) p.clusters);
      count = let c = p.count in omega arith;
      most = p.most;
      begins = omega arith;
      tight = λ fewer. tight_on s t r.0 narrow p.begins (p.tight fewer);
    }

moves : (surplus : ℕ) (s t : Segment) (ts : List Segment) (r : List Segment × List ℕ) → 0 < surplus → IsPacked (surplus - 1) (extended s t.bytes) ts r → IsPacked surplus s (t ∷ ts) (r.0, t.number ∷ r.1)
moves surplus s t ts r some p =
    let swapped = IsPermutation-append_left (numbers_of ts) (t.number ∷ s.number ∷ []) (s.number ∷ t.number ∷ []) (IsPermutation-append_comm (t.number ∷ []) (s.number ∷ [])) in
    record {
      bytes = p.bytes ∙ append_assoc s.bytes t.bytes (bytes_of ts);
      clusters = IsPermutation-trans (t.number ∷ r.1 ++ numbers_of r.0) (t.number ∷ s.number ∷ numbers_of ts) (s.number ∷ t.number ∷ numbers_of ts) (IsPermutation-cons t.number (r.1 ++ numbers_of r.0) (s.number ∷ numbers_of ts) p.clusters) swapped;
      count = let c = p.count in omega arith;
      most = let m = p.most in omega arith;
      begins = begins_less s (extended s t.bytes) r.0 (omega (arith, length-append s.bytes t.bytes)) p.begins;
      tight = λ fewer. p.tight (omega arith);
    }
  where
    begins_less : (s u : Segment) (us : List Segment) → length s.bytes ≤ length u.bytes → BeginsWith u us → BeginsWith s us
    begins_less s u [] le begins = begins
    begins_less s u (v ∷ vs) le begins = omega arith

packed_is : (surplus : ℕ) (s : Segment) (ss : List Segment) → IsPacked surplus s ss (packed surplus s ss)
packed_is surplus s [] = over surplus s [] (λ _. tt)
packed_is surplus s (t ∷ ts) =
    let further = packed_is surplus t ts in let less = packed_is (surplus - 1) (extended s t.bytes) ts in
    elim (cases_lt 0 surplus) [
      | inr none ↦ subst (IsPacked surplus s (t ∷ ts)) (sym (packed_over surplus s (t ∷ ts) none)) (over surplus s (t ∷ ts) (λ some. absurd (omega arith)))
      | inl some ↦ elim (cases_lt (room s) (length t.bytes)) [
        | inl narrow ↦ subst (IsPacked surplus s (t ∷ ts)) (sym (packed_stays surplus s t ts some narrow)) (stays surplus s t ts (packed surplus t ts) narrow further)
        | inr wide ↦ subst (IsPacked surplus s (t ∷ ts)) (sym (packed_moves surplus s t ts some wide)) (moves surplus s t ts (packed (surplus - 1) (extended s t.bytes) ts) some less)
      ]
    ]

-- what collapsing keeps, and what it reaches
pub record IsCollapsed (max : ℕ) (ss : List Segment) (r : List Segment × List ℕ) : Type 0 where
  pub bytes : bytes_of r.0 ≡ bytes_of ss
  pub clusters : IsPermutation (r.1 ++ numbers_of r.0) (numbers_of ss)
  pub enough : min max (length ss) ≤ length r.0
  pub tight : max < length r.0 → IsTight r.0

pub collapsed_is : (max : ℕ) (ss : List Segment) → IsCollapsed max ss (collapsed max ss)
collapsed_is max [] = record { bytes = refl; clusters = IsPermutation-refl []; enough = omega arith; tight = λ more. tt }
collapsed_is max (s ∷ ss) =
    let p = packed_is (length (s ∷ ss) - max) s ss in let count = p.count in let most = p.most in
    record { bytes = p.bytes; clusters = p.clusters; enough = omega arith; tight = λ more. p.tight (omega arith) }

-- the end of the loop that collapses
pub collapsed_end : (max : ℕ) (old new left rest done : List Segment) (cursor : Segment) (freed : List ℕ) (surplus : ℕ) → collapsed max old ≡ between done freed (packed surplus cursor left)
    → packed surplus cursor left ≡ (cursor ∷ rest, []) → new ≡ (done ++ cursor ∷ []) ++ rest → collapsed max old ≡ (new, freed)
collapsed_end max old new left rest done cursor freed surplus before over is =
    before ∙ (ap (between done freed) over ∙ (λ i. (sym (is ∙ append_assoc done (cursor ∷ []) rest) i, append-nil freed i)))
