-- What the word tells of the numbers that never wrap.
use Rattle.std.proofs.Common.{◌≡◌, ℕ, suc, ◌+◌, ◌-◌, ◌*◌, ◌/◌, ◌%◌, ◌<◌, ◌≤◌, ◌⊎◌, ⊎_elim, inl, inr, eq-eqb, ne_eqb, refl, ap, arith, mod-lt, mul-le-mul_right, suc-mul, lt_of_not-le, div-add-mod'}
use mathlib.Core.Logic.{dite}
use native.Mathlib.Decide.{ℕ_discrete, dec_le}
use Rattle.ifl_base.specs.declared.word.RingWord.{RingWord}
use Rattle.ifl_base.specs.declared.word.Flag.{Flag}
use Rattle.ifl_base.specs.declared.word.Flag.TheVariants.{Idle, Busy, Stalled, Abdicated}
use Rattle.ifl_ringcore.specs.State.{RingState, ring_word}
use Rattle.ifl_ringcore.specs.Invariant.{RingInvariant}
use Rattle.ifl_base.specs.Word.{pack, number_of}
use Rattle.std.proofs.lemmas.Bool.{lt-ltb, le-ltb}
use Rattle.ifl_ringcore.proofs.Reservations.{cover_le}
use Rattle.ifl_base.specs.Space.{space}

further : (x y n : ℕ) → x < y → x * n + n ≤ y * n
further x y n h = let a : suc x * n ≤ y * n = mul-le-mul_right n h in omega (arith, suc-mul x n)

-- two numbers less than a residues apart: their residues tell how far
pub residues : (c r n : ℕ) → 0 < n → c ≤ r → r < c + n → (r % n + c ≡ c % n + r) ⊎ (r % n + n + c ≡ c % n + r)
residues c r n pos le lt = let p = div-add-mod' c n in let q = div-add-mod' r n in let a : r % n < n = mod-lt r pos in let b : c % n < n = mod-lt c pos in
    dite (ℕ_discrete (r / n) (c / n))
    (λ e. let same : r / n * n ≡ c / n * n = ap (λ (z : ℕ). z * n) e in inl (omega arith))
    (λ ne. dite (dec_le (r / n) (c / n))
    (λ le'. let f = further (r / n) (c / n) n (omega arith) in absurd (omega arith))
    (λ gt. let f = further (c / n) (r / n) n (lt_of_not-le gt) in
    dite (dec_le (r / n) (c / n + 1))
    (λ one. let is : r / n ≡ suc (c / n) = omega arith in let same : r / n * n ≡ suc (c / n) * n = ap (λ (z : ℕ). z * n) is in inr (omega (arith, suc-mul (c / n) n)))
    (λ two. let g = further (suc (c / n)) (r / n) n (omega arith) in absurd (omega (arith, suc-mul (c / n) n)))))

space_cases : (size : ℕ) (w : RingWord) → ((w.cidx ≡ w.head) × (space size w ≡ size - 1)) ⊎ (((w.head < w.cidx) × (space size w ≡ w.cidx - w.head - 1)) ⊎ ((w.cidx < w.head) × (space size w ≡ size - 1 - w.head + w.cidx)))
space_cases size w = dite (ℕ_discrete w.cidx w.head)
    (λ e. inl (e, rw (eq-eqb w.cidx w.head e)))
    (λ ne. inr (dite (dec_le w.cidx w.head)
    (λ le. let l : w.cidx < w.head = omega arith in inr (l, rw (ne_eqb w.cidx w.head ne, le-ltb w.head w.cidx le)))
    (λ gt. let l : w.head < w.cidx = lt_of_not-le gt in inl (l, rw (ne_eqb w.cidx w.head ne, lt-ltb w.head w.cidx l)))))

-- the word's space-ring_word is the space-ring_word
pub space-ring_word : (size : ℕ) (st : RingState) → 0 < size → RingInvariant size st → space size (ring_word size st) + st.reserved + 1 ≡ size + st.released
space-ring_word size st pos g = let a : st.released ≤ st.published = g.released in let b = cover_le st.published st.reservations st.reserved g.covered in let d : st.reserved + 2 ≤ st.released + size = g.within in
    let h : st.reserved % size < size = mod-lt st.reserved pos in let i : st.released % size < size = mod-lt st.released pos in
    ⊎_elim
    (λ t. ⊎_elim (λ u. let e = u.0 in let f = u.1 in omega arith)
    (⊎_elim (λ u. let e = u.0 in let f = u.1 in omega arith) (λ u. let e = u.0 in let f = u.1 in omega arith)) (space_cases size (ring_word size st)))
    (λ t. ⊎_elim (λ u. let e = u.0 in let f = u.1 in omega arith)
    (⊎_elim (λ u. let e = u.0 in let f = u.1 in omega arith) (λ u. let e = u.0 in let f = u.1 in omega arith)) (space_cases size (ring_word size st)))
    (residues st.released st.reserved size pos (omega arith) (omega arith))

pub pack-same : (v w : RingWord) → v.head < 65536 → w.head < 65536 → v.tail < 65536 → w.tail < 65536 → v.cidx < 65536 → w.cidx < 65536 → pack v ≡ pack w → (v.head ≡ w.head) × (v.tail ≡ w.tail) × (v.cidx ≡ w.cidx) × (number_of v.flag ≡ number_of w.flag)
unfolding pack
pack-same v w a b c d e f is = (omega arith, omega arith, omega arith, omega arith)

pub number_of-same : (f g : Flag) → number_of f ≡ number_of g → f ≡ g
number_of-same Idle Idle e = refl
number_of-same Busy Busy e = refl
number_of-same Stalled Stalled e = refl
number_of-same Abdicated Abdicated e = refl
number_of-same Idle _ e = absurd (omega arith)
number_of-same Busy _ e = absurd (omega arith)
number_of-same Stalled _ e = absurd (omega arith)
number_of-same Abdicated _ e = absurd (omega arith)
