-- A text, and its parts before and behind the first of some bytes.
use Rattle.std.proofs.Common.{◌≡◌, ◌≢◌, ℕ, zero, suc, ◌+◌, ◌-◌, ◌<◌, ◌≤◌, eq-eqb, ne_eqb, nat_eq, List, [], ◌∷◌, ◌++◌, length, take, drop, sym, refl, ap, ◌∙◌, subst, arith, lt_of_not-le}
use Rattle.std.specs.Prelude.{Some, None}
use Rattle.std.specs.List.{position, position_or_len}
use Rattle.std.proofs.Math.Numerals.{one-add, add-one}
use Rattle.std.proofs.lemmas.List.{take_rest}
use Rattle.std.proofs.lemmas.Bool.{lt-ltb, le-ltb}
use mathlib.Core.Logic.{dite}
use native.Mathlib.Decide.{ℕ_discrete, dec_le}
use Rattle.ifl_check.specs.Parts.{Lacks}

-- how many bytes stand before the first of these
abbrev first : ℕ → List ℕ → ℕ
first b xs = position_or_len (λ x. nat_eq x b) xs

first-here : (b x : ℕ) (xs : List ℕ) → x ≡ b → first b (x ∷ xs) ≡ 0
first-here b x xs e = rw (eq-eqb x b e) refl

first-behind : (b x : ℕ) (xs : List ℕ) → x ≢ b → first b (x ∷ xs) ≡ suc (first b xs)
first-behind b x xs ne = rw (ne_eqb x b ne) (one-add (first b xs))

-- they lack it
lacks-take : (b : ℕ) (xs : List ℕ) → Lacks b (take (first b xs) xs)
lacks-take b [] = tt
lacks-take b (x ∷ xs) = dite (ℕ_discrete x b)
    (λ e. rw (first-here b x xs e) tt)
    (λ ne. rw (first-behind b x xs ne) (ne, lacks-take b xs))

-- and it stands behind them
parts : (b : ℕ) (xs : List ℕ) → first b xs < length xs → xs ≡ take (first b xs) xs ++ (b ∷ drop (suc (first b xs)) xs)
parts b [] h = absurd (omega arith)
parts b (x ∷ xs) h = dite (ℕ_discrete x b)
    (λ e. rw (first-here b x xs e) (ap (λ (z : ℕ). z ∷ xs) e))
    (λ ne. let h' : suc (first b xs) < length (x ∷ xs) = rw (first-behind b x xs ne) at h in rw (first-behind b x xs ne) (ap (λ (z : List ℕ). x ∷ z) (parts b xs (omega arith))))

take-all : (n : ℕ) (xs : List ℕ) → length xs ≤ n → take n xs ≡ xs
take-all zero [] h = refl
take-all (suc n) [] h = refl
take-all zero (x ∷ xs) h = absurd (omega arith)
take-all (suc n) (x ∷ xs) h = ap (λ (z : List ℕ). x ∷ z) (take-all n xs (omega arith))

pub cut-at : (b i : ℕ) (xs : List ℕ) → Some i ≡ position (λ x. nat_eq x b) xs
    → (i < length xs) × (xs ≡ take i xs ++ (b ∷ take (length xs - (i + 1)) (drop (i + 1) xs))) × Lacks b (take i xs)
cut-at b i xs e = dite (dec_le (length xs) (first b xs))
    (λ le. absurd (let f : Some i ≡ None = rw (le-ltb (first b xs) (length xs) le) at e in cc))
    (λ gt. let lt = lt_of_not-le gt in let f : Some i ≡ Some (first b xs) = rw (lt-ltb (first b xs) (length xs) lt) at e in let same : i ≡ first b xs = cc in
    rw same (lt, parts b xs lt ∙ ap (λ (z : List ℕ). take (first b xs) xs ++ (b ∷ z)) (sym (take_rest xs (suc (first b xs))) ∙ ap (λ (z : ℕ). take (length xs - z) (drop z xs)) (sym (add-one (first b xs)))), lacks-take b xs))

pub cut-none : (b : ℕ) (xs : List ℕ) → None ≡ position (λ x. nat_eq x b) xs → Lacks b xs
cut-none b xs e = dite (dec_le (length xs) (first b xs))
    (λ le. subst (Lacks b) (take-all (first b xs) xs le) (lacks-take b xs))
    (λ gt. absurd (let lt = lt_of_not-le gt in let f : None ≡ Some (first b xs) = rw (lt-ltb (first b xs) (length xs) lt) at e in cc))
