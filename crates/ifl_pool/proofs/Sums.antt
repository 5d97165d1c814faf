-- Sums over a list of which one element changes.
use Rattle.std.proofs.Common.{◌≡◌, ◌≢◌, ℕ, zero, suc, ◌+◌, ◌≤◌, List, [], ◌∷◌, ◌++◌, length, set, sym, refl, ap, inl, inr, ◌⊎◌, ⊎_elim, arith}
use Rattle.std.specs.Prelude.{sum_by}
use Rattle.std.proofs.lemmas.List.Sums.{sum_by-cons}
use mathlib.Core.Option.{some, some-injective, some-ne-none}
use lib.ListN.{get_elem?}

pub get_elem?-append_one : {A : Type 0} (xs : List A) (x y : A) (i : ℕ) → get_elem? (xs ++ x ∷ []) i ≡ some y → (get_elem? xs i ≡ some y) ⊎ ((i ≡ length xs) × (x ≡ y))
get_elem?-append_one [] x y zero at = inr (refl, some-injective x y at)
get_elem?-append_one [] x y (suc i) at = absurd (some-ne-none y (sym at))
get_elem?-append_one (z ∷ xs) x y zero at = inl at
get_elem?-append_one (z ∷ xs) x y (suc i) at = ⊎_elim (λ (p : get_elem? xs i ≡ some y). inl p) (λ (p : (i ≡ length xs) × (x ≡ y)). let last = p.0 in inr (omega arith, p.1)) (get_elem?-append_one xs x y i at)

module _ {A : Type 0} (f : A → ℕ) where
  pub sum_by-set_at : (xs : List A) (i : ℕ) (x y : A) → get_elem? xs i ≡ some x → sum_by f (set xs i y) + f x ≡ sum_by f xs + f y
  sum_by-set_at [] i x y at = absurd (some-ne-none x (sym at))
  sum_by-set_at (z ∷ xs) zero x y at = let same : f z ≡ f x = ap f (some-injective z x at) in let a = sum_by-cons f z xs in let b = sum_by-cons f y xs in omega arith
  sum_by-set_at (z ∷ xs) (suc i) x y at = let a = sum_by-cons f z xs in let b = sum_by-cons f z (set xs i y) in let c = sum_by-set_at xs i x y at in omega arith

  pub sum_by-set_same : (xs : List A) (i : ℕ) (x y : A) → get_elem? xs i ≡ some x → f y ≡ f x → sum_by f (set xs i y) ≡ sum_by f xs
  sum_by-set_same xs i x y at same = let a = sum_by-set_at xs i x y at in omega arith

  pub at-le-sum_by : (xs : List A) (i : ℕ) (x : A) → get_elem? xs i ≡ some x → f x ≤ sum_by f xs
  at-le-sum_by [] i x at = absurd (some-ne-none x (sym at))
  at-le-sum_by (z ∷ xs) zero x at = let same : f z ≡ f x = ap f (some-injective z x at) in let a = sum_by-cons f z xs in omega arith
  at-le-sum_by (z ∷ xs) (suc i) x at = let a = sum_by-cons f z xs in let b = at-le-sum_by xs i x at in omega arith

  pub two-le-sum_by : (xs : List A) (i j : ℕ) (x y : A) → i ≢ j → get_elem? xs i ≡ some x → get_elem? xs j ≡ some y → f x + f y ≤ sum_by f xs
  two-le-sum_by [] i j x y differ at other = absurd (some-ne-none x (sym at))
  two-le-sum_by (z ∷ xs) zero zero x y differ at other = absurd (differ refl)
  two-le-sum_by (z ∷ xs) zero (suc j) x y differ at other = let same : f z ≡ f x = ap f (some-injective z x at) in let a = sum_by-cons f z xs in let b = at-le-sum_by xs j y other in omega arith
  two-le-sum_by (z ∷ xs) (suc i) zero x y differ at other = let same : f z ≡ f y = ap f (some-injective z y other) in let a = sum_by-cons f z xs in let b = at-le-sum_by xs i x at in omega arith
  two-le-sum_by (z ∷ xs) (suc i) (suc j) x y differ at other = let a = sum_by-cons f z xs in let b = two-le-sum_by xs i j x y (λ same. differ (ap suc same)) at other in omega arith

  sum_by-none : (xs : List A) → ((j : ℕ) (y : A) → get_elem? xs j ≡ some y → f y ≡ 0) → sum_by f xs ≡ 0
  sum_by-none [] none = refl
  sum_by-none (z ∷ xs) none = let a = sum_by-cons f z xs in let b = none 0 z refl in let c = sum_by-none xs (λ j y at. none (suc j) y at) in omega arith

  pub sum_by-only : (xs : List A) (i : ℕ) (x : A) → get_elem? xs i ≡ some x → ((j : ℕ) (y : A) → j ≢ i → get_elem? xs j ≡ some y → f y ≡ 0) → sum_by f xs ≡ f x
  sum_by-only [] i x at others = absurd (some-ne-none x (sym at))
  sum_by-only (z ∷ xs) zero x at others = let same : f z ≡ f x = ap f (some-injective z x at) in let a = sum_by-cons f z xs in
      let b = sum_by-none xs (λ j y other. others (suc j) y (λ same. absurd (omega arith)) other) in omega arith
  sum_by-only (z ∷ xs) (suc i) x at others = let a = sum_by-cons f z xs in let b = others 0 z (λ same. absurd (omega arith)) refl in
      let c = sum_by-only xs i x at (λ j y differ other. others (suc j) y (λ same. differ (omega arith)) other) in omega arith

-- where g is nowhere above f, the sums differ by no less than f and g do at one place
pub sum_by-le_at : {A : Type 0} (f g : A → ℕ) → ((x : A) → g x ≤ f x) → (xs : List A) (i : ℕ) (x : A) → get_elem? xs i ≡ some x → sum_by g xs + f x ≤ sum_by f xs + g x
sum_by-le_at f g below [] i x at = absurd (some-ne-none x (sym at))
sum_by-le_at f g below (z ∷ xs) zero x at = let a : f z ≡ f x = ap f (some-injective z x at) in let b : g z ≡ g x = ap g (some-injective z x at) in
    let c = sum_by-cons f z xs in let d = sum_by-cons g z xs in let e = sum_by-le f g below xs in omega arith
  where
    sum_by-le : {A : Type 0} (f g : A → ℕ) → ((x : A) → g x ≤ f x) → (xs : List A) → sum_by g xs ≤ sum_by f xs
    sum_by-le f g below [] = omega arith
    sum_by-le f g below (z ∷ xs) = let a = below z in let c = sum_by-cons f z xs in let d = sum_by-cons g z xs in let e = sum_by-le f g below xs in omega arith
sum_by-le_at f g below (z ∷ xs) (suc i) x at = let a = below z in let c = sum_by-cons f z xs in let d = sum_by-cons g z xs in let e = sum_by-le_at f g below xs i x at in omega arith
