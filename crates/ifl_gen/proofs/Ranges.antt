-- Lists that a function makes of numbers in a row.
use Rattle.std.proofs.Common.{◌≡◌, ℕ, zero, suc, ◌+◌, ◌*◌, List, ◌∷◌, ◌++◌, map, length, ◌<◌, refl, sym, ap, subst, ◌∙◌, arith}
use Rattle.std.specs.List.{range_with_len, sum_by, All}
use Rattle.std.proofs.lemmas.List.FromFn.{length-map-range_with_len, get_or-map-range_with_len}
use Rattle.std.proofs.lemmas.List.Sums.{sum_by-cons}

pub range_with_len-add : (a m n : ℕ) → range_with_len a (m + n) ≡ range_with_len a m ++ range_with_len (a + m) n
range_with_len-add a zero n =
    let none : zero + n ≡ n = omega arith in
    let from : a ≡ a + zero = omega arith in
    ap (range_with_len a) none ∙ ap (λ (b : ℕ). range_with_len b n) from
range_with_len-add a (suc m) n =
    let one : suc m + n ≡ suc (m + n) = omega arith in
    let from : a + 1 + m ≡ a + suc m = omega arith in
    ap (range_with_len a) one ∙ ap (λ (r : List ℕ). a ∷ r) (range_with_len-add (a + 1) m n ∙ ap (λ (b : ℕ). range_with_len (a + 1) m ++ range_with_len b n) from)

-- a function that repeats makes the same of numbers that stand one period further
pub map-range_with_len-repeats : {X : Type 0} (f : ℕ → X) (a k n : ℕ) → ((i : ℕ) → f (a + i) ≡ f i) → map f (range_with_len (a + k) n) ≡ map f (range_with_len k n)
map-range_with_len-repeats f a k zero h = refl
map-range_with_len-repeats {X = X} f a k (suc n) h =
    let on : a + k + 1 ≡ a + (k + 1) = omega arith in
    ap (λ (x : X). x ∷ map f (range_with_len (a + k + 1) n)) (h k)
    ∙ ap (λ (r : List X). f k ∷ r) (ap (λ (j : ℕ). map f (range_with_len j n)) on ∙ map-range_with_len-repeats f a (k + 1) n h)

-- lists that are all of one length
pub sum_by-length-same : {X : Type 0} (g : ℕ → List X) (long a n : ℕ) → ((i : ℕ) → length (g i) ≡ long) → sum_by (λ xs. length xs) (map g (range_with_len a n)) ≡ n * long
sum_by-length-same g long a zero h = omega arith
sum_by-length-same g long a (suc n) h =
    let more : suc n * long ≡ long + n * long = grind arith in
    omega (arith, more, h a, sum_by-cons (λ xs. length xs) (g a) (map g (range_with_len (a + 1) n)), sum_by-length-same g long (a + 1) n h)

-- what holds of each that is made
pub All-map-range_with_len : {X : Type 0} (P : X → Type 0) (f : ℕ → X) (n : ℕ) → ((i : ℕ) → i < n → P (f i)) → All P (map f (range_with_len 0 n))
All-map-range_with_len P f n h k d lt =
    let below : k < n = omega (arith, lt, length-map-range_with_len f 0 n) in
    subst P (sym (get_or-map-range_with_len f 0 n k k d below (omega arith))) (h k below)
