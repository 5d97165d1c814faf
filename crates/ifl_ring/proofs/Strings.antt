-- Facts about lists.
use Rattle.std.proofs.Common.{◌≡◌, ℕ, zero, suc, ◌+◌, ◌%◌, ◌<◌, ◌≤◌, List, [], ◌∷◌, ◌++◌, length, map, take, drop, sym, refl, ap, ◌∙◌, arith, append_assoc}
use Rattle.ifl_ring.proofs.Gathering.{nth}
use Rattle.ifl_ring.specs.declared.place.Place.{Place}
use Rattle.ifl_ring.specs.declared.place.Place.TheVariants.{Item}
use Rattle.ifl_ring.specs.Acts.{out_all, laid}
use Rattle.atomic_table.specs.Table.{turned}

module _ {A : Type 0} where
  abbrev nil : List A
  nil = []

  drop_none : (k : ℕ) → drop k nil ≡ []
  drop_none zero = refl
  drop_none (suc k) = refl

  take_none : (k : ℕ) → take k nil ≡ []
  take_none zero = refl
  take_none (suc k) = refl

  pub drop_all : (xs ys : List A) → drop (length xs) (xs ++ ys) ≡ ys
  drop_all [] ys = refl
  drop_all (x ∷ xs) ys = drop_all xs ys

  pub take_all_of : (xs ys : List A) → take (length xs) (xs ++ ys) ≡ xs
  take_all_of [] ys = refl
  take_all_of (x ∷ xs) ys = ap (λ (z : List A). x ∷ z) (take_all_of xs ys)

  pub drop_drop : (a k : ℕ) (xs : List A) → drop k (drop a xs) ≡ drop (a + k) xs
  drop_drop zero k xs = ap (λ (z : ℕ). drop z xs) (let e : k ≡ 0 + k = omega arith in e)
  drop_drop (suc a) k [] = drop_none k ∙ sym (drop_none (suc a + k))
  drop_drop (suc a) k (x ∷ xs) = drop_drop a k xs ∙ ap (λ (z : ℕ). drop z (x ∷ xs)) (let e : suc (a + k) ≡ suc a + k = omega arith in e)

  pub drop_left : (k : ℕ) (xs ys : List A) → k ≤ length xs → drop k (xs ++ ys) ≡ drop k xs ++ ys
  drop_left zero xs ys h = refl
  drop_left (suc k) [] ys h = absurd (omega arith)
  drop_left (suc k) (x ∷ xs) ys h = drop_left k xs ys (omega arith)

  pub take_drop : (k : ℕ) (xs : List A) → take k xs ++ drop k xs ≡ xs
  take_drop zero xs = refl
  take_drop (suc k) [] = refl
  take_drop (suc k) (x ∷ xs) = ap (λ (z : List A). x ∷ z) (take_drop k xs)

  -- the first a of a list, and k more of its first n
  pub take_more : (a k n : ℕ) (xs : List A) → a + k ≤ n → take a xs ++ take k (drop a (take n xs)) ≡ take (a + k) xs
  take_more zero zero n xs h = refl
  take_more zero (suc k) zero xs h = absurd (omega arith)
  take_more zero (suc k) (suc n) [] h = sym (take_none (0 + suc k))
  take_more zero (suc k) (suc n) (x ∷ xs) h = ap (λ (z : List A). x ∷ z) (take_more zero k n xs (omega arith) ∙ ap (λ (z : ℕ). take z xs) (let e : 0 + k ≡ k = omega arith in e)) ∙ ap (λ (z : ℕ). take z (x ∷ xs)) (let e : suc k ≡ 0 + suc k = omega arith in e)
  take_more (suc a) k zero xs h = absurd (omega arith)
  take_more (suc a) k (suc n) [] h = ap (take k) (drop_none (suc a)) ∙ take_none k ∙ sym (take_none (suc a + k))
  take_more (suc a) k (suc n) (x ∷ xs) h = ap (λ (z : List A). x ∷ z) (take_more a k n xs (omega arith)) ∙ ap (λ (z : ℕ). take z (x ∷ xs)) (let e : suc (a + k) ≡ suc a + k = omega arith in e)

pub map_drop : {A B : Type 0} (f : A → B) (k : ℕ) (xs : List A) → map f (drop k xs) ≡ drop k (map f xs)
map_drop f zero xs = refl
map_drop f (suc k) [] = refl
map_drop f (suc k) (x ∷ xs) = map_drop f k xs

pub map_take : {A B : Type 0} (f : A → B) (k : ℕ) (xs : List A) → map f (take k xs) ≡ take k (map f xs)
map_take f zero xs = refl
map_take f (suc k) [] = refl
map_take {B = B} f (suc k) (x ∷ xs) = ap (λ (z : List B). f x ∷ z) (map_take f k xs)

module _ {S : Type 0} (f : ℕ → S) (size : ℕ) where
  pub out_append : (a n : ℕ) (c d : List (ℕ × S)) → out_all f size a n c ++ d ≡ out_all f size a n (c ++ d)
  out_append a zero c d = refl
  out_append a (suc n) c d = ap (λ (z : List (ℕ × S)). (a % size, f a) ∷ z) (out_append (a + 1) n c d)

  pub out_long_is : (a n : ℕ) (c : List (ℕ × S)) → length (out_all f size a n c) ≡ n + length c
  out_long_is a zero c = omega arith
  out_long_is a (suc n) c = let t = out_long_is (a + 1) n c in omega arith

  pub out_cut : (a n k : ℕ) (c : List (ℕ × S)) → out_all f size a (n + k) c ≡ out_all f size a n (out_all f size (a + n) k c)
  out_cut a zero k c = (λ i. out_all f size ((let e : a ≡ a + 0 = omega arith in e) i) ((let e : 0 + k ≡ k = omega arith in e) i) c)
  out_cut a (suc n) k c = ap (λ (z : ℕ). out_all f size a z c) (let e : suc n + k ≡ suc (n + k) = omega arith in e)
      ∙ ap (λ (z : List (ℕ × S)). (a % size, f a) ∷ z) (out_cut (a + 1) n k c ∙ ap (λ (z : ℕ). out_all f size (a + 1) n (out_all f size z k c)) (let e : a + 1 + n ≡ a + suc n = omega arith in e))

module _ {I D : Type 0} (size : ℕ) where
  pub laid_cut : (a : ℕ) (xs ys : List I) (c : List (ℕ × Place I D)) → laid size a (xs ++ ys) c ≡ laid size a xs (laid size (a + length xs) ys c)
  laid_cut a [] ys c = ap (λ (z : ℕ). laid size z ys c) (let e : a ≡ a + 0 = omega arith in e)
  laid_cut a (x ∷ xs) ys c = ap (λ (z : List (ℕ × Place I D)). (a % size, Item x) ∷ z) (laid_cut (a + 1) xs ys c ∙ ap (λ (z : ℕ). laid size (a + 1) xs (laid size z ys c)) (let e : a + 1 + length xs ≡ a + suc (length xs) = omega arith in e))

  pub laid_join : (a : ℕ) (ys : List I) (c d : List (ℕ × Place I D)) → laid size a ys c ++ d ≡ laid size a ys (c ++ d)
  laid_join a [] c d = refl
  laid_join a (y ∷ ys) c d = ap (λ (z : List (ℕ × Place I D)). (a % size, Item y) ∷ z) (laid_join (a + 1) ys c d)

  pub laid_long : (a : ℕ) (ys : List I) (c : List (ℕ × Place I D)) → length (laid size a ys c) ≡ length ys + length c
  laid_long a [] c = omega arith
  laid_long a (y ∷ ys) c = let t = laid_long (a + 1) ys c in omega arith

-- one more slot goes behind
pub turned_once : {A : Type 0} (i : ℕ) (l : List (ℕ × A)) → i < length l → turned (drop i l ++ take i l) ≡ drop (i + 1) l ++ take (i + 1) l
turned_once {A = A} i l h = let n = nth i l h in let after_it : List (ℕ × A) = drop (suc i) l in
    ap (λ (z : List (ℕ × A)). turned (z ++ take i l)) n.1 ∙ append_assoc after_it (take i l) (n.0 ∷ []) ∙ ap (λ (z : List (ℕ × A)). after_it ++ z) (sym n.2)
    ∙ ap (λ (k : ℕ). drop k l ++ take k l) (let e : suc i ≡ i + 1 = omega arith in e)
