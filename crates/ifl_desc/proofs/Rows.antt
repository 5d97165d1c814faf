-- A rack of slots: one of them read and written.
use Rattle.std.proofs.Common.{◌≡◌, ℕ, zero, suc, ◌+◌, ◌%◌, List, [], ◌∷◌, ◌++◌, map, length, take, drop, replicate, sym, refl, ap, ◌∙◌, arith, append_assoc, length-append}
use Rattle.std.proofs.Math.Nat.{mod-add-mod}
use Rattle.std.specs.Prelude.{Some, None}
use Rattle.ifl_desc.specs.declared.desc.Desc.{Desc}
use Rattle.ifl_desc.specs.Rule.{Slot, laid}
use Rattle.ifl_desc.specs.Plays.{valued}
use Rattle.ifl_desc.specs.Rack.{row}

module _ {X : Type 0} (S : ℕ) where
  pub laid_append : (a : ℕ) (xs ys : List X) → laid S a (xs ++ ys) ≡ laid S a xs ++ laid S (a + length xs) ys
  laid_append a [] ys = ap (λ (z : ℕ). laid S z ys) (omega arith)
  laid_append a (x ∷ xs) ys = ap (λ (z : List (ℕ × X)). (a % S, x) ∷ z) (laid_append (suc a) xs ys ∙ ap (λ (z : ℕ). laid S (suc a) xs ++ laid S z ys) (let g : suc a + length xs ≡ a + suc (length xs) = omega arith in g))

  pub laid_length : (a : ℕ) (xs : List X) → length (laid S a xs) ≡ length xs
  laid_length a [] = refl
  laid_length a (x ∷ xs) = ap suc (laid_length (suc a) xs)

  take_front : (n : ℕ) (xs ys : List (ℕ × X)) → length xs ≡ n → take n (xs ++ ys) ≡ xs
  take_front zero [] ys e = refl
  take_front zero (x ∷ xs) ys e = absurd (omega arith)
  take_front (suc n) [] ys e = absurd (omega arith)
  take_front (suc n) (x ∷ xs) ys e = ap (λ (z : List (ℕ × X)). x ∷ z) (take_front n xs ys (omega arith))

  pub drop_front : (n : ℕ) (xs ys : List (ℕ × X)) → length xs ≡ n → drop n (xs ++ ys) ≡ ys
  drop_front zero [] ys e = refl
  drop_front zero (x ∷ xs) ys e = absurd (omega arith)
  drop_front (suc n) [] ys e = absurd (omega arith)
  drop_front (suc n) (x ∷ xs) ys e = drop_front n xs ys (omega arith)

  drop_more : (n : ℕ) (x : ℕ × X) (xs ys : List (ℕ × X)) → length xs ≡ n → drop (suc n) (xs ++ x ∷ ys) ≡ ys
  drop_more zero x [] ys e = refl
  drop_more zero x (y ∷ xs) ys e = absurd (omega arith)
  drop_more (suc n) x [] ys e = absurd (omega arith)
  drop_more (suc n) x (y ∷ xs) ys e = drop_more n x xs ys (omega arith)

  module _ (a n : ℕ) (P Q : List X) (many : length P ≡ n) where
    pub spread : (x : X) → laid S a (P ++ x ∷ Q) ≡ laid S a P ++ ((a + n) % S, x) ∷ laid S (suc (a + n)) Q
    spread x = laid_append a P (x ∷ Q) ∙ ap (λ (z : ℕ). laid S a P ++ laid S z (x ∷ Q)) (let g : a + length P ≡ a + n = omega arith in g)

    as_long : length (laid S a P) ≡ n
    as_long = laid_length a P ∙ many

    pub front_of : (c : List (ℕ × X)) (x : X) → c ≡ laid S a (P ++ x ∷ Q) → take n c ≡ laid S a P
    front_of c x e = ap (take n) (e ∙ spread x) ∙ take_front n (laid S a P) (((a + n) % S, x) ∷ laid S (suc (a + n)) Q) as_long

    pub there : (c : List (ℕ × X)) (x : X) → c ≡ laid S a (P ++ x ∷ Q) → drop n c ≡ ((a + n) % S, x) ∷ drop (suc n) c
    there c x e = ap (drop n) (e ∙ spread x) ∙ drop_front n (laid S a P) (((a + n) % S, x) ∷ laid S (suc (a + n)) Q) as_long
        ∙ ap (λ (z : List (ℕ × X)). ((a + n) % S, x) ∷ z) (sym (ap (drop (suc n)) (e ∙ spread x) ∙ drop_more n ((a + n) % S, x) (laid S a P) (laid S (suc (a + n)) Q) as_long))

    -- the rack with y in that slot
    pub changed : (c : List (ℕ × X)) (x y : X) → c ≡ laid S a (P ++ x ∷ Q) → take n c ++ ((a + n) % S, y) ∷ drop (suc n) c ≡ laid S a (P ++ y ∷ Q)
    changed c x y e = (λ k. front_of c x e k ++ ((a + n) % S, y) ∷ (ap (drop (suc n)) (e ∙ spread x) ∙ drop_more n ((a + n) % S, x) (laid S a P) (laid S (suc (a + n)) Q) as_long) k) ∙ sym (spread y)

valued_some : (S a : ℕ) (p : List Desc) → valued (laid S a (map Some p)) ≡ p
valued_some S a [] = refl
valued_some S a (d ∷ p) = ap (λ (z : List Desc). d ∷ z) (valued_some S (suc a) p)

pub map_append : (p q : List Desc) → map {A = Desc} {B = Slot} Some (p ++ q) ≡ map Some p ++ map Some q
map_append [] q = refl
map_append (d ∷ p) q = ap (λ (z : List Slot). Some d ∷ z) (map_append p q)

pub map_length : (p : List Desc) → length (map {A = Desc} {B = Slot} Some p) ≡ length p
map_length [] = refl
map_length (d ∷ p) = ap suc (map_length p)

pub placed_is : (S a n : ℕ) (p : List Desc) (Q : List Slot) (c : List (ℕ × Slot)) → length p ≡ n → c ≡ laid S a (map Some p ++ Q) → valued (take n c) ≡ p
placed_is S a n p Q c many e = ap (λ (z : List (ℕ × Slot)). valued (take n z)) (e ∙ laid_append S a (map Some p) Q)
    ∙ ap valued (take_front S n (laid S a (map Some p)) (laid S (a + length (map Some p)) Q) (laid_length S a (map Some p) ∙ map_length p ∙ many)) ∙ valued_some S a p

pub row_placed : (p : List Desc) (n : ℕ) (q : List Desc) (d : Desc) → map Some p ++ Some d ∷ (replicate n None ++ map Some q) ≡ row (p ++ d ∷ []) n q
row_placed p n q d = sym (ap (λ (z : List Slot). z ++ (replicate n None ++ map Some q)) (map_append p (d ∷ [])) ∙ append_assoc (map Some p) (Some d ∷ []) (replicate n None ++ map Some q))

pub none_more : (n : ℕ) (Q : List Slot) → replicate n None ++ None ∷ Q ≡ None ∷ (replicate n None ++ Q)
none_more zero Q = refl
none_more (suc n) Q = ap (λ (z : List Slot). None ∷ z) (none_more n Q)

pub blank_row : (n m : ℕ) (Q : List Slot) → replicate n None ++ (replicate m None ++ Q) ≡ replicate (n + m) None ++ Q
blank_row zero m Q = ap (λ (z : ℕ). replicate z None ++ Q) (omega arith)
blank_row (suc n) m Q = ap (λ (z : List Slot). None ∷ z) (blank_row n m Q) ∙ ap (λ (z : ℕ). replicate z None ++ Q) (let g : suc (n + m) ≡ suc n + m = omega arith in g)

pub row_full : (p : List Desc) (n : ℕ) (q : List Desc) (d : Desc) → row p n (d ∷ q) ≡ (map Some p ++ replicate n None) ++ Some d ∷ map Some q
row_full p n q d = sym (append_assoc (map Some p) (replicate n None) (Some d ∷ map Some q))

pub row_emptied : (p : List Desc) (n : ℕ) (q : List Desc) → (map Some p ++ replicate n None) ++ None ∷ map Some q ≡ row p (suc n) q
row_emptied p n q = append_assoc (map Some p) (replicate n None) (None ∷ map Some q) ∙ ap (λ (z : List Slot). map Some p ++ z) (none_more n (map Some q))

replicate_length : (n : ℕ) → length (replicate {A = Slot} n None) ≡ n
replicate_length zero = refl
replicate_length (suc n) = ap suc (replicate_length n)

pub row_length : (p : List Desc) (n : ℕ) (q : List Desc) → length (row p n q) ≡ (length p + n) + length q
row_length p n q = let a = length-append (map Some p) (replicate n None ++ map Some q) in let b = length-append (replicate n None) (map Some q) in let c = map_length p in let d = map_length q in let e = replicate_length n in
    let x : ℕ = length (map {A = Desc} {B = Slot} Some p) in let y : ℕ = length (map {A = Desc} {B = Slot} Some q) in let z : ℕ = length (replicate {A = Slot} n None) in omega arith

pub front_length : (p : List Desc) (n : ℕ) → length (map Some p ++ replicate n None) ≡ length p + n
front_length p n = let a = length-append (map Some p) (replicate n None) in let c = map_length p in let e = replicate_length n in omega arith

pub slot_at : (S a f n : ℕ) → f ≡ a % S → (f + n) % S ≡ (a + n) % S
slot_at S a f n e = ap (λ (z : ℕ). (z + n) % S) e ∙ mod-add-mod a S n
