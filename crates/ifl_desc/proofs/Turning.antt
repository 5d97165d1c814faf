-- Turning a list of slots.
use Rattle.std.proofs.Common.{◌≡◌, ℕ, zero, suc, ◌+◌, ◌-◌, ◌<◌, ◌≤◌, List, [], ◌∷◌, ◌++◌, length, take, drop, sym, refl, ap, ◌∙◌, arith, append_assoc, append-nil, length-append}
use Rattle.atomic_table.specs.Table.{turned, rest}
use Rattle.ifl_desc.specs.Rack.{spin}

module _ {X : Type 0} where
  spin_turned : (n : ℕ) (c : List (ℕ × X)) → spin n (turned c) ≡ turned (spin n c)
  spin_turned zero c = refl
  spin_turned (suc n) c = ap turned (spin_turned n c)

  pub spin_all : (xs ys : List (ℕ × X)) → spin (length xs) (xs ++ ys) ≡ ys ++ xs
  spin_all [] ys = sym (append-nil ys)
  spin_all (x ∷ xs) ys = sym (spin_turned (length xs) (x ∷ (xs ++ ys))) ∙ ap (spin (length xs)) (append_assoc xs ys (x ∷ []))
      ∙ spin_all xs (ys ++ x ∷ []) ∙ append_assoc ys (x ∷ []) xs

  split_at : (n : ℕ) (c : List (ℕ × X)) → n ≤ length c → (length (take n c) ≡ n) × (take n c ++ drop n c ≡ c)
  split_at zero c h = (refl, refl)
  split_at (suc n) [] h = absurd (omega arith)
  split_at (suc n) (x ∷ c) h = let i = split_at n c (omega arith) in (ap suc i.0, ap (λ (z : List (ℕ × X)). x ∷ z) i.1)

  pub spun : (n : ℕ) (c : List (ℕ × X)) → n ≤ length c → spin n c ≡ drop n c ++ take n c
  spun n c h = let s = split_at n c h in
      ap (spin n) (sym s.1) ∙ ap (λ (k : ℕ). spin k (take n c ++ drop n c)) (sym s.0) ∙ spin_all (take n c) (drop n c)

  -- the slot behind the first n ones comes to the front, and back once it is changed
  pub to_front : (n : ℕ) (c m : List (ℕ × X)) (k : ℕ) (x : X) → n ≤ length c → drop n c ≡ (k, x) ∷ drop (suc n) c → m ≡ spin n c → m ≡ (k, x) ∷ rest m
  to_front n c m k x h e is = let a : m ≡ (k, x) ∷ (drop (suc n) c ++ take n c) = is ∙ spun n c h ∙ ap (λ (z : List (ℕ × X)). z ++ take n c) e in
      a ∙ ap (λ (z : List (ℕ × X)). (k, x) ∷ z) (sym (ap rest a))

  pub back_again : (n count : ℕ) (c m p q : List (ℕ × X)) (k : ℕ) (x old : X) → count ≡ length c → n < count → drop n c ≡ (k, old) ∷ drop (suc n) c → m ≡ spin n c
      → p ≡ (k, x) ∷ rest m → q ≡ spin (count - n) p → q ≡ take n c ++ (k, x) ∷ drop (suc n) c
  back_again n count c m p q k x old counts lt e is changed back =
      let s = split_at n c (omega arith) in
      let d : List (ℕ × X) = drop (suc n) c in
      let a : m ≡ (k, old) ∷ (d ++ take n c) = is ∙ spun n c (omega arith) ∙ ap (λ (z : List (ℕ × X)). z ++ take n c) e in
      let b : p ≡ ((k, x) ∷ d) ++ take n c = changed ∙ ap (λ (z : List (ℕ × X)). (k, x) ∷ z) (ap rest a) in
      let l : length c ≡ length (take n c) + length (drop n c) = ap length (sym s.1) ∙ length-append (take n c) (drop n c) in
      let g : length (drop n c) ≡ suc (length d) = ap length e in
      let h : length (take n c) ≡ n = s.0 in
      let many : count - n ≡ length ((k, x) ∷ d) = omega arith in
      back ∙ ap (λ (z : ℕ). spin z p) many ∙ ap (spin (length ((k, x) ∷ d))) b ∙ spin_all ((k, x) ∷ d) (take n c)

  abbrev first_or : X → List (ℕ × X) → X
  first_or d [] = d
  first_or d (x ∷ c) = x.1

  pub same_value : (m : List (ℕ × X)) (k : ℕ) (x y : X) → m ≡ (k, x) ∷ rest m → m ≡ (k, y) ∷ rest m → x ≡ y
  same_value m k x y a b = ap (first_or x) (sym a ∙ b)

  pub same_head : (k : ℕ) (x y : X) (c : List (ℕ × X)) → (k, x) ∷ c ≡ (k, y) ∷ c → x ≡ y
  same_head k x y c e = ap (first_or x) e
