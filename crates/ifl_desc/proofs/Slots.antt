-- Many slots given back, or taken, in one act.
use Rattle.std.proofs.Common.{◌≡◌, ℕ, zero, suc, ◌+◌, ◌%◌, ◌<◌, ◌≤◌, ◌≢◌, List, [], ◌∷◌, ◌++◌, length, set, sym, refl, ap, ◌∙◌, mod-lt, arith, length-set}
use mathlib.Core.Logic.{dite}
use mathlib.Core.Option.{some, none, some-injective, some-ne-none}
use mathlib.Core.Option as maybe
use native.Mathlib.Decide.{dec_le}
use lib.ListN.{get_elem?}
use Rattle.atomic_table.specs.Table.{Valid, homes_after, carried_after}
use Rattle.atomic_table.proofs.Lists.{one_turn, set_here, set_else}
use Rattle.ifl_desc.specs.Rule.{laid, gives_all, takes_all}

-- two numbers of one window lie in two slots
pub apart : (S w x y : ℕ) → w ≤ x → x < w + S → w ≤ y → y < w + S → x ≢ y → x % S ≢ y % S
apart S w x y a b c d ne e = dite (dec_le x y)
    (λ le. ne (one_turn x y S le (omega arith) e))
    (λ gt. ne (sym (one_turn y x S (omega arith) (omega arith) (sym e))))

abbrev pub Homes : Type 0 → Type 0
Homes X = List (maybe.Option X)

module _ (S : ℕ) where
  -- the slot j is none of those numbered from a on
  abbrev pub Misses : ℕ → ℕ → ℕ → Type 0
  Misses a n j = (k : ℕ) → k < n → (a + k) % S ≢ j

  misses_next : (a n j : ℕ) → Misses a (suc n) j → Misses (suc a) n j
  misses_next a n j m k h e = m (suc k) (omega arith) (ap (λ (z : ℕ). z % S) (let g : a + suc k ≡ suc a + k = omega arith in g) ∙ e)

  -- the slots of fewer than S numbers behind a are not a's
  behind : (a n : ℕ) → n < S → Misses (suc a) n (a % S)
  behind a n h k l e = apart S a (suc a + k) a (omega arith) (omega arith) (omega arith) (omega arith) (λ z. omega arith) e

module _ (S : ℕ) {X : Type 0} where
  abbrev pub places : Homes X → ℕ → List X → Homes X
  places hs a [] = hs
  places hs a (x ∷ xs) = places (set hs (a % S) (some x)) (suc a) xs

  pub given_homes : (hs : Homes X) (a : ℕ) (xs : List X) (c : List (ℕ × X)) → homes_after hs (laid S a xs ++ c) (gives_all (length xs)) ≡ places hs a xs
  given_homes hs a [] c = refl
  given_homes hs a (x ∷ xs) c = given_homes (set hs (a % S) (some x)) (suc a) xs c

  pub given_carried : (a : ℕ) (xs : List X) (c : List (ℕ × X)) → carried_after (laid S a xs ++ c) (gives_all (length xs)) ≡ c
  given_carried a [] c = refl
  given_carried a (x ∷ xs) c = given_carried (suc a) xs c

  pub given_valid : (hs : Homes X) (a : ℕ) (xs : List X) (c : List (ℕ × X)) → Valid hs (laid S a xs ++ c) (gives_all (length xs))
  given_valid hs a [] c = tt
  given_valid hs a (x ∷ xs) c = (tt, given_valid (set hs (a % S) (some x)) (suc a) xs c)

  pub places_length : (hs : Homes X) (a : ℕ) (xs : List X) → length (places hs a xs) ≡ length hs
  places_length hs a [] = refl
  places_length hs a (x ∷ xs) = places_length (set hs (a % S) (some x)) (suc a) xs ∙ length-set hs (a % S) (some x)

  pub places_else : (hs : Homes X) (a : ℕ) (xs : List X) (j : ℕ) → Misses S a (length xs) j → get_elem? (places hs a xs) j ≡ get_elem? hs j
  places_else hs a [] j m = refl
  places_else hs a (x ∷ xs) j m = places_else (set hs (a % S) (some x)) (suc a) xs j (misses_next S a (length xs) j m)
      ∙ set_else hs (a % S) j (some x) (λ e. m 0 (omega arith) (ap (λ (z : ℕ). z % S) (let g : a + 0 ≡ a = omega arith in g) ∙ sym e))

  pub places_here : (hs : Homes X) (a : ℕ) (xs : List X) → length hs ≡ S → length xs ≤ S → 0 < S → (i : ℕ) (x : X) → get_elem? xs i ≡ some x → get_elem? (places hs a xs) ((a + i) % S) ≡ some (some x)
  places_here hs a [] size fits pos i x e = absurd (some-ne-none x (sym e))
  places_here hs a (y ∷ xs) size fits pos zero x e =
      let at : (a + 0) % S ≡ a % S = ap (λ (z : ℕ). z % S) (omega arith) in
      let in_range : a % S < length hs = let g : a % S < S = mod-lt a pos in omega arith in
      ap (λ (j : ℕ). get_elem? (places (set hs (a % S) (some y)) (suc a) xs) j) at
      ∙ places_else (set hs (a % S) (some y)) (suc a) xs (a % S) (behind S a (length xs) (omega arith))
      ∙ set_here hs (a % S) (some y) in_range ∙ ap (λ (z : X). some (some z)) (some-injective y x e)
  places_here hs a (y ∷ xs) size fits pos (suc i) x e =
      let at : (a + suc i) % S ≡ (suc a + i) % S = ap (λ (z : ℕ). z % S) (omega arith) in
      ap (λ (j : ℕ). get_elem? (places (set hs (a % S) (some y)) (suc a) xs) j) at
      ∙ places_here (set hs (a % S) (some y)) (suc a) xs (length-set hs (a % S) (some y) ∙ size) (omega arith) pos i x e

  pub taken_carried : (c : List (ℕ × X)) (a : ℕ) (xs : List X) → carried_after c (takes_all S a xs) ≡ laid S a xs ++ c
  taken_carried c a [] = refl
  taken_carried c a (x ∷ xs) = ap (λ (z : List (ℕ × X)). (a % S, x) ∷ z) (taken_carried c (suc a) xs)

  pub taken_length : (hs : Homes X) (c : List (ℕ × X)) (a : ℕ) (xs : List X) → length (homes_after hs c (takes_all S a xs)) ≡ length hs
  taken_length hs c a [] = refl
  taken_length hs c a (x ∷ xs) = length-set (homes_after hs c (takes_all S (suc a) xs)) (a % S) none ∙ taken_length hs c (suc a) xs

  pub taken_else : (hs : Homes X) (c : List (ℕ × X)) (a : ℕ) (xs : List X) (j : ℕ) → Misses S a (length xs) j → get_elem? (homes_after hs c (takes_all S a xs)) j ≡ get_elem? hs j
  taken_else hs c a [] j m = refl
  taken_else hs c a (x ∷ xs) j m =
      set_else (homes_after hs c (takes_all S (suc a) xs)) (a % S) j none (λ e. m 0 (omega arith) (ap (λ (z : ℕ). z % S) (let g : a + 0 ≡ a = omega arith in g) ∙ sym e))
      ∙ taken_else hs c (suc a) xs j (misses_next S a (length xs) j m)

  pub taken_valid : (hs : Homes X) (c : List (ℕ × X)) (a : ℕ) (xs : List X) → length xs ≤ S
      → ((i : ℕ) (x : X) → get_elem? xs i ≡ some x → get_elem? hs ((a + i) % S) ≡ some (some x)) → Valid hs c (takes_all S a xs)
  taken_valid hs c a [] fits home = tt
  taken_valid hs c a (x ∷ xs) fits home = (
    taken_valid hs c (suc a) xs (omega arith) (λ i y e. ap (λ (j : ℕ). get_elem? hs (j % S)) (let g : suc a + i ≡ a + suc i = omega arith in g) ∙ home (suc i) y e),
    taken_else hs c (suc a) xs (a % S) (behind S a (length xs) (omega arith)) ∙ ap (λ (j : ℕ). get_elem? hs (j % S)) (let g : a ≡ a + 0 = omega arith in g) ∙ home 0 x refl,
  )
