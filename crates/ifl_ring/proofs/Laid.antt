-- Items that are given home, and found there.
use Rattle.std.proofs.Common.{◌≡◌, ◌≢◌, ℕ, zero, suc, ◌+◌, ◌-◌, ◌%◌, ◌<◌, ◌≤◌, List, [], ◌∷◌, length, map, set, take, drop, sym, refl, ap, ◌∙◌, subst, arith, length-set}
use mathlib.Core.Option.{some, none}
use mathlib.Core.Option as maybe
use mathlib.Core.Logic.{dite}
use native.Mathlib.Decide.{ℕ_discrete}
use lib.ListN.{get_elem?}
use Rattle.atomic_table.specs.Table.{carried_after, homes_after, Valid}
use Rattle.atomic_table.proofs.Lists.{set_here, set_else, drop_at}
use Rattle.ifl_ringcore.specs.declared.history.Meaning.{Meaning}
use Rattle.ifl_ring.specs.declared.place.Place.{Place}
use Rattle.ifl_ring.specs.declared.place.Place.TheVariants.{Item}
use Rattle.ifl_ring.specs.Acts.{out_all, give_all, laid, items_in, lying, value}
use Rattle.ifl_ring.proofs.Slots.{apart}

module _ {I D : Type 0} (size : ℕ) where
  pub gave_carried : (a : ℕ) (ys : List I) (c : List (ℕ × Place I D)) → carried_after (laid size a ys c) (give_all (length ys)) ≡ c
  gave_carried a [] c = refl
  gave_carried a (y ∷ ys) c = gave_carried (a + 1) ys c

  pub gave_valid : (a : ℕ) (ys : List I) (c : List (ℕ × Place I D)) (hs : List (maybe.Option (Place I D))) → Valid hs (laid size a ys c) (give_all (length ys))
  gave_valid a [] c hs = tt
  gave_valid a (y ∷ ys) c hs = (tt, gave_valid (a + 1) ys c (set hs (a % size) (some (Item y))))

  pub gave_long : (a : ℕ) (ys : List I) (c : List (ℕ × Place I D)) (hs : List (maybe.Option (Place I D))) → length (homes_after hs (laid size a ys c) (give_all (length ys))) ≡ length hs
  gave_long a [] c hs = refl
  gave_long a (y ∷ ys) c hs = gave_long (a + 1) ys c (set hs (a % size) (some (Item y))) ∙ length-set hs (a % size) (some (Item y))

  pub gave_else : (a i : ℕ) (ys : List I) (c : List (ℕ × Place I D)) (hs : List (maybe.Option (Place I D))) → ((j : ℕ) → a ≤ j → j < a + length ys → i ≢ j % size)
      → get_elem? (homes_after hs (laid size a ys c) (give_all (length ys))) i ≡ get_elem? hs i
  gave_else a i [] c hs away = refl
  gave_else a i (y ∷ ys) c hs away = gave_else (a + 1) i ys c (set hs (a % size) (some (Item y))) (λ j l h. away j (omega arith) (omega arith)) ∙ set_else hs (a % size) i (some (Item y)) (away a (omega arith) (omega arith))

  pub gave_here : (a j : ℕ) (ys : List I) (c : List (ℕ × Place I D)) (hs : List (maybe.Option (Place I D))) → a ≤ j → j < a + length ys → length ys ≤ size → j % size < length hs
      → (y : I) × (get_elem? ys (j - a) ≡ some y) × (get_elem? (homes_after hs (laid size a ys c) (give_all (length ys))) (j % size) ≡ some (some (Item y)))
  gave_here a j [] c hs l h small near = absurd (omega arith)
  gave_here a j (y ∷ ys) c hs l h small near = let hs' : List (maybe.Option (Place I D)) = set hs (a % size) (some (Item y)) in dite (ℕ_discrete j a)
      (λ is. (
        y,
        ap (get_elem? (y ∷ ys)) (let z : j - a ≡ 0 = omega arith in z),
        gave_else (a + 1) (j % size) ys c hs' (λ i x z. apart size a j i (omega arith) (omega arith) (omega arith) (omega arith) (λ e. omega arith))
            ∙ (ap (λ (k : ℕ). get_elem? hs' (k % size)) is ∙ set_here hs (a % size) (some (Item y)) (subst (λ (k : ℕ). k % size < length hs) is near)),
      ))
      (λ ne. let t = gave_here (a + 1) j ys c hs' (omega arith) (omega arith) (omega arith) (subst (λ (k : ℕ). j % size < k) (sym (length-set hs (a % size) (some (Item y)))) near) in
      (t.0, ap (get_elem? (y ∷ ys)) (let z : j - a ≡ suc (j - (a + 1)) = omega arith in z) ∙ t.1, t.2))

  -- the items that lie at home
  pub collect : (meaning : I → Meaning) (items : List Meaning) (hs : List (maybe.Option (Place I D))) (a n : ℕ) (c : List (ℕ × Place I D))
      → ((m : ℕ) → a ≤ m → m < a + n → (x : I) × (get_elem? hs (m % size) ≡ some (some (Item x))) × (get_elem? items m ≡ some (meaning x)))
      → (ys : List I) × (length ys ≡ n) × (out_all (value hs size) size a n c ≡ laid size a ys c) × (map meaning ys ≡ take n (drop a items))
  collect meaning items hs a zero c at = ([], refl, refl, refl)
  collect meaning items hs a (suc n) c at = let x = at a (omega arith) (omega arith) in let t = collect meaning items hs (a + 1) n c (λ m l h. at m (omega arith) (omega arith)) in (
    x.0 ∷ t.0,
    ap suc t.1,
    (λ i. (a % size, ap lying x.1 i) ∷ t.2 i),
    (λ i. meaning x.0 ∷ t.3 i) ∙ (ap (λ (k : ℕ). meaning x.0 ∷ take n (drop k items)) (let z : a + 1 ≡ suc a = omega arith in z) ∙ sym (ap (take (suc n)) (drop_at items a (meaning x.0) x.2))),
  )

pub laid_items : (I D : Type 0) (size a : ℕ) (ys : List I) → items_in (laid {I = I} {D = D} size a ys []) ≡ ys
laid_items I D size a [] = refl
laid_items I D size a (y ∷ ys) = ap (λ (z : List I). y ∷ z) (laid_items I D size (a + 1) ys)
