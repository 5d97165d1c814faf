-- Items are taken out of the slots one by one.
use Rattle.std.proofs.Common.{◌≡◌, ℕ, zero, suc, ◌+◌, ◌-◌, ◌%◌, ◌<◌, List, [], ◌∷◌, ◌++◌, length, take, drop, append_assoc, append-nil, sym, refl, ap, ◌∙◌, arith}
use Rattle.std.proofs.Math.Nat.{mod-add-mod}
use Rattle.atomic_table.specs.Table.{rest}
use Rattle.ifl_ring.specs.declared.place.Place.{Place}
use Rattle.ifl_ring.specs.declared.place.Place.TheVariants.{Item, Vacant}
use Rattle.ifl_base.specs.Space.{advanced}
use Rattle.ifl_ring.specs.Acts.{out_all, laid, IsItemFirst, Gathered}

laid_append : {I D : Type 0} (size a : ℕ) (ys : List I) (c d : List (ℕ × Place I D)) → laid size a ys c ++ d ≡ laid size a ys (c ++ d)
laid_append {D = D} size a [] c d = refl
laid_append {D = D} size a (y ∷ ys) c d = λ i. (a % size, Item y) ∷ laid_append size (a + 1) ys c d i

pub out_snoc : {S : Type 0} (x : S) (size a k : ℕ) → out_all (λ _. x) size a (suc k) [] ≡ out_all (λ _. x) size a k [] ++ ((a + k) % size, x) ∷ []
out_snoc x size a zero = λ i. ((let e : a ≡ a + 0 = omega arith in e) i % size, x) ∷ []
out_snoc x size a (suc k) = (λ i. (a % size, x) ∷ out_snoc x size (a + 1) k i) ∙ ap (λ (z : ℕ). (a % size, x) ∷ (out_all (λ _. x) size (a + 1) k [] ++ (z % size, x) ∷ [])) (let e : a + 1 + k ≡ a + suc k = omega arith in e)

pub nth : {A : Type 0} (k : ℕ) (ys : List A) → k < length ys → (y : A) × (drop k ys ≡ y ∷ drop (suc k) ys) × (take (suc k) ys ≡ take k ys ++ y ∷ [])
nth k [] h = absurd (omega arith)
nth zero (y ∷ ys) h = (y, refl, refl)
nth (suc k) (y ∷ ys) h = let t = nth k ys (omega arith) in (t.0, t.1, ap (λ z. y ∷ z) t.2)

module _ {I D : Type 0} where
  abbrev got : Place I D → I → I
  got (Item y) d = y
  got _ d = d

  abbrev first : List (ℕ × Place I D) → I → I
  first [] d = d
  first (p ∷ ps) d = got p.1 d

  same_first : (i j : ℕ) (x y : I) (a b : List (ℕ × Place I D)) → (i, Item x) ∷ a ≡ (j, Item y) ∷ b → x ≡ y
  same_first i j x y a b e = ap (λ (z : List (ℕ × Place I D)). first z x) e

  pub first_item : (size a : ℕ) (ys : List I) (c : List (ℕ × Place I D)) (before now : List I) (at left : ℕ) (out : List (ℕ × Place I D)) → Gathered size a ys c before now at left out → 0 < left → IsItemFirst at out
  first_item size a ys c before now at left out g some = let n = nth g.k ys (let e = g.left_is in omega arith) in let C : List (ℕ × Place I D) = c ++ out_all (λ _. Vacant) size a g.k [] in
      let is : out ≡ ((a + g.k) % size, Item n.0) ∷ laid size (a + g.k + 1) (drop (suc g.k) ys) C = g.is ∙ ap (λ (z : List I). laid size (a + g.k) z C) n.1 in
      (n.0, is ∙ (λ i. (sym g.here i, Item n.0) ∷ rest (sym is i)))

  pub gather_one : (size a : ℕ) (ys : List I) (c : List (ℕ × Place I D)) (before now now' : List I) (at at' left left' : ℕ) (out out' : List (ℕ × Place I D)) (x : I) → Gathered size a ys c before now at left out → 0 < left
      → out ≡ (at, Item x) ∷ rest out → out' ≡ rest out ++ (at, Vacant) ∷ [] → now' ≡ now ++ x ∷ [] → at' ≡ advanced size at 1 → left' ≡ left - 1 → Gathered size a ys c before now' at' left' out'
  gather_one size a ys c before now now' at at' left left' out out' x g some first next grown step less =
      let e = g.left_is in let n = nth g.k ys (omega arith) in let C : List (ℕ × Place I D) = c ++ out_all (λ _. Vacant) size a g.k [] in
      let is : out ≡ ((a + g.k) % size, Item n.0) ∷ laid size (a + g.k + 1) (drop (suc g.k) ys) C = g.is ∙ ap (λ (z : List I). laid size (a + g.k) z C) n.1 in
      let x_is : x ≡ n.0 = same_first at ((a + g.k) % size) x n.0 (rest out) (laid size (a + g.k + 1) (drop (suc g.k) ys) C) (sym first ∙ is) in
      let tail : out' ≡ laid size (a + g.k + 1) (drop (suc g.k) ys) (C ++ (at, Vacant) ∷ []) = next ∙ ap (λ (z : List (ℕ × Place I D)). rest z ++ (at, Vacant) ∷ []) is ∙ laid_append size (a + g.k + 1) (drop (suc g.k) ys) C ((at, Vacant) ∷ []) in
      let ends : C ++ (at, Vacant) ∷ [] ≡ c ++ out_all (λ _. Vacant) size a (suc g.k) [] = append_assoc c (out_all (λ _. Vacant) size a g.k []) ((at, Vacant) ∷ [])
      ∙ ap (λ (z : List (ℕ × Place I D)). c ++ z) (ap (λ (z : ℕ). out_all (λ _. Vacant) size a g.k [] ++ (z, Vacant) ∷ []) g.here ∙ sym (out_snoc Vacant size a g.k)) in record {
        k = suc g.k;
        few = omega arith;
        left_is = omega arith;
        here = step ∙ ap (λ (z : ℕ). (z + 1) % size) g.here ∙ mod-add-mod (a + g.k) size 1 ∙ ap (λ (z : ℕ). z % size) (let f : a + g.k + 1 ≡ a + suc g.k = omega arith in f);
        batch = grown ∙ (λ i. g.batch i ++ x_is i ∷ []) ∙ append_assoc before (take g.k ys) (n.0 ∷ []) ∙ ap (λ (z : List I). before ++ z) (sym n.2);
        is = tail ∙ ap (laid size (a + g.k + 1) (drop (suc g.k) ys)) ends ∙ ap (λ (z : ℕ). laid size z (drop (suc g.k) ys) (c ++ out_all (λ _. Vacant) size a (suc g.k) [])) (let f : a + g.k + 1 ≡ a + suc g.k = omega arith in f);
      }

  pub gather_none : (size a : ℕ) (ys : List I) (c : List (ℕ × Place I D)) (before : List I) (at left : ℕ) (out : List (ℕ × Place I D)) → length ys ≡ left → at ≡ a % size → out ≡ laid size a ys c → Gathered size a ys c before before at left out
  gather_none size a ys c before at left out count here is = record {
    k = 0;
    few = omega arith;
    left_is = omega arith;
    here = here ∙ ap (λ (z : ℕ). z % size) (let e : a ≡ a + 0 = omega arith in e);
    batch = simp append-nil;
    is = is ∙ ap (λ (z : ℕ). laid size z ys c) (let e : a ≡ a + 0 = omega arith in e) ∙ ap (laid size (a + 0) ys) (simp append-nil);
  }
