-- Lines in order.
use Rattle.std.proofs.Common.{◌≡◌, ℕ, ◌+◌, ◌-◌, ◌<◌, ◌≤◌, ⊎_elim, inl, inr, List, length, get_or, set, sym, ap, ◌∙◌, subst, arith}
use Rattle.std.specs.List.{AllPairs}
use Rattle.std.proofs.lemmas.List.{get_or-set_same, get_or-set_other}
use Rattle.std.proofs.lemmas.Bool.{cases_lt}
use mathlib.Core.Logic.{dite}
use native.Mathlib.Decide.{ℕ_discrete}
use Rattle.ifl_base.specs.declared.fate.Fate.{Fate}
use Rattle.ifl_base.specs.declared.fate.Away.{Away}
use Rattle.ifl_check.specs.declared.line.Line.{Line}
use Rattle.ifl_check.specs.InOrder.{IsBefore, IsSorted}

sorted-trans : (a b c : Line Away) → IsSorted a b → IsSorted b c → IsSorted a c
sorted-trans a b c h k = ⊎_elim
    (λ p. ⊎_elim (λ q. inl (omega arith)) (λ q. inl (let e = q.0 in omega arith)) k)
    (λ p. ⊎_elim (λ q. inl (let e = p.0 in omega arith)) (λ q. inr (p.0 ∙ q.0, let x = p.1 in let y = q.1 in omega arith)) k)
    h

-- the lines below a place stand in order
abbrev pub AreSorted : List (Line Away) → ℕ → Type 0
AreSorted lines n = (i j : ℕ) (d : Line Away) → i < j → j < n → IsSorted (get_or lines i d) (get_or lines j d)

pub sorted-more : (lines : List (Line Away)) (n : ℕ) → 1 ≤ n → AreSorted lines n → ((d : Line Away) → IsSorted (get_or lines (n - 1) d) (get_or lines n d)) → AreSorted lines (n + 1)
sorted-more lines n one h next i j d l m = ⊎_elim
    (λ below. h i j d l below)
    (λ above. let e : j ≡ n = omega arith in subst (λ (z : ℕ). IsSorted (get_or lines i d) (get_or lines z d)) (sym e) (dite (ℕ_discrete i (n - 1))
    (λ same. subst (λ (z : ℕ). IsSorted (get_or lines z d) (get_or lines n d)) (sym same) (next d))
    (λ other. sorted-trans (get_or lines i d) (get_or lines (n - 1) d) (get_or lines n d) (h i (n - 1) d (omega arith) (omega arith)) (next d))))
    (cases_lt j n)

-- what the first n lines say of the records of each sender, the least of which may come next
pub record Seen (lines : List (Line Fate)) (least : List ℕ) (n : ℕ) : Type 0 where
  pub pairs : (i j : ℕ) (d : Line Fate) → i < j → j < n → IsBefore (get_or lines i d) (get_or lines j d)
  pub bound : (k : ℕ) (d : Line Fate) → k < n → (get_or lines k d).index < get_or least (get_or lines k d).sender 0
  pub reached : (s : ℕ) (d : Line Fate) → 0 < get_or least s 0 → (k : ℕ) × (k < n) × ((get_or lines k d).sender ≡ s) × ((get_or lines k d).index + 1 ≡ get_or least s 0)

pub seen-fails : (lines : List (Line Fate)) (least : List ℕ) (n : ℕ) (l : Line Fate) → Seen lines least n → n < length lines → l ≡ get_or lines n l → l.index < get_or least l.sender 0 → AllPairs IsBefore lines → ⊥
seen-fails lines least n l h m is low all =
    let (k, lt, same, top) = h.reached l.sender l (omega arith) in
    let b = all k n l lt m (same ∙ ap (λ (z : Line Fate). z.sender) is) in
    let e = ap (λ (z : Line Fate). z.index) is in
    absurd (omega arith)

pub seen-more : (lines : List (Line Fate)) (least : List ℕ) (n : ℕ) (l : Line Fate) → Seen lines least n → n < length lines → l ≡ get_or lines n l → ((d : Line Fate) → get_or lines n d ≡ l)
    → l.sender < length least → get_or least l.sender 0 ≤ l.index → Seen lines (set least l.sender (l.index + 1)) (n + 1)
seen-more lines least n l h m is at fits high = record {
  pairs = λ i j d lt below. ⊎_elim
      (λ b. h.pairs i j d lt b)
      (λ b. let e : j ≡ n = omega arith in λ same.
      let last : get_or lines j d ≡ l = ap (λ (z : ℕ). get_or lines z d) e ∙ at d in
      let k = h.bound i d (omega arith) in
      let s : (get_or lines i d).sender ≡ l.sender = same ∙ ap (λ (z : Line Fate). z.sender) last in
      let r : get_or least (get_or lines i d).sender 0 ≡ get_or least l.sender 0 = ap (λ (z : ℕ). get_or least z 0) s in
      let t = ap (λ (z : Line Fate). z.index) last in omega arith)
      (cases_lt j n);
  bound = λ k d below. ⊎_elim
      (λ b. let old = h.bound k d b in dite (ℕ_discrete (get_or lines k d).sender l.sender)
      (λ same. let r : get_or least (get_or lines k d).sender 0 ≡ get_or least l.sender 0 = ap (λ (z : ℕ). get_or least z 0) same in
      let w : get_or (set least l.sender (l.index + 1)) (get_or lines k d).sender 0 ≡ l.index + 1 = ap (λ (z : ℕ). get_or (set least l.sender (l.index + 1)) z 0) same ∙ get_or-set_same least l.sender (l.index + 1) 0 fits in omega arith)
      (λ other. let w = get_or-set_other least l.sender (get_or lines k d).sender (l.index + 1) 0 other in omega arith))
      (λ b. let e : k ≡ n = omega arith in
      let last : get_or lines k d ≡ l = ap (λ (z : ℕ). get_or lines z d) e ∙ at d in
      let w : get_or (set least l.sender (l.index + 1)) (get_or lines k d).sender 0 ≡ l.index + 1 = ap (λ (z : Line Fate). get_or (set least l.sender (l.index + 1)) z.sender 0) last ∙ get_or-set_same least l.sender (l.index + 1) 0 fits in
      let t = ap (λ (z : Line Fate). z.index) last in omega arith)
      (cases_lt k n);
  reached = λ s d some. dite (ℕ_discrete s l.sender)
      (λ same. let w : get_or (set least l.sender (l.index + 1)) s 0 ≡ l.index + 1 = ap (λ (z : ℕ). get_or (set least l.sender (l.index + 1)) z 0) same ∙ get_or-set_same least l.sender (l.index + 1) 0 fits in
      (n, omega arith, ap (λ (z : Line Fate). z.sender) (at d) ∙ sym same, ap (λ (z : Line Fate). z.index + 1) (at d) ∙ sym w))
      (λ other. let w = get_or-set_other least l.sender s (l.index + 1) 0 other in
      let (k, lt, of, top) = h.reached s d (omega arith) in (k, omega arith, of, top ∙ sym w));
}
