-- One clause fails first, or none does.
use Rattle.std.proofs.Common.{◌≡◌, ℕ, ◌^◌, ◌<◌, ⊎_elim, List, length, sym, subst, ◌∙◌}
use Rattle.ifl_base.specs.declared.fate.Fate.{Fate}
use Rattle.ifl_base.specs.declared.fate.Away.{Away}
use Rattle.ifl_pcap.specs.declared.frame.Frame.{Frame}
use Rattle.ifl_check.specs.declared.line.Line.{Line}
use Rattle.ifl_check.specs.declared.terms.Terms.{Terms}
use Rattle.ifl_check.specs.FirstFailing.{FailsFirst, FailsOfLines, HoldOfLines, FirstFailing, AllHold}
use Rattle.ifl_check.proofs.OneReading.{order-once}

first-once : (number m n : ℕ) (C A B : Type 0) → (A → B → m ≡ n) → FailsFirst m number C A → FailsFirst n number C B → m ≡ n
first-once number m n C A B behind h g = ⊎_elim
    (λ x. ⊎_elim (λ y. x.0 ∙ sym y.0) (λ y. absurd (x.1 y.0)) g)
    (λ x. ⊎_elim (λ y. absurd (y.1 x.0)) (λ y. behind x.1 y.1) g)
    h

first-never : (number n : ℕ) (C B : Type 0) → C → (B → ⊥) → FailsFirst n number C B → ⊥
first-never number n C B c behind h = ⊎_elim (λ x. x.1 c) (λ x. behind x.1) h

fails-once : (terms : Terms) (files : List (List Frame)) (wire : List ℕ) (xs : List (Line Fate)) (us : List (Line Away)) (m n : ℕ) → FailsOfLines terms files wire xs us m → FailsOfLines terms files wire xs us n → m ≡ n
fails-once terms files wire xs us m n =
    first-once 2 m n _ _ _ (first-once 3 m n _ _ _ (first-once 4 m n _ _ _ (first-once 5 m n _ _ _ (first-once 6 m n _ _ _ (first-once 7 m n _ _ _ (λ x y. absurd x))))))

fails-never : (terms : Terms) (files : List (List Frame)) (wire : List ℕ) (xs : List (Line Fate)) (us : List (Line Away)) (n : ℕ) → HoldOfLines terms files wire xs us → FailsOfLines terms files wire xs us n → ⊥
fails-never terms files wire xs us n h =
    first-never 2 n _ _ h.each_once (first-never 3 n _ _ h.in_order (first-never 4 n _ _ h.lengths (first-never 5 n _ _ h.allowed (first-never 6 n _ _ h.full (first-never 7 n _ _ h.on_wire (λ x. x))))))

pub verdict-once : (terms : Terms) (files : List (List Frame)) (wire text : List ℕ) (m n : ℕ) → length text < 2 ^ 64 → FirstFailing terms files wire text m → FirstFailing terms files wire text n → m ≡ n
verdict-once terms files wire text m n small h g = ⊎_elim
    (λ x. ⊎_elim (λ y. x.0 ∙ sym y.0) (λ (ys, vs, is, y). absurd (x.1 ys vs is)) g)
    (λ (xs, us, at, x). ⊎_elim (λ y. absurd (y.1 xs us at))
    (λ (ys, vs, is, y). let same = order-once text ys xs vs us small is at in
    fails-once terms files wire xs us m n x (subst (λ (z : List (Line Away)). FailsOfLines terms files wire xs z n) same.1 (subst (λ (z : List (Line Fate)). FailsOfLines terms files wire z vs n) same.0 y)))
    g)
    h

pub verdict-never : (terms : Terms) (files : List (List Frame)) (wire text : List ℕ) (n : ℕ) → length text < 2 ^ 64 → FirstFailing terms files wire text n → AllHold terms files wire text → ⊥
verdict-never terms files wire text n small h (xs, us, at, all) = ⊎_elim
    (λ y. y.1 xs us at)
    (λ (ys, vs, is, y). let same = order-once text ys xs vs us small is at in
    fails-never terms files wire xs us n all (subst (λ (z : List (Line Away)). FailsOfLines terms files wire xs z n) same.1 (subst (λ (z : List (Line Fate)). FailsOfLines terms files wire z vs n) same.0 y)))
    h
