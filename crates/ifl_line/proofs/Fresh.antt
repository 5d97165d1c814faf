-- New seats.
use Rattle.std.proofs.Common.{true, false, ◌≡◌, ℕ, List, [], ◌∷◌, sym, refl, ap, ◌∙◌, ⊎_elim, eq-eqb, ne_eqb}
use mathlib.Core.Logic.{dite}
use native.Mathlib.Decide.{ℕ_discrete}
use Rattle.ifl_ringcore.specs.declared.history.Entry.{Entry}
use Rattle.ifl_ringcore.specs.History.{own}
use Rattle.ifl_ring.specs.declared.view.Known.{Known}
use Rattle.ifl_ring.specs.Seats.{has, Has, of_all, events, Names}
use Rattle.ifl_line.proofs.Merging.{bool_cases}

only : (k n : ℕ) → Has k (n ∷ []) → n ≡ k
only k n h = dite (ℕ_discrete n k) (λ e. e) (λ ne. absurd (let f : false ≡ true = rw (ne_eqb n k ne) at h in cc))

-- where no entry of a number stands, none of all does
none_of_all : (ks : List ℕ) (xs : List Entry) → ((k : ℕ) → Has k ks → own k xs ≡ []) → of_all ks xs ≡ []
none_of_all ks [] h = refl
none_of_all ks (x ∷ xs) h = ⊎_elim
    (λ (t : has x.seat ks ≡ true). absurd (let f : x ∷ own x.seat xs ≡ [] = rw (eq-eqb x.seat x.seat refl) at (h x.seat t) in cc))
    (λ (f : has x.seat ks ≡ false). rw f (none_of_all ks xs (λ k t. dite (ℕ_discrete x.seat k)
    (λ e. absurd (let g : x ∷ own k xs ≡ [] = rw (eq-eqb x.seat k e) at (h k t) in cc))
    (λ ne. rw (ne_eqb x.seat k ne) at (h k t)))))
    (bool_cases (has x.seat ks))

-- a new seat has done nothing
pub named_silent : (size : ℕ) (v w : Known) → Names size v w → events w ≡ []
named_silent size v w n = ap (λ (z : List ℕ). of_all z w.seen) n.stands ∙ none_of_all (w.number ∷ []) w.seen (λ k h. ap (λ (z : ℕ). own z w.seen) (sym (only k w.number h)) ∙ n.silent)
