-- The entries of a joined seat are a merge of those of the two.
use Rattle.std.proofs.Common.{Bool, true, false, cond, ◌||◌, ◌≡◌, ℕ, List, [], ◌∷◌, ◌++◌, append-nil, sym, refl, ap, ◌∙◌, subst, inl, inr, ⊎_elim}
use Rattle.ifl_ringcore.specs.declared.history.Entry.{Entry}
use Rattle.ifl_ringcore.specs.History.{own}
use Rattle.ifl_ring.specs.declared.view.Known.{Known}
use Rattle.ifl_ring.specs.Seats.{has, Begins, Complete, of_all, events, Joined}
use Rattle.ifl_ring.specs.Merges.{IsMerge}
use Rattle.ifl_ring.proofs.Calls.{of_all_append, none_of_all}
use Rattle.ifl_ring.proofs.Closing.{append_none, own_append}
use Rattle.ifl_ring.proofs.Tallying.{has-append}
use Rattle.ifl_ring.proofs.Trails.{bool_cases}

-- the entries of the seats that pass a test
abbrev those : (ℕ → Bool) → List Entry → List Entry
those p [] = []
those p (e ∷ es) = cond (p e.seat) (e ∷ those p es) (those p es)

those-merge : (p q r : ℕ → Bool) → ((k : ℕ) → r k ≡ (p k || q k)) → ((k : ℕ) → p k ≡ true → q k ≡ true → ⊥) → (es : List Entry) → IsMerge (those p es) (those q es) (those r es)
those-merge p q r either apart [] = (refl, refl)
those-merge p q r either apart (e ∷ es) = let rec : IsMerge (those p es) (those q es) (those r es) = those-merge p q r either apart es in
    ⊎_elim
    (λ (t : p e.seat ≡ true). ⊎_elim
    (λ (u : q e.seat ≡ true). absurd (apart e.seat t u))
    (λ (u : q e.seat ≡ false). let w : r e.seat ≡ true = either e.seat ∙ (λ i. t i || q e.seat) in rw (t, u, w) (inl (those p es, refl, rec)))
    (bool_cases (q e.seat)))
    (λ (t : p e.seat ≡ false). ⊎_elim
    (λ (u : q e.seat ≡ true). let w : r e.seat ≡ true = either e.seat ∙ (λ i. t i || u i) in rw (t, u, w) (inr (those q es, refl, rec)))
    (λ (u : q e.seat ≡ false). let w : r e.seat ≡ false = either e.seat ∙ (λ i. t i || u i) in rw (t, u, w) rec)
    (bool_cases (q e.seat)))
    (bool_cases (p e.seat))

of_all-those : (ks : List ℕ) (es : List Entry) → of_all ks es ≡ those (λ k. has k ks) es
of_all-those ks [] = refl
of_all-those ks (e ∷ es) = (λ i. cond (has e.seat ks) (e ∷ of_all-those ks es i) (of_all-those ks es i))

-- the entries of numbers that have no further ones
of_all-begun : (log seen : List Entry) (ks : List ℕ) → Begins log seen → Complete log ks seen → of_all ks log ≡ of_all ks seen
of_all-begun log seen ks (more, is) whole = ap (of_all ks) (sym is) ∙ of_all_append ks seen more
    ∙ ap (λ (z : List Entry). of_all ks seen ++ z) (none_of_all ks more (λ k h. append_none (own k seen) (own k more) (sym (own_append k seen more) ∙ ap (own k) is ∙ whole k h)))
    ∙ append-nil (of_all ks seen)

-- what two seats had made is what the seat made that they were joined to
pub merge-joined : (size : ℕ) (v w x : Known) → Joined size v w x → IsMerge (events v) (events w) (events x)
merge-joined size v w x j =
    let a : of_all v.stands x.seen ≡ events v = of_all-begun x.seen v.seen v.stands j.first j.first_whole in
    let b : of_all w.stands x.seen ≡ events w = of_all-begun x.seen w.seen w.stands j.second j.second_whole in
    let c : events x ≡ of_all (v.stands ++ w.stands) x.seen = ap (λ (z : Known). of_all z.stands x.seen) j.is in
    let m : IsMerge (those (λ k. has k v.stands) x.seen) (those (λ k. has k w.stands) x.seen) (those (λ k. has k (v.stands ++ w.stands)) x.seen) = those-merge (λ k. has k v.stands) (λ k. has k w.stands) (λ k. has k (v.stands ++ w.stands)) (λ k. has-append k v.stands w.stands) j.apart x.seen in
    subst (λ (z : List Entry × List Entry × List Entry). IsMerge z.0 z.1 z.2)
    (λ i. ((sym (of_all-those v.stands x.seen) ∙ a) i, (sym (of_all-those w.stands x.seen) ∙ b) i, (sym (of_all-those (v.stands ++ w.stands) x.seen) ∙ sym c) i)) m
