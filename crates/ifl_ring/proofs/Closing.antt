-- What the one whole seat knows of the ring.
use Rattle.std.proofs.Common.{◌≡◌, ℕ, zero, suc, ◌<◌, List, [], ◌∷◌, ◌++◌, length, sym, refl, ap, ◌∙◌, subst, ◌⊎◌, ⊎_elim, arith, append-nil, eq-eqb, ne_eqb, lt_of_not-le}
use Rattle.std.specs.Prelude.{Option, Some, None}
use mathlib.Core.Option.{some, some-injective}
use mathlib.Core.Logic.{dite}
use native.Mathlib.Decide.{ℕ_discrete, dec_le}
use lib.ListN.{get_elem?}
use Rattle.atomic_table.specs.Table.{State}
use Rattle.ifl_ringcore.specs.declared.history.Meaning.{Meaning}
use Rattle.ifl_ringcore.specs.declared.history.Entry.{Entry}
use Rattle.ifl_ring.specs.declared.view.View.{View}
use Rattle.ifl_ring.specs.declared.place.Place.{Place}
use Rattle.ifl_ring.specs.declared.place.Key.{Key}
use Rattle.ifl_ringcore.specs.State.{Reservation, Consumer, Role, reservation_of, consumer_of, role_of, free, first_state}
use Rattle.ifl_ringcore.specs.History.{state_after, own}
use Rattle.ifl_ring.specs.Seats.{Has}
use Rattle.ifl_ring.specs.Law.{Lawful, IsAtRest}
use Rattle.ifl_ring.proofs.Wholes.{bare, others_spent, stood_by}
use Rattle.ifl_base.specs.declared.limits.TheConstants.{PART}

pub append_none : {A : Type 0} (xs ys : List A) → xs ++ ys ≡ xs → ys ≡ []
append_none [] ys e = e
append_none (x ∷ xs) ys e = append_none xs ys (let f : x ∷ (xs ++ ys) ≡ x ∷ xs = e in cc)

empty_tail : {A : Type 0} (xs ys : List A) → xs ++ ys ≡ [] → ys ≡ []
empty_tail [] ys e = e
empty_tail (x ∷ xs) ys e = absurd (let f : x ∷ (xs ++ ys) ≡ [] = e in cc)

pub own_append : (k : ℕ) (xs ys : List Entry) → own k (xs ++ ys) ≡ own k xs ++ own k ys
own_append k [] ys = refl
own_append k (x ∷ xs) ys = dite (ℕ_discrete x.seat k)
    (λ e. rw (eq-eqb x.seat k e) (ap (λ (z : List Entry). x ∷ z) (own_append k xs ys)))
    (λ ne. rw (ne_eqb x.seat k ne) (own_append k xs ys))

none_own : (xs : List Entry) → ((k : ℕ) → own k xs ≡ []) → xs ≡ []
none_own [] h = refl
none_own (x ∷ xs) h = absurd (let f : x ∷ own x.seat xs ≡ [] = rw (eq-eqb x.seat x.seat refl) at (h x.seat) in cc)

no_holds : (hs : List Reservation) → ((k : ℕ) → reservation_of k hs ≡ None) → hs ≡ []
no_holds [] h = refl
no_holds (x ∷ xs) h = absurd (let f : Some x ≡ None = rw (eq-eqb x.seat x.seat refl) at (h x.seat) in cc)

no_drains : (o : Option Consumer) → ((k : ℕ) → consumer_of k o ≡ None) → o ≡ None
no_drains None h = refl
no_drains (Some d) h = absurd (let f : Some d ≡ None = rw (eq-eqb d.seat d.seat refl) at (h d.seat) in cc)

there : {A : Type 0} (l : List A) (i : ℕ) → i < length l → (a : A) × (get_elem? l i ≡ some a)
there [] i h = absurd (omega arith)
there (x ∷ xs) zero h = (x, refl)
there (x ∷ xs) (suc i) h = there xs i (omega arith)

module _ {I D O : Type 0} (meaning : I → Meaning) (origin : D → O) (settled full : D → Type 0) (stands_for : D → List Meaning → Type 0) where
  abbrev Law : Key O → State (Place I D) (View O) → Type 0
  Law = Lawful meaning origin settled full stands_for

  pub closes : (key : Key O) (s : State (Place I D) (View O)) (l : Law key s) (id : ℕ) (v : View O) → get_elem? s.views id ≡ some v → IsAtRest v.known → v.told ≡ [] → v.known.part ≡ PART
      → (l.log ≡ v.known.seen) × (l.now.reservations ≡ []) × (l.now.consumer ≡ None) × ((k : ℕ) → (own k l.log ≡ []) ⊎ Has k v.known.stands)
  closes key s l id v at rest still all =
      let t = l.each id v at in let nm = t.named rest.named in
      let spent' = others_spent meaning origin settled full stands_for key s l id v at all in
      let idle : (k : ℕ) → role_of k l.now ≡ free = λ k. dite (dec_le (length s.views) k)
      (λ out. (l.fresh k out).1)
      (λ inside. dite (ℕ_discrete k id)
      (λ e. ap (λ (z : ℕ). role_of z l.now) e ∙ (nm.1 ∙ ap (λ (z : ℕ). role_of z (state_after first_state v.known.seen)) (sym nm.0)) ∙ rest.role)
      (λ ne. let x = there s.views k (lt_of_not-le inside) in (l.each k x.0 x.1).unnamed (spent' k x.0 ne x.1))) in
      let seen' = t.seen in
      let mine : (k : ℕ) → own k seen'.0 ≡ [] = λ k. let split : own k l.log ≡ own k v.known.seen ++ own k seen'.0 = ap (own k) (sym seen'.1) ∙ own_append k v.known.seen seen'.0 in dite (dec_le (length s.views) k)
      (λ out. empty_tail (own k v.known.seen) (own k seen'.0) (sym split ∙ (l.fresh k out).0))
      (λ inside. ⊎_elim (λ none_. empty_tail (own k v.known.seen) (own k seen'.0) (sym split ∙ none_))
      (λ q. dite (ℕ_discrete (l.keeper k) id)
      (λ here. let x_is : q.0 ≡ v = some-injective q.0 v (sym q.1 ∙ (ap (get_elem? s.views) here ∙ at)) in
      append_none (own k v.known.seen) (own k seen'.0) (sym split ∙ t.complete still k (subst (λ (z : View O). Has k z.known.stands) x_is q.2)))
      (λ away. bare k q.0.known.stands (spent' (l.keeper k) q.0 away q.1) q.2))
      (l.stood k (lt_of_not-le inside))) in
      let no_rest = none_own seen'.0 mine in (
        sym seen'.1 ∙ ap (λ (z : List Entry). v.known.seen ++ z) no_rest ∙ simp append-nil,
        no_holds l.now.reservations (λ k. ap (λ (z : Role). z.0) (idle k)),
        no_drains l.now.consumer (λ k. ap (λ (z : Role). z.1) (idle k)),
        stood_by meaning origin settled full stands_for key s l id v at all,
      )
