-- A seat with all parts: no other has one, and it stands for all numbers.
use Rattle.std.proofs.Common.{false, true, ◌≡◌, ◌≢◌, ℕ, zero, suc, ◌+◌, ◌≤◌, List, [], ◌∷◌, length, sym, refl, ap, ◌∙◌, subst, inl, inr, ◌⊎◌, ⊎_elim, arith, eq-eqb, ne_eqb, lt_of_not-le}
use mathlib.Core.Option.{some, some-injective, some-ne-none}
use mathlib.Core.Logic.{dite}
use native.Mathlib.Decide.{ℕ_discrete, dec_le}
use lib.ListN.{get_elem?}
use Rattle.atomic_table.specs.Table.{State}
use Rattle.ifl_base.specs.declared.limits.TheConstants.{PART}
use Rattle.ifl_ringcore.specs.declared.history.Entry.{Entry}
use Rattle.ifl_ringcore.specs.declared.history.Meaning.{Meaning}
use Rattle.ifl_ringcore.specs.History.{own}
use Rattle.ifl_ring.specs.declared.place.Key.{Key}
use Rattle.ifl_ring.specs.declared.place.Place.{Place}
use Rattle.ifl_ring.specs.declared.view.View.{View}
use Rattle.ifl_ring.specs.Seats.{Has, AreAmong, IsWholeAmong}
use Rattle.ifl_ring.specs.Law.{parts, Lawful}

pub bare : {A : Type 0} (k : ℕ) (xs : List ℕ) → xs ≡ [] → Has k xs → A
bare k [] h t = absurd (let f : false ≡ true = t in cc)
bare k (x ∷ xs) h t = absurd (let g = h in cc)

pub part_le : {O : Type 0} (vs : List (View O)) (i : ℕ) (v : View O) → get_elem? vs i ≡ some v → v.known.part ≤ parts vs
part_le {O = O} [] i v e = absurd (some-ne-none v (sym e))
part_le {O = O} (x ∷ xs) zero v e = let a : x.known.part ≡ v.known.part = ap (λ (z : View O). z.known.part) (some-injective x v e) in omega arith
part_le {O = O} (x ∷ xs) (suc i) v e = let t = part_le xs i v e in omega arith

pub two_parts : {O : Type 0} (vs : List (View O)) (i j : ℕ) (v w : View O) → i ≢ j → get_elem? vs i ≡ some v → get_elem? vs j ≡ some w → v.known.part + w.known.part ≤ parts vs
two_parts {O = O} [] i j v w ne a b = absurd (some-ne-none v (sym a))
two_parts {O = O} (x ∷ xs) zero zero v w ne a b = absurd (ne refl)
two_parts {O = O} (x ∷ xs) zero (suc j) v w ne a b = let e : x.known.part ≡ v.known.part = ap (λ (z : View O). z.known.part) (some-injective x v a) in let t = part_le xs j w b in omega arith
two_parts {O = O} (x ∷ xs) (suc i) zero v w ne a b = let e : x.known.part ≡ w.known.part = ap (λ (z : View O). z.known.part) (some-injective x w b) in let t = part_le xs i v a in omega arith
two_parts {O = O} (x ∷ xs) (suc i) (suc j) v w ne a b = let t = two_parts xs i j v w (λ e. ne (ap suc e)) a b in omega arith

own_behind : (k : ℕ) (e : Entry) (es : List Entry) → own k (e ∷ es) ≡ [] → own k es ≡ []
own_behind k e es h = dite (ℕ_discrete e.seat k)
    (λ same. absurd (let f : e ∷ own k es ≡ [] = rw (eq-eqb e.seat k same) at h in cc))
    (λ ne. rw (ne_eqb e.seat k ne) at h)

own_first : (e : Entry) (es : List Entry) (A : Type 0) → own e.seat (e ∷ es) ≡ [] → A
own_first e es A h = absurd (let f : e ∷ own e.seat es ≡ [] = rw (eq-eqb e.seat e.seat refl) at h in cc)

-- a history all of whose seats are among those that are stood for
pub among : (stands : List ℕ) (es : List Entry) → ((k : ℕ) → (own k es ≡ []) ⊎ Has k stands) → AreAmong stands es
among stands [] h = tt
among stands (e ∷ es) h = (
  ⊎_elim (λ (none_ : own e.seat (e ∷ es) ≡ []). own_first e es (Has e.seat stands) none_) (λ (in_ : Has e.seat stands). in_) (h e.seat),
  among stands es (λ k. ⊎_elim (λ (none_ : own k (e ∷ es) ≡ []). inl (own_behind k e es none_)) (λ (in_ : Has k stands). inr in_) (h k)),
)

module _ {I D O : Type 0} (meaning : I → Meaning) (origin : D → O) (settled full : D → Type 0) (stands_for : D → List Meaning → Type 0) where
  -- beside a seat with all parts no other stands for a number
  pub others_spent : (key : Key O) (s : State (Place I D) (View O)) (l : Lawful meaning origin settled full stands_for key s) (id : ℕ) (v : View O) → get_elem? s.views id ≡ some v → v.known.part ≡ PART
      → (k : ℕ) (x : View O) → k ≢ id → get_elem? s.views k ≡ some x → x.known.stands ≡ []
  others_spent key s l id v at all k x ne e = let b = two_parts s.views k id x v ne e at in let c = l.all_parts in (l.each k x e).spent (omega arith)

  -- each number without entries, or one for which that seat stands
  pub stood_by : (key : Key O) (s : State (Place I D) (View O)) (l : Lawful meaning origin settled full stands_for key s) (id : ℕ) (v : View O) → get_elem? s.views id ≡ some v → v.known.part ≡ PART
      → (k : ℕ) → (own k l.log ≡ []) ⊎ Has k v.known.stands
  stood_by key s l id v at all k = dite (dec_le (length s.views) k)
      (λ out. inl (l.fresh k out).0)
      (λ inside. ⊎_elim (λ none_. inl none_)
      (λ q. dite (ℕ_discrete (l.keeper k) id)
      (λ here. let x_is : q.0 ≡ v = some-injective q.0 v (sym q.1 ∙ (ap (get_elem? s.views) here ∙ at)) in inr (subst (λ (z : View O). Has k z.known.stands) x_is q.2))
      (λ away. bare k q.0.known.stands (others_spent key s l id v at all (l.keeper k) q.0 away q.1) q.2))
      (l.stood k (lt_of_not-le inside)))

  pub whole_log : (key : Key O) (s : State (Place I D) (View O)) (l : Lawful meaning origin settled full stands_for key s) (id : ℕ) (v : View O) → get_elem? s.views id ≡ some v → IsWholeAmong v.known l.log
  whole_log key s l id v at all = among v.known.stands l.log (stood_by key s l id v at all)
