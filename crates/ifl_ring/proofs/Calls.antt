-- What several steps of one call do together.
use Rattle.std.proofs.Common.{Bool, true, false, cond, ◌≡◌, ℕ, List, [], ◌∷◌, ◌++◌, append_assoc, append-nil, sym, refl, ap, ◌∙◌, subst, eq-eqb, ne_eqb}
use mathlib.Core.Logic.{dite}
use native.Mathlib.Decide.{ℕ_discrete}
use Rattle.ifl_ringcore.specs.declared.history.Entry.{Entry}
use Rattle.ifl_ring.specs.declared.view.Known.{Known}
use Rattle.ifl_ringcore.specs.History.{own}
use Rattle.ifl_ring.specs.Seats.{has, Has, AreAmong, AreOf, IsWholeAmong, saw, Moved, Made, of_all, events, Went}
use Rattle.std.proofs.Common.{inl, inr}
use Rattle.ifl_ring.proofs.Closing.{append_none, own_append}

by_test : (b : Bool) (x : Entry) (all xs ys : List Entry) → all ≡ xs ++ ys → cond b (x ∷ all) all ≡ cond b (x ∷ xs) xs ++ ys
by_test true x all xs ys e = ap (λ (z : List Entry). x ∷ z) e
by_test false x all xs ys e = e

pub of_all_append : (ks : List ℕ) (xs ys : List Entry) → of_all ks (xs ++ ys) ≡ of_all ks xs ++ of_all ks ys
of_all_append ks [] ys = refl
of_all_append ks (x ∷ xs) ys = by_test (has x.seat ks) x (of_all ks (xs ++ ys)) (of_all ks xs) (of_all ks ys) (of_all_append ks xs ys)

pub head_own : (x : Entry) (xs : List Entry) → own x.seat (x ∷ xs) ≡ [] → (A : Type 0) → A
head_own x xs h A = absurd (let f : x ∷ own x.seat xs ≡ [] = rw (eq-eqb x.seat x.seat refl) at h in cc)

pub tail_own : (k : ℕ) (x : Entry) (xs : List Entry) → own k (x ∷ xs) ≡ [] → own k xs ≡ []
tail_own k x xs h = dite (ℕ_discrete x.seat k)
    (λ e. absurd (let f : x ∷ own k xs ≡ [] = rw (eq-eqb x.seat k e) at h in cc))
    (λ ne. rw (ne_eqb x.seat k ne) at h)

-- where no entry of a number stands, none of all does
pub none_of_all : (ks : List ℕ) (xs : List Entry) → ((k : ℕ) → Has k ks → own k xs ≡ []) → of_all ks xs ≡ []
none_of_all ks [] h = refl
none_of_all ks (x ∷ xs) h = let rec = none_of_all ks xs (λ k t. tail_own k x xs (h k t)) in
    elim (has x.seat ks) as (λ b. (has x.seat ks ≡ b) → cond b (x ∷ of_all ks xs) (of_all ks xs) ≡ []) [
      | true ↦ λ e. head_own x xs (h x.seat e) (x ∷ of_all ks xs ≡ [])
      | false ↦ λ e. rec
    ] refl

among_more : (stands : List ℕ) (es : List Entry) (e : Entry) → AreAmong stands es → Has e.seat stands → AreAmong stands (es ++ e ∷ [])
among_more stands [] e all last = (last, tt)
among_more stands (x ∷ xs) e all last = (all.0, among_more stands xs e all.1 last)

of_append : (k : ℕ) (xs ys : List Entry) → AreOf k xs → AreOf k ys → AreOf k (xs ++ ys)
of_append k [] ys a b = b
of_append k (x ∷ xs) ys a b = (a.0, of_append k xs ys a.1 b)

pub made_went : (size : ℕ) (v : Known) (e : Entry) (w : Known) → Has e.seat v.stands → Made size v e w → Went size v (e ∷ []) w
made_went size v e w own' m =
    let all : List Entry = (v.seen ++ m.between) ++ e ∷ [] in
    let seen_is : w.seen ≡ all = ap (λ (z : Known). z.seen) m.is in
    let quiet : (k : ℕ) → Has k v.stands → own k m.between ≡ [] = λ k h. append_none (own k v.seen) (own k m.between) (sym (own_append k v.seen m.between) ∙ m.apart k h) in
    let mine : of_all v.stands all ≡ of_all v.stands v.seen ++ e ∷ [] =
    of_all_append v.stands (v.seen ++ m.between) (e ∷ []) ∙ (ap (λ (z : List Entry). z ++ of_all v.stands (e ∷ [])) (of_all_append v.stands v.seen m.between ∙ ap (λ (z : List Entry). of_all v.stands v.seen ++ z) (none_of_all v.stands m.between quiet) ∙ simp append-nil)
    ∙ ap (λ (z : List Entry). of_all v.stands v.seen ++ z) (let f : cond (has e.seat v.stands) (e ∷ []) [] ≡ e ∷ [] = rw own' in f)) in record {
      is = m.is ∙ ap (λ (z : List Entry). saw z v) (sym seen_is);
      begins = (m.between ++ e ∷ [], sym (append_assoc v.seen m.between (e ∷ [])) ∙ sym seen_is);
      made = ap events m.is ∙ mine;
      mine = (m.mine, tt);
      whole = subst (λ (z : Known). IsWholeAmong z z.seen) (sym m.is) (λ all. among_more v.stands (v.seen ++ m.between) e (m.whole all) own');
      legal = m.legal;
      good = m.good;
    }

pub went_on_to : (size : ℕ) (u v w : Known) (es fs : List Entry) → Went size u es v → Went size v fs w → Went size u (es ++ fs) w
went_on_to size u v w es fs a b = record {
  is = b.is ∙ ap (λ (z : Known). saw w.seen z) a.is;
  begins = (a.begins.0 ++ b.begins.0, sym (append_assoc u.seen a.begins.0 b.begins.0) ∙ ap (λ (z : List Entry). z ++ b.begins.0) a.begins.1 ∙ b.begins.1);
  made = b.made ∙ ap (λ (z : List Entry). z ++ fs) a.made ∙ append_assoc (events u) es fs;
  mine = of_append u.number es fs a.mine (subst (λ (z : Known). AreOf z.number fs) a.is b.mine);
  whole = b.whole;
  legal = b.legal;
  good = b.good;
}

pub then : (size : ℕ) (u v w : Known) (es : List Entry) → Moved size u v → Went size v es w → (fs : List Entry) × Went size u fs w
then size u v w es (inl e) t = (es, subst (λ (z : Known). Went size z es w) (sym e) t)
then size u v w es (inr x) t = (x.0 ++ es, went_on_to size u v w x.0 es x.1 t)
