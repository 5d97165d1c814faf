-- The steps of a turnstile keep its rule.
use Rattle.std.proofs.Common.{◌≡◌, ℕ, zero, suc, ◌+◌, ◌-◌, ◌<◌, ◌≤◌, ◌≢◌, ◌⊎◌, inl, inr, ⊎_elim, Bool, true, false, eqb, List, [], ◌∷◌, ◌++◌, length, set, get_or, sym, refl, ap, ◌∙◌, subst, arith, length-set, length-append, get_or-set_same, ◌/◌}
use Rattle.std.proofs.Math.Nat.{div-le_self}
use mathlib.Core.Option.{some, none, some-injective, some-ne-none}
use mathlib.Core.Option as maybe
use lib.ListN.{get_elem?}
use prog.Atomic.{either}
use Rattle.std.specs.Prelude.{Option, Some, None}
use Rattle.atomic_table.specs.Table.{State, Act, step, keeps, takes, gives, Valid, carried_after, stepped, Allows, Splits, Joins, Final, Seen}
use Rattle.atomic_table.proofs.Lists.{at_set, set_here, exchanged}
use Rattle.ifl_base.specs.declared.limits.TheConstants.{PART}
use Rattle.ifl_desc.specs.declared.turns.TurnView.{TurnView}
use Rattle.ifl_desc.specs.Turning.{parts, Mine, IsHome, IsHomeWhereFree, InPhase, Turning, tried, gave, left_half, right_half, both_parts, looked_at, nobody}

at_below : {A : Type 0} (l : List A) (i : ℕ) (a : A) → get_elem? l i ≡ some a → i < length l
at_below [] i a e = absurd (some-ne-none a (sym e))
at_below (x ∷ l) zero a e = omega arith
at_below (x ∷ l) (suc i) a e = let h = at_below l i a e in omega arith

parts_set : {E O : Type 0} (vs : List (TurnView E O)) (id : ℕ) (v w : TurnView E O) → get_elem? vs id ≡ some v → w.part ≡ v.part → parts (set vs id w) ≡ parts vs
parts_set [] id v w e same = refl
parts_set {E} {O} (x ∷ vs) zero v w e same = ap (λ (z : ℕ). z + parts vs) (same ∙ ap (λ (z : TurnView E O). z.part) (sym (some-injective x v e)))
parts_set (x ∷ vs) (suc id) v w e same = ap (λ (z : ℕ). x.part + z) (parts_set vs id v w e same)

true-false : {A : Type 0} → true ≡ false → A
true-false e = absurd (cc)

abbrev or_else : {O : Type 0} → O → Option O → O
or_else d None = d
or_else d (Some x) = x

pub some_same : {O : Type 0} (x y : O) → Some x ≡ Some y → x ≡ y
some_same x y e = ap (or_else x) e

module _ {E O : Type 0} (origin : E → O) (o : O) where
  abbrev St : Type 0
  St = State (Option E) (TurnView E O)

  is_free : (ws : List ℕ) (homes : List (maybe.Option (Option E))) (held : ℕ) → InPhase origin o ws homes held → get_or ws 0 0 ≡ 0 → (held ≡ 0) × IsHome origin o homes
  is_free ws homes zero p e = (refl, p.1)
  is_free ws homes (suc j) p e = absurd (let w = p.0 in omega arith)

  is_taken : (ws : List ℕ) (homes : List (maybe.Option (Option E))) (held : ℕ) → InPhase origin o ws homes held → get_or ws 0 0 ≢ 0 → get_or ws 0 0 ≡ 1
  is_taken ws homes zero p n = absurd (n p.0)
  is_taken ws homes (suc j) p n = p.0

  -- the value is home exactly where the word is 0
  pub home_where_free : (s : St) → Turning origin o s → IsHomeWhereFree origin o s
  home_where_free s t = of_phase t.held t.phase
    where
      of_phase : (held : ℕ) → InPhase origin o s.words s.homes held → IsHomeWhereFree origin o s
      of_phase zero p = ((λ _. p.1), (λ _. p.0))
      of_phase (suc j) p = ((λ e. absurd (let w = p.0 in omega arith)), (λ h. absurd (some-ne-none (Some h.0) (some-injective (some (Some h.0)) none (sym h.1 ∙ p.1)))))

  abbrev Goes : St → ℕ → Mine E O → (ℕ → Mine E O → Type 0) → ℕ → Type 0
  Goes s id me then x = (w : TurnView E O) × (a : Act (Option E)) × Valid s.homes me.1 a × Turning origin o (stepped s 0 x id me.1 w a) × then (get_or s.words 0 0) (w, carried_after me.1 a)

  pub tries : (slots id : ℕ) (me : Mine E O) → me.0.holds ≡ false → 0 < me.0.part → Allows (Turning origin o) slots id me 0 (λ n. either (eqb n 0) 1 n) (tried origin (step slots 0 0 1 none) me)
  tries slots id me lacks pos s t size at bound =
      let then = tried origin (step slots 0 0 1 none) me in
      let x : ℕ = get_or s.words 0 0 in
      exchanged x 0 1 (Goes s id me then)
      (λ hit. let f = is_free s.words s.homes t.held t.phase hit in
      let e : E = f.1.0 in
      let w : TurnView E O = record { part = me.0.part; holds = true; turns = me.0.turns + 1; looks = me.0.looks; origin = me.0.origin; found = Some e; left = me.0.left } in
      let free : t.held ≡ 0 = f.0 in
      let n = t.count in let b = at_below s.views id me.0 at in (
        w,
        takes 0 (Some e),
        f.1.1,
        record {
          held = suc id;
          count = length-set s.words 0 1 ∙ t.count;
          phase = (get_or-set_same s.words 0 1 0 (omega arith), set_here s.homes 0 none (at_below s.homes 0 (some (Some e)) f.1.1));
          holds = λ j v a h. ⊎_elim (λ (p : (j ≡ id) × (w ≡ v)). let g = p.0 in (omega arith, subst (λ (z : TurnView E O). 0 < z.part) p.1 pos))
              (λ (p : (j ≢ id) × (get_elem? s.views j ≡ some v)). let g : t.held ≡ suc j = (t.holds j v p.1 h).0 in absurd (omega arith)) (at_set s.views id j w v a);
          lacks = λ j v a h. ⊎_elim (λ (p : (j ≡ id) × (w ≡ v)). true-false (ap (λ (z : TurnView E O). z.holds) p.1 ∙ h))
              (λ (p : (j ≢ id) × (get_elem? s.views j ≡ some v)). λ z. p.0 (omega arith)) (at_set s.views id j w v a);
          within = (let l : length (set s.views id w) ≡ length s.views = length-set s.views id w in omega arith);
          whole = parts_set s.views id me.0 w at refl ∙ t.whole;
          origins = λ j v a h. ⊎_elim (λ (p : (j ≡ id) × (w ≡ v)). ap (λ (z : TurnView E O). z.origin) (sym p.1) ∙ t.origins id me.0 at pos)
              (λ (p : (j ≢ id) × (get_elem? s.views j ≡ some v)). t.origins j v p.1 h) (at_set s.views id j w v a);
        },
        ((λ _. (e, refl, refl, t.origins id me.0 at pos ∙ ap Some (sym f.1.2))), (λ miss. absurd (miss hit))),
      ))
      (λ miss. let w : TurnView E O = looked_at me.0 in let P : List ℕ → Type 0 = λ ws. Turning origin o record { words = ws; homes = s.homes; views = set s.views id w } in (
        w,
        keeps,
        tt,
        subst P (sym (same_words s.words)) record {
          held = t.held;
          count = t.count;
          phase = t.phase;
          holds = λ j v a h. ⊎_elim (λ (p : (j ≡ id) × (w ≡ v)). true-false (sym h ∙ ap (λ (z : TurnView E O). z.holds) (sym p.1) ∙ lacks))
              (λ (p : (j ≢ id) × (get_elem? s.views j ≡ some v)). t.holds j v p.1 h) (at_set s.views id j w v a);
          lacks = λ j v a h. ⊎_elim (λ (p : (j ≡ id) × (w ≡ v)). λ z. t.lacks id me.0 at lacks (z ∙ ap suc p.0))
              (λ (p : (j ≢ id) × (get_elem? s.views j ≡ some v)). t.lacks j v p.1 h) (at_set s.views id j w v a);
          within = (let l : length (set s.views id w) ≡ length s.views = length-set s.views id w in let n = t.within in omega arith);
          whole = parts_set s.views id me.0 w at refl ∙ t.whole;
          origins = λ j v a h. ⊎_elim (λ (p : (j ≡ id) × (w ≡ v)). ap (λ (z : TurnView E O). z.origin) (sym p.1) ∙ t.origins id me.0 at pos)
              (λ (p : (j ≢ id) × (get_elem? s.views j ≡ some v)). t.origins j v p.1 h) (at_set s.views id j w v a);
        },
        ((λ hit. absurd (miss hit)), (λ _. (is_taken s.words s.homes t.held t.phase miss, refl))),
      ))
    where
      same_words : (ws : List ℕ) → set ws 0 (get_or ws 0 0) ≡ ws
      same_words [] = refl
      same_words (w ∷ ws) = refl

  pub gives_turn : (slots id : ℕ) (me : Mine E O) (e : E) → slots ≡ 1 → me.0.holds ≡ true → me.1 ≡ (0, Some e) ∷ [] → me.0.origin ≡ Some (origin e) → Allows (Turning origin o) slots id me 0 (λ _. 0) (λ _. gave (step slots 0 0 0 none) me 0)
  gives_turn slots id me e one held slot from s t size at bound =
      let mine = t.holds id me.0 at held in
      let w : TurnView E O = record { part = me.0.part; holds = false; turns = me.0.turns; looks = me.0.looks; origin = me.0.origin; found = me.0.found; left = Some e } in
      let P : List (ℕ × Option E) → Type 0 = λ c. Goes s id (me.0, c) (λ _. gave (step slots 0 0 0 none) (me.0, c) 0) 0 in
      let n = t.count in
      let known : origin e ≡ o = some_same (origin e) o (sym from ∙ t.origins id me.0 at mine.1) in
      subst P (sym slot) (
        w,
        gives,
        tt,
        record {
          held = 0;
          count = length-set s.words 0 0 ∙ t.count;
          phase = (get_or-set_same s.words 0 0 0 (omega arith), (e, set_here s.homes 0 (some (Some e)) (omega arith), known));
          holds = λ j v a h. ⊎_elim (λ (p : (j ≡ id) × (w ≡ v)). true-false (sym h ∙ ap (λ (z : TurnView E O). z.holds) (sym p.1)))
              (λ (p : (j ≢ id) × (get_elem? s.views j ≡ some v)). let g : t.held ≡ suc j = (t.holds j v p.1 h).0 in let m : t.held ≡ suc id = mine.0 in absurd (p.0 (omega arith))) (at_set s.views id j w v a);
          lacks = λ j v a h z. absurd (omega arith);
          within = omega arith;
          whole = parts_set s.views id me.0 w at refl ∙ t.whole;
          origins = λ j v a h. ⊎_elim (λ (p : (j ≡ id) × (w ≡ v)). ap (λ (z : TurnView E O). z.origin) (sym p.1) ∙ t.origins id me.0 at mine.1)
              (λ (p : (j ≢ id) × (get_elem? s.views j ≡ some v)). t.origins j v p.1 h) (at_set s.views id j w v a);
        },
        (refl, refl),
      )

at_end : {A : Type 0} (l : List A) (a b : A) (j : ℕ) → get_elem? (l ++ a ∷ []) j ≡ some b → (get_elem? l j ≡ some b) ⊎ ((j ≡ length l) × (a ≡ b))
at_end [] a b zero e = inr (refl, some-injective a b e)
at_end [] a b (suc j) e = absurd (some-ne-none b (sym e))
at_end (x ∷ l) a b zero e = inl e
at_end (x ∷ l) a b (suc j) e = ⊎_elim (λ (h : get_elem? l j ≡ some b). inl h) (λ (h : (j ≡ length l) × (a ≡ b)). let g = h.0 in inr (omega arith, h.1)) (at_end l a b j e)

parts_change : {E O : Type 0} (vs : List (TurnView E O)) (id : ℕ) (v w : TurnView E O) → get_elem? vs id ≡ some v → parts (set vs id w) + v.part ≡ parts vs + w.part
parts_change [] id v w e = absurd (some-ne-none v (sym e))
parts_change (x ∷ vs) zero v w e = let s : x.part ≡ v.part = ap (λ (z : TurnView _ _). z.part) (some-injective x v e) in omega arith
parts_change (x ∷ vs) (suc id) v w e = let i = parts_change vs id v w e in omega arith

parts_more : {E O : Type 0} (vs : List (TurnView E O)) (w : TurnView E O) → parts (vs ++ w ∷ []) ≡ parts vs + w.part
parts_more [] w = omega arith
parts_more (x ∷ vs) w = let i = parts_more vs w in omega arith

part_within : {E O : Type 0} (vs : List (TurnView E O)) (j : ℕ) (v : TurnView E O) → get_elem? vs j ≡ some v → v.part ≤ parts vs
part_within [] j v e = absurd (some-ne-none v (sym e))
part_within (x ∷ vs) zero v e = let s : x.part ≡ v.part = ap (λ (z : TurnView _ _). z.part) (some-injective x v e) in omega arith
part_within (x ∷ vs) (suc j) v e = let i = part_within vs j v e in omega arith

-- two seats have no more than the sum
two_parts : {E O : Type 0} (vs : List (TurnView E O)) (i j : ℕ) (v w : TurnView E O) → i ≢ j → get_elem? vs i ≡ some v → get_elem? vs j ≡ some w → v.part + w.part ≤ parts vs
two_parts [] i j v w n e f = absurd (some-ne-none v (sym e))
two_parts (x ∷ vs) zero zero v w n e f = absurd (n refl)
two_parts (x ∷ vs) zero (suc j) v w n e f = let s : x.part ≡ v.part = ap (λ (z : TurnView _ _). z.part) (some-injective x v e) in let i = part_within vs j w f in omega arith
two_parts (x ∷ vs) (suc i) zero v w n e f = let s : x.part ≡ w.part = ap (λ (z : TurnView _ _). z.part) (some-injective x w f) in let i = part_within vs i v e in omega arith
two_parts (x ∷ vs) (suc i) (suc j) v w n e f = let r = two_parts vs i j v w (λ z. n (ap suc z)) e f in omega arith

at_some : {A : Type 0} (l : List A) (i : ℕ) → i < length l → (a : A) × (get_elem? l i ≡ some a)
at_some [] i h = absurd (omega arith)
at_some (x ∷ l) zero h = (x, refl)
at_some (x ∷ l) (suc i) h = at_some l i (omega arith)

module _ {E O : Type 0} (origin : E → O) (o : O) where
  pub halves : (id : ℕ) (v : TurnView E O) → v.holds ≡ false → 2 ≤ v.part → Splits (Turning origin o) id v (left_half v) (right_half v)
  halves id v lacks two s t at =
      let l : TurnView E O = left_half v in let r : TurnView E O = right_half v in let vs : List (TurnView E O) = set s.views id l in
      let long : length vs ≡ length s.views = length-set s.views id l in
      let w = t.within in
      let half : 0 < v.part = omega arith in
      record {
        held = t.held;
        count = t.count;
        phase = t.phase;
        holds = λ j u a h. ⊎_elim (λ (b : get_elem? vs j ≡ some u). ⊎_elim (λ (p : (j ≡ id) × (l ≡ u)). true-false (sym h ∙ ap (λ (z : TurnView E O). z.holds) (sym p.1) ∙ lacks)) (λ (p : (j ≢ id) × (get_elem? s.views j ≡ some u)). t.holds j u p.1 h) (at_set s.views id j l u b))
            (λ (b : (j ≡ length vs) × (r ≡ u)). true-false (sym h ∙ ap (λ (z : TurnView E O). z.holds) (sym b.1))) (at_end vs r u j a);
        lacks = λ j u a h. ⊎_elim (λ (b : get_elem? vs j ≡ some u). ⊎_elim (λ (p : (j ≡ id) × (l ≡ u)). λ z. t.lacks id v at lacks (z ∙ ap suc p.0)) (λ (p : (j ≢ id) × (get_elem? s.views j ≡ some u)). t.lacks j u p.1 h) (at_set s.views id j l u b))
            (λ (b : (j ≡ length vs) × (r ≡ u)). λ z. let g = b.0 in absurd (omega arith)) (at_end vs r u j a);
        within = (let m = length-append vs (r ∷ []) in omega arith);
        whole = (let a = parts_more vs r in let b = parts_change s.views id v l at in let c = t.whole in let d : l.part + r.part ≡ v.part = half_sum v.part in omega arith);
        origins = λ j u a h. ⊎_elim (λ (b : get_elem? vs j ≡ some u). ⊎_elim (λ (p : (j ≡ id) × (l ≡ u)). ap (λ (z : TurnView E O). z.origin) (sym p.1) ∙ t.origins id v at half) (λ (p : (j ≢ id) × (get_elem? s.views j ≡ some u)). t.origins j u p.1 h) (at_set s.views id j l u b))
            (λ (b : (j ≡ length vs) × (r ≡ u)). ap (λ (z : TurnView E O). z.origin) (sym b.1) ∙ t.origins id v at half) (at_end vs r u j a);
      }
    where
      half_sum : (n : ℕ) → (n - n / 2) + n / 2 ≡ n
      half_sum n = let d = div-le_self n 2 in omega arith

  pub adds : (id : ℕ) (v : TurnView E O) (other : ℕ) (w : TurnView E O) → v.holds ≡ false → 0 < v.part → w.holds ≡ false → Joins (Turning origin o) id v other w (both_parts v w) nobody
  adds id v other w lacks pos lacks' s t at two at' =
      let u : TurnView E O = both_parts v w in let vs : List (TurnView E O) = set s.views id u in
      let here : get_elem? s.views other ≡ some w = ⊎_elim (λ (p : (other ≡ id) × (u ≡ w)). absurd (two p.0)) (λ (p : (other ≢ id) × (get_elem? s.views other ≡ some w)). p.1) (at_set s.views id other u w at') in
      record {
        held = t.held;
        count = t.count;
        phase = t.phase;
        holds = λ j x a h. ⊎_elim (λ (p : (j ≡ other) × (nobody ≡ x)). true-false (sym h ∙ ap (λ (z : TurnView E O). z.holds) (sym p.1)))
            (λ (p : (j ≢ other) × (get_elem? vs j ≡ some x)). ⊎_elim (λ (q : (j ≡ id) × (u ≡ x)). true-false (sym h ∙ ap (λ (z : TurnView E O). z.holds) (sym q.1) ∙ lacks)) (λ (q : (j ≢ id) × (get_elem? s.views j ≡ some x)). t.holds j x q.1 h) (at_set s.views id j u x p.1)) (at_set vs other j nobody x a);
        lacks = λ j x a h. ⊎_elim (λ (p : (j ≡ other) × (nobody ≡ x)). λ z. t.lacks other w here lacks' (z ∙ ap suc p.0))
            (λ (p : (j ≢ other) × (get_elem? vs j ≡ some x)). ⊎_elim (λ (q : (j ≡ id) × (u ≡ x)). λ z. t.lacks id v at lacks (z ∙ ap suc q.0)) (λ (q : (j ≢ id) × (get_elem? s.views j ≡ some x)). t.lacks j x q.1 h) (at_set s.views id j u x p.1)) (at_set vs other j nobody x a);
        within = (let a = length-set s.views id u in let b = length-set vs other nobody in let c = t.within in omega arith);
        whole = (let a = parts_change s.views id v u at in let b = parts_change vs other w nobody at' in let c = t.whole in omega arith);
        origins = λ j x a h. ⊎_elim (λ (p : (j ≡ other) × (nobody ≡ x)). let z : 0 ≡ x.part = ap (λ (z : TurnView E O). z.part) p.1 in absurd (omega arith))
            (λ (p : (j ≢ other) × (get_elem? vs j ≡ some x)). ⊎_elim (λ (q : (j ≡ id) × (u ≡ x)). ap (λ (z : TurnView E O). z.origin) (sym q.1) ∙ t.origins id v at pos) (λ (q : (j ≢ id) × (get_elem? s.views j ≡ some x)). t.origins j x q.1 h) (at_set s.views id j u x p.1)) (at_set vs other j nobody x a);
      }

  -- a seat with every part, which does not hold the turn, leaves the value home
  pub is_home : (id : ℕ) (v : TurnView E O) (words : List ℕ) (slots : List (Option E)) → v.holds ≡ false → v.part ≡ PART → Final (Seen (Turning origin o) id v) words slots → (e : E) × (get_elem? slots 0 ≡ some (Some e)) × (origin e ≡ o)
  is_home id v words slots lacks all f = let t = f.1.0 in let p = free_phase t.held t.phase (λ j is. nobody_else j is) in (p.0, f.4 0 (Some p.0) p.1, p.2)
    where
      free_phase : (held : ℕ) → InPhase origin o f.0.words f.0.homes held → ((j : ℕ) → held ≡ suc j → ⊥) → (e : E) × (get_elem? f.0.homes 0 ≡ some (some (Some e))) × (origin e ≡ o)
      free_phase zero p n = p.1
      free_phase (suc j) p n = absurd (n j refl)

      cases : (j : ℕ) (w : TurnView E O) (b : Bool) → w.holds ≡ b → f.1.0.held ≡ suc j → get_elem? f.0.views j ≡ some w → ⊥
      cases j w false h is e = f.1.0.lacks j w e h is
      cases j w true h is e = let g = (f.1.0.holds j w e h).1 in let n : id ≢ j = (λ z. f.1.0.lacks id v f.1.1 lacks (is ∙ ap suc (sym z))) in let two = two_parts f.0.views id j v w n f.1.1 e in let c = f.1.0.whole in absurd (omega arith)

      nobody_else : (j : ℕ) → f.1.0.held ≡ suc j → ⊥
      nobody_else j is = let w = f.1.0.within in let x = at_some f.0.views j (omega arith) in cases j x.0 x.0.holds refl is x.1
