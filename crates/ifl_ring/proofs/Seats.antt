-- Seats are split and joined.
use Rattle.std.proofs.Common.{true, false, eqb, ◌≡◌, ◌≢◌, ℕ, zero, suc, ◌+◌, ◌<◌, ◌≤◌, List, [], ◌∷◌, ◌++◌, length, set, get_or, cond, sym, refl, ap, ◌∙◌, subst, inl, inr, ◌⊎◌, ⊎_elim, arith, length-append, length-set, append-nil, eq-eqb, ne_eqb}
use mathlib.Core.Option.{some, none, some-injective, some-ne-none}
use mathlib.Core.Logic.{dite}
use native.Mathlib.Decide.{ℕ_discrete}
use lib.ListN.{get_elem?}
use Rattle.atomic_table.specs.Table.{State, Me, step, Allows, Splits, Joins}
use Rattle.atomic_table.specs.Table.{keeps as keeps_act}
use Rattle.atomic_table.proofs.Lists.{at_set, set_here, set_else, at_longer}
use Rattle.ifl_ringcore.specs.declared.history.Meaning.{Meaning}
use Rattle.ifl_ringcore.specs.declared.history.Entry.{Entry}
use Rattle.ifl_ring.specs.declared.view.Past.{Past}
use Rattle.ifl_ring.specs.declared.view.Known.{Known}
use Rattle.ifl_ring.specs.declared.view.View.{View}
use Rattle.ifl_ring.specs.declared.place.Place.{Place}
use Rattle.ifl_ring.specs.declared.place.Key.{Key}
use Rattle.ifl_ringcore.specs.State.{RingState, role_of, free, first_state}
use Rattle.ifl_ringcore.specs.History.{state_after, own}
use Rattle.ifl_ringcore.specs.Invariant.{RingInvariant}
use Rattle.ifl_base.specs.declared.limits.TheConstants.{PART}
use Rattle.ifl_ring.specs.Seats.{has, Has, IsWholeAmong, AreDisjoint, half, joined_known, Names, Joined}
use Rattle.ifl_ring.specs.Law.{AreKeptBy, Remembers, Sits, parts, moved, cut_left, cut_right, past, both, gone, Lawful, IsAtRest}
use Rattle.ifl_ring.specs.Tells.{Recalls, Meets, christened, met}
use Rattle.ifl_ring.proofs.Steps.{parts_set, each_set, in_range, size_is}
use Rattle.ifl_ring.proofs.Wholes.{bare, part_le, whole_log}

at_end : {A : Type 0} (l : List A) (a b : A) (j : ℕ) → get_elem? (l ++ a ∷ []) j ≡ some b → (get_elem? l j ≡ some b) ⊎ ((j ≡ length l) × (a ≡ b))
at_end [] a b zero e = inr (refl, some-injective a b e)
at_end [] a b (suc j) e = absurd (some-ne-none b (sym e))
at_end (x ∷ xs) a b zero e = inl e
at_end (x ∷ xs) a b (suc j) e = ⊎_elim (λ t. inl t) (λ t. inr (ap suc t.0, t.1)) (at_end xs a b j e)

parts_append : {O : Type 0} (vs : List (View O)) (w : View O) → parts (vs ++ w ∷ []) ≡ parts vs + w.known.part
parts_append [] w = omega arith
parts_append (x ∷ xs) w = let t = parts_append xs w in omega arith

halves : (n : ℕ) → half n ≤ n
halves n = omega arith

pub no_none : {A : Type 0} (k : ℕ) → Has k [] → A
no_none k h = absurd (let g : false ≡ true = h in cc)

-- a list of one number
pub only : (k n : ℕ) → Has k (n ∷ []) → n ≡ k
only k n h = dite (ℕ_discrete n k) (λ e. e) (λ ne. absurd (let g : false ≡ true = rw (ne_eqb n k ne) at h in cc))

has_append : (k : ℕ) (xs ys : List ℕ) → Has k (xs ++ ys) → Has k xs ⊎ Has k ys
has_append k [] ys h = inr h
has_append k (x ∷ xs) ys h = dite (ℕ_discrete x k)
    (λ e. inl (rw (eq-eqb x k e)))
    (λ ne. ⊎_elim (λ q. inl (rw (ne_eqb x k ne) q)) (λ q. inr q) (has_append k xs ys (rw (ne_eqb x k ne) at h)))

has_left : (k : ℕ) (xs ys : List ℕ) → Has k xs → Has k (xs ++ ys)
has_left k [] ys h = no_none k h
has_left k (x ∷ xs) ys h = dite (ℕ_discrete x k)
    (λ e. rw (eq-eqb x k e))
    (λ ne. rw (ne_eqb x k ne) (has_left k xs ys (rw (ne_eqb x k ne) at h)))

has_right : (k : ℕ) (xs ys : List ℕ) → Has k ys → Has k (xs ++ ys)
has_right k [] ys h = h
has_right k (x ∷ xs) ys h = dite (ℕ_discrete x k)
    (λ e. rw (eq-eqb x k e))
    (λ ne. rw (ne_eqb x k ne) (has_right k xs ys h))

-- who keeps a number, once the seat other has been joined into id
abbrev rekept : (ℕ → ℕ) → ℕ → ℕ → ℕ → ℕ
rekept keeper id other k = cond (eqb (keeper k) other) id (keeper k)

rekept_to : (keeper : ℕ → ℕ) (id other k : ℕ) → keeper k ≡ other → rekept keeper id other k ≡ id
rekept_to keeper id other k e = rw (eq-eqb (keeper k) other e)

rekept_else : (keeper : ℕ → ℕ) (id other k : ℕ) → keeper k ≢ other → rekept keeper id other k ≡ keeper k
rekept_else keeper id other k ne = rw (ne_eqb (keeper k) other ne)

kept_still : (keeper : ℕ → ℕ) (id other j : ℕ) (stands : List ℕ) → j ≢ other → AreKeptBy keeper j stands → AreKeptBy (rekept keeper id other) j stands
kept_still keeper id other j stands ne t k h = rekept_else keeper id other k (λ e. ne (sym (t k h) ∙ e)) ∙ t k h

remembers_still : (log : List Entry) (keeper : ℕ → ℕ) (id other j : ℕ) (ps : List Past) → j ≢ other → Remembers log keeper j ps → Remembers log (rekept keeper id other) j ps
remembers_still log keeper id other j [] ne r = tt
remembers_still log keeper id other j (x ∷ xs) ne r = (r.0, r.1, kept_still keeper id other j x.stands ne r.2, remembers_still log keeper id other j xs ne r.3)

pub part_of : {O : Type 0} (o : O) (log : List Entry) (now : RingState) (keeper : ℕ → ℕ) (id : ℕ) (v : View O) → Sits o log now keeper id v → Has v.known.number v.known.stands → 0 < v.known.part
part_of o log now keeper id v t h = dite (ℕ_discrete v.known.part 0) (λ e. bare v.known.number v.known.stands (t.spent e) h) (λ ne. omega arith)

still_sits : {O : Type 0} (o : O) (log : List Entry) (now : RingState) (keeper : ℕ → ℕ) (id other j : ℕ) (x : View O) → j ≢ other → Sits o log now keeper j x → Sits o log now (rekept keeper id other) j x
still_sits o log now keeper id other j x ne t = record {
  seen = t.seen;
  complete = t.complete;
  rooted = λ z. rekept_else keeper id other j (λ e. ne (sym (t.rooted z) ∙ e)) ∙ t.rooted z;
  kept = kept_still keeper id other j x.known.stands ne t.kept;
  named = t.named;
  unnamed = t.unnamed;
  silent = t.silent;
  spent = t.spent;
  born = t.born;
  told = remembers_still log keeper id other j x.told ne t.told;
  apart = t.apart;
}

module _ {I D O : Type 0} (meaning : I → Meaning) (origin : D → O) (settled full : D → Type 0) (stands_for : D → List Meaning → Type 0) where
  abbrev Law : Key O → State (Place I D) (View O) → Type 0
  Law = Lawful meaning origin settled full stands_for

  pub splits : (key : Key O) (id : ℕ) (v : View O) → 2 ≤ v.known.part → v.told ≡ [] → Splits (Law key) id v (cut_left v) (cut_right v)
  splits key id v big still s l at =
      let t = l.each id v at in let left : View O = cut_left v in let right : View O = cut_right v in let h : ℕ = half v.known.part in
      let le : half v.known.part ≤ v.known.part = halves v.known.part in let pos : 1 ≤ half v.known.part = omega arith in let less : half v.known.part < v.known.part = omega arith in
      let vs : List (View O) = set s.views id left in let long : length vs ≡ length s.views = length-set s.views id left in let f = l.fresh (length s.views) (omega arith) in
      let me : Sits key.origin l.log l.now l.keeper id left = record {
        seen = t.seen;
        complete = λ z. t.complete still;
        rooted = λ z. t.rooted (omega arith);
        kept = t.kept;
        named = t.named;
        unnamed = t.unnamed;
        silent = λ a b. t.silent (omega arith) b;
        spent = λ z. absurd (omega arith);
        born = λ z. t.born (omega arith);
        told = t.told;
        apart = t.apart;
      } in
      let new : Sits key.origin l.log l.now l.keeper (length s.views) right = record {
        seen = t.seen;
        complete = λ z k q. no_none k q;
        rooted = λ z. f.2;
        kept = λ k q. no_none k q;
        named = λ q. no_none 0 q;
        unnamed = λ z. f.1;
        silent = λ a b. f.0;
        spent = λ z. refl;
        born = λ z. t.born (omega arith);
        told = tt;
        apart = tt;
      } in record {
        log = l.log;
        now = l.now;
        keeper = l.keeper;
        some_size = l.some_size;
        is = l.is;
        legal = l.legal;
        good = l.good;
        word = l.word;
        shelf = l.shelf;
        each = λ j x e. ⊎_elim (λ q. each_set s.views id v left (Sits key.origin l.log l.now l.keeper) (Sits key.origin l.log l.now l.keeper) at me (λ j x ne q. q) l.each j x q)
            (λ q. subst (λ (z : ℕ × View O). Sits key.origin l.log l.now l.keeper z.0 z.1) (λ i. (sym (q.0 ∙ long) i, q.1 i)) new) (at_end vs right x j e);
        fresh = λ k out. l.fresh k (let a = length-append vs (right ∷ []) in omega arith);
        stood = λ k low. dite (ℕ_discrete k (length s.views)) (λ e. inl (ap (λ (z : ℕ). own z l.log) e ∙ f.0))
            (λ ne. ⊎_elim (λ q. inl q) (λ q. inr (dite (ℕ_discrete (l.keeper k) id)
            (λ here. (
              left,
              at_longer vs (right ∷ []) (l.keeper k) left (ap (get_elem? vs) here ∙ set_here s.views id left (in_range s.views id v at)),
              subst (λ (z : View O). Has k z.known.stands) (some-injective q.0 v (sym q.1 ∙ (ap (get_elem? s.views) here ∙ at))) q.2,
            ))
            (λ there. (q.0, at_longer vs (right ∷ []) (l.keeper k) q.0 (set_else s.views id (l.keeper k) left there ∙ q.1), q.2))))
            (l.stood k (let a = length-append vs (right ∷ []) in omega arith)));
        all_parts = let a = parts_append vs right in let b = parts_set s.views id v left at in let c = l.all_parts in omega arith;
      }

  pub names : (key : Key O) (slots id : ℕ) (me : Me (Place I D) (View O)) → 0 < me.0.known.part → me.0.told ≡ [] → me.0.known.stands ≡ [] → Allows (Law key) slots id me 0 (λ n. n) (christened (step slots 0 0 0 none) me)
  names key slots id me alive still none_yet s l wide at _ =
      let v : View O = me.0 in let t = l.each id v at in let x : ℕ = get_or s.words 0 0 in
      let w : View O = record { known = record { number = id; part = v.known.part; stands = id ∷ []; seen = l.log }; told = []; origin = v.origin } in
      let free' : role_of id l.now ≡ free = t.unnamed none_yet in let silent' : own id l.log ≡ [] = t.silent alive none_yet in
      let role' : role_of id l.now ≡ role_of id (state_after first_state l.log) = ap (role_of id) (sym l.is) in
      let vs : List (View O) = set s.views id w in let long : length vs ≡ length s.views = length-set s.views id w in
      let me' : Sits key.origin l.log l.now l.keeper id w = record {
        seen = ([], simp append-nil);
        complete = λ z k q. refl;
        rooted = t.rooted;
        kept = λ k q. ap l.keeper (sym (only k id q)) ∙ t.rooted alive;
        named = λ q. (refl, role');
        unnamed = λ z. absurd cc;
        silent = λ a z. absurd cc;
        spent = λ z. absurd (omega arith);
        born = t.born;
        told = tt;
        apart = tt;
      } in
      let size_eq = size_is meaning origin settled full stands_for key s l slots wide in
      let told' : Names key.size v.known w.known = record { between = t.seen.0; seen = sym t.seen.1; part = refl; stands = refl; silent = silent'; role = sym role' ∙ free'; legal = l.legal; good = subst (RingInvariant key.size) (sym l.is) l.good } in (
        w,
        keeps_act,
        tt,
        record {
          log = l.log;
          now = l.now;
          keeper = l.keeper;
          some_size = l.some_size;
          is = l.is;
          legal = l.legal;
          good = l.good;
          word = ap (λ (z : List ℕ). set z 0 (get_or z 0 0)) l.word ∙ ap (λ (z : ℕ). z ∷ []) refl;
          shelf = l.shelf;
          each = each_set s.views id v w (Sits key.origin l.log l.now l.keeper) (Sits key.origin l.log l.now l.keeper) at me' (λ j y ne q. q) l.each;
          fresh = λ k out. l.fresh k (omega arith);
          stood = λ k low. ⊎_elim (λ q. inl q) (λ q. dite (ℕ_discrete (l.keeper k) id)
              (λ here. bare k q.0.known.stands (subst (λ (z : View O). z.known.stands ≡ []) (some-injective v q.0 (sym at ∙ (ap (get_elem? s.views) (sym here) ∙ q.1))) none_yet) q.2)
              (λ there. inr (q.0, set_else s.views id (l.keeper k) w there ∙ q.1, q.2))) (l.stood k (omega arith));
          all_parts = let a = parts_set s.views id v w at in let b = l.all_parts in omega arith;
        },
        ((refl, refl), refl, subst (λ (z : ℕ). Names z v.known w.known) size_eq told'),
      )

  recalls : (log : List Entry) (keeper : ℕ → ℕ) (id : ℕ) (ps : List Past) → Remembers log keeper id ps → Recalls log ps
  recalls log keeper id [] r = tt
  recalls log keeper id (x ∷ xs) r = (r.0, r.1, recalls log keeper id xs r.3)

  pub meets : (key : Key O) (slots id : ℕ) (me : Me (Place I D) (View O)) → Has me.0.known.number me.0.known.stands → Allows (Law key) slots id me 0 (λ n. n) (met (step slots 0 0 0 none) me)
  meets key slots id me has s l wide at _ =
      let v : View O = me.0 in let t = l.each id v at in let n = t.named has in let w : View O = moved l.log v in
      let vs : List (View O) = set s.views id w in let long : length vs ≡ length s.views = length-set s.views id w in
      let role' : role_of id l.now ≡ role_of id (state_after first_state l.log) = ap (role_of id) (sym l.is) in
      let me' : Sits key.origin l.log l.now l.keeper id w = record {
        seen = ([], simp append-nil);
        complete = λ z k q. refl;
        rooted = t.rooted;
        kept = t.kept;
        named = λ q. (n.0, role');
        unnamed = λ z. bare v.known.number v.known.stands z has;
        silent = λ a z. bare v.known.number v.known.stands z has;
        spent = t.spent;
        born = t.born;
        told = tt;
        apart = tt;
      } in
      let size_eq = size_is meaning origin settled full stands_for key s l slots wide in
      let role2 : role_of v.known.number (state_after first_state l.log) ≡ role_of v.known.number (state_after first_state v.known.seen) = subst (λ (z : ℕ). role_of z (state_after first_state l.log) ≡ role_of z (state_after first_state v.known.seen)) (sym n.0) (sym role' ∙ n.1) in
      let told' : Meets key.size v.told v.known w.known = record { is = refl; recalls = recalls l.log l.keeper id v.told t.told; apart = t.apart; within = (let a = part_le s.views id v at in let b = l.all_parts in omega arith); role = role2; whole = whole_log meaning origin settled full stands_for key s l id v at; legal = l.legal; good = subst (RingInvariant key.size) (sym l.is) l.good } in (
        w,
        keeps_act,
        tt,
        record {
          log = l.log;
          now = l.now;
          keeper = l.keeper;
          some_size = l.some_size;
          is = l.is;
          legal = l.legal;
          good = l.good;
          word = ap (λ (z : List ℕ). set z 0 (get_or z 0 0)) l.word;
          shelf = l.shelf;
          each = each_set s.views id v w (Sits key.origin l.log l.now l.keeper) (Sits key.origin l.log l.now l.keeper) at me' (λ j y ne q. q) l.each;
          fresh = λ k out. l.fresh k (omega arith);
          stood = λ k low. ⊎_elim (λ q. inl q) (λ q. inr (dite (ℕ_discrete (l.keeper k) id)
              (λ here. (w, ap (get_elem? vs) here ∙ set_here s.views id w (in_range s.views id v at), subst (λ (z : View O). Has k z.known.stands) (some-injective q.0 v (sym q.1 ∙ (ap (get_elem? s.views) here ∙ at))) q.2))
              (λ there. (q.0, set_else s.views id (l.keeper k) w there ∙ q.1, q.2)))) (l.stood k (omega arith));
          all_parts = let a = parts_set s.views id v w at in let b = l.all_parts in omega arith;
        },
        ((refl, refl), refl, subst (λ (z : ℕ). Meets z v.told v.known w.known) size_eq told'),
      )

  pub joins : (key : Key O) (id : ℕ) (v : View O) (other : ℕ) (w : View O) → IsAtRest v.known → v.told ≡ [] → IsAtRest w.known → w.told ≡ [] → Joins (Law key) id v other w (both v w) gone
  joins key id v other w rest still rest' still' s l at apart at2 =
      let b : View O = both v w in let vs : List (View O) = set s.views id b in
      let at' : get_elem? s.views other ≡ some w = sym (set_else s.views id other b apart) ∙ at2 in
      let t = l.each id v at in let u = l.each other w at' in let kp : ℕ → ℕ = rekept l.keeper id other in
      let nm = t.named rest.named in let nw = u.named rest'.named in
      let free' : role_of other l.now ≡ free = nw.1 ∙ ap (λ (z : ℕ). role_of z (state_after first_state w.known.seen)) (sym nw.0) ∙ rest'.role in
      let kept_v : AreKeptBy kp id v.known.stands = kept_still l.keeper id other id v.known.stands (λ e. apart (sym e)) t.kept in
      let kept_w : AreKeptBy kp id w.known.stands = (λ k h. rekept_to l.keeper id other k (u.kept k h)) in
      let disjoint : AreDisjoint v.known.stands w.known.stands = (λ k a c. absurd (apart (sym (u.kept k c) ∙ t.kept k a))) in
      let named' : Has v.known.number (v.known.stands ++ w.known.stands) = has_left v.known.number v.known.stands w.known.stands rest.named in
      let me : Sits key.origin l.log l.now kp id b = record {
        seen = t.seen;
        complete = λ z. absurd cc;
        rooted = λ z. kept_v id (subst (λ (z : ℕ). Has z v.known.stands) nm.0 rest.named);
        kept = λ k h. ⊎_elim (kept_v k) (kept_w k) (has_append k v.known.stands w.known.stands h);
        named = λ h. nm;
        unnamed = λ z. bare v.known.number (v.known.stands ++ w.known.stands) z named';
        silent = λ a z. bare v.known.number (v.known.stands ++ w.known.stands) z named';
        spent = λ z. bare v.known.number v.known.stands (t.spent (omega arith)) rest.named;
        born = λ z. t.born (part_of key.origin l.log l.now l.keeper id v t rest.named);
        told = (t.seen, t.complete still, kept_v, (u.seen, u.complete still', kept_w, tt));
        apart = ((disjoint, tt), (tt, tt));
      } in
      let none' : Sits key.origin l.log l.now kp other gone = record {
        seen = (l.log, refl);
        complete = λ z k h. no_none k h;
        rooted = λ z. absurd (omega arith);
        kept = λ k h. no_none k h;
        named = λ h. no_none 0 h;
        unnamed = λ z. free';
        silent = λ a z. absurd (omega arith);
        spent = λ z. refl;
        born = λ z. absurd (omega arith);
        told = tt;
        apart = tt;
      } in
      let low : id < length s.views = in_range s.views id v at in let low' : other < length vs = in_range vs other w at2 in
      let long : length vs ≡ length s.views = length-set s.views id b in let long' : length (set vs other gone) ≡ length vs = length-set vs other gone in record {
        log = l.log;
        now = l.now;
        keeper = kp;
        some_size = l.some_size;
        is = l.is;
        legal = l.legal;
        good = l.good;
        word = l.word;
        shelf = l.shelf;
        each = λ j x e. ⊎_elim (λ q. subst (λ (z : ℕ × View O). Sits key.origin l.log l.now kp z.0 z.1) (λ i. (sym q.0 i, q.1 i)) none')
            (λ q. ⊎_elim (λ r. subst (λ (z : ℕ × View O). Sits key.origin l.log l.now kp z.0 z.1) (λ i. (sym r.0 i, r.1 i)) me)
            (λ r. still_sits key.origin l.log l.now l.keeper id other j x q.0 (l.each j x r.1)) (at_set s.views id j b x q.1))
            (at_set vs other j gone x e);
        fresh = λ k out. let f = l.fresh k (omega arith) in (f.0, f.1, rekept_else l.keeper id other k (λ e. let z : k ≡ other = sym f.2 ∙ e in omega arith) ∙ f.2);
        stood = λ k lo. ⊎_elim (λ q. inl q) (λ q. inr (dite (ℕ_discrete (l.keeper k) other)
            (λ there. (
              b,
              ap (get_elem? (set vs other gone)) (rekept_to l.keeper id other k there) ∙ (set_else vs other id gone (λ e. apart (sym e)) ∙ set_here s.views id b low),
              has_right k v.known.stands w.known.stands (subst (λ (z : View O). Has k z.known.stands) (some-injective q.0 w (sym q.1 ∙ (ap (get_elem? s.views) there ∙ at'))) q.2),
            ))
            (λ ne. dite (ℕ_discrete (l.keeper k) id)
            (λ here. (
              b,
              ap (get_elem? (set vs other gone)) (rekept_else l.keeper id other k ne ∙ here) ∙ (set_else vs other id gone (λ e. apart (sym e)) ∙ set_here s.views id b low),
              has_left k v.known.stands w.known.stands (subst (λ (z : View O). Has k z.known.stands) (some-injective q.0 v (sym q.1 ∙ (ap (get_elem? s.views) here ∙ at))) q.2),
            ))
            (λ away. (q.0, ap (get_elem? (set vs other gone)) (rekept_else l.keeper id other k ne) ∙ (set_else vs other (l.keeper k) gone ne ∙ (set_else s.views id (l.keeper k) b away ∙ q.1)), q.2)))))
            (l.stood k (omega arith));
        all_parts = let a = parts_set s.views id v b at in let c = parts_set vs other w gone at2 in let d = l.all_parts in omega arith;
      }

  pub names_cut : (key : Key O) (slots id : ℕ) (me : Me (Place I D) (View O)) (v : View O) → me.0 ≡ cut_right v → 2 ≤ v.known.part → Allows (Law key) slots id me 0 (λ n. n) (christened (step slots 0 0 0 none) me)
  names_cut key slots id me v e big = names key slots id me (subst (λ (z : View O). 0 < z.known.part) (sym e) (let a : 1 ≤ half v.known.part = omega arith in a)) (ap (λ (z : View O). z.told) e) (ap (λ (z : View O). z.known.stands) e)

  pub meets_both : (key : Key O) (slots id : ℕ) (me : Me (Place I D) (View O)) (v w : View O) → me.0 ≡ both v w → IsAtRest v.known → Allows (Law key) slots id me 0 (λ n. n) (met (step slots 0 0 0 none) me)
  meets_both key slots id me v w e r = meets key slots id me (subst (λ (z : View O). Has z.known.number z.known.stands) (sym e) (has_left v.known.number v.known.stands w.known.stands r.named))

pub met_joined : {O : Type 0} (size : ℕ) (v w m : View O) (x : Known) → m ≡ both v w → Meets size m.told m.known x → Joined size v.known w.known x
met_joined {O = O} size v w m x e t = let u : Meets size (past v ∷ past w ∷ []) (joined_known v.known w.known) x = subst (λ (z : View O). Meets size z.told z.known x) e t in record {
  is = u.is;
  first = u.recalls.0;
  first_whole = u.recalls.1;
  second = u.recalls.2.0;
  second_whole = u.recalls.2.1;
  apart = u.apart.0.0;
  within = subst (λ (z : Known). z.part ≤ PART) (sym u.is) u.within;
  whole = subst (λ (z : Known). IsWholeAmong z x.seen) (sym u.is) u.whole;
  legal = u.legal;
  good = u.good;
}

pub met_rests : {O : Type 0} (size : ℕ) (v w m : View O) (x : Known) → m ≡ both v w → Meets size m.told m.known x → IsAtRest v.known → IsAtRest x
met_rests {O = O} size v w m x e t r = let u : Meets size (past v ∷ past w ∷ []) (joined_known v.known w.known) x = subst (λ (z : View O). Meets size z.told z.known x) e t in record {
  named = subst (λ (z : Known). Has z.number z.stands) (sym u.is) (has_left v.known.number v.known.stands w.known.stands r.named);
  role = u.role ∙ r.role;
}
