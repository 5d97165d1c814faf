-- How a ring starts, and how its ends are made and meet.
use Rattle.std.proofs.Common.{◌≡◌, ℕ, zero, suc, ◌+◌, ◌%◌, ◌<◌, ◌≤◌, ◌≢◌, ◌⊎◌, inl, inr, ⊎_elim, List, [], ◌∷◌, ◌++◌, map, length, set, get_or, replicate, sym, refl, ap, ◌∙◌, subst, arith, append-nil, mod-eq_of_lt}
use mathlib.Core.Option.{some, none, some-injective, some-ne-none}
use mathlib.Core.List.{IsPrefix}
use lib.ListN.{get_elem?, length-map, length-replicate}
use Rattle.std.specs.Prelude.{Some, None}
use Rattle.atomic_table.specs.Table.{step, keeps, homes_after, opening, Allows, Splits, Joins}
use Rattle.atomic_table.proofs.Lists.{at_set, set_again}
use Rattle.ifl_desc.specs.declared.desc.Desc.{Desc}
use Rattle.ifl_desc.specs.declared.history.Side.{Side}
use Rattle.ifl_desc.specs.declared.history.Side.TheVariants.{Driver, Device}
use Rattle.ifl_desc.specs.declared.history.Event.{Event}
use Rattle.ifl_desc.specs.declared.history.Role.{Role}
use Rattle.ifl_desc.specs.declared.history.Role.TheVariants.{Whole, Full, End, Note, Closing}
use Rattle.ifl_desc.specs.declared.history.View.{View}
use Rattle.ifl_desc.specs.History.{other, sent, known, own}
use Rattle.ifl_desc.specs.Rule.{Slot, laid, takes_all, view, InOrder, IsLawful, Acts, Knows, Tied}
use Rattle.ifl_desc.specs.Plays.{filled, saw, caught, note, hearing, whole, full}
use Rattle.ifl_desc.proofs.Slots.{Homes, taken_carried, taken_length, taken_valid}
use Rattle.ifl_desc.proofs.Steps.{self}
use Rattle.ifl_desc.proofs.Prefixes.{own_between, lawful_prefix}

blank : (n i : ℕ) → i < n → get_elem? (map some (replicate {A = Slot} n None)) i ≡ some (some None)
blank zero i h = absurd (omega arith)
blank (suc n) zero h = refl
blank (suc n) (suc i) h = blank n i (omega arith)

replicated : (n i : ℕ) (x : Slot) → get_elem? (replicate {A = Slot} n None) i ≡ some x → (i < n) × (None ≡ x)
replicated zero i x e = absurd (some-ne-none x (sym e))
replicated (suc n) zero x e = (omega arith, some-injective None x e)
replicated (suc n) (suc i) x e = let r = replicated n i x e in let l = r.0 in (omega arith, r.1)

pub at_end : {A : Type 0} (l : List A) (a b : A) (j : ℕ) → get_elem? (l ++ a ∷ []) j ≡ some b → (get_elem? l j ≡ some b) ⊎ ((j ≡ length l) × (a ≡ b))
at_end [] a b zero e = inr (refl, some-injective a b e)
at_end [] a b (suc j) e = absurd (some-ne-none b (sym e))
at_end (x ∷ l) a b zero e = inl e
at_end (x ∷ l) a b (suc j) e = ⊎_elim (λ (h : get_elem? l j ≡ some b). inl h) (λ (h : (j ≡ length l) × (a ≡ b)). let g = h.0 in inr (omega arith, h.1)) (at_end l a b j e)

abbrev chosen : ℕ → ℕ → Side → ℕ
chosen a b Driver = a
chosen a b Device = b

as_driver : (a b : ℕ) (r : Side) (j : ℕ) → j ≡ a → Acts (End Driver) r → j ≡ chosen a b r
as_driver a b Driver j e acts = e
as_driver a b Device j e acts = absurd acts

as_device : (a b : ℕ) (r : Side) (j : ℕ) → j ≡ b → Acts (End Device) r → j ≡ chosen a b r
as_device a b Driver j e acts = absurd acts
as_device a b Device j e acts = e

in_order_new : (S : ℕ) → 0 < S → InOrder S []
in_order_new S pos = record { told = omega arith; done = omega arith; heard = omega arith; within = omega arith }

nothing_before : (g t : List Event) → g ++ t ≡ [] → g ≡ []
nothing_before [] t e = refl
nothing_before (x ∷ g) t e = absurd (let l : suc (length (g ++ t)) ≡ 0 = ap length e in omega arith)

-- a new ring's history
pub lawful_new : (S : ℕ) → 0 < S → IsLawful S []
lawful_new S pos = record { order = λ g p. subst (InOrder S) (sym (nothing_before g p.0 p.1)) (in_order_new S pos); frames = tt }

module _ (S : ℕ) (tie : List ℕ → List Event → Type 0) where
  pub starts : (words : List ℕ) → 0 < S → tie words [] → Tied S tie (opening words (replicate S None) whole)
  starts words pos shows = record {
    log = [];
    who = λ r. 0;
    size = length-map (replicate {A = Slot} S None) some ∙ length-replicate S None;
    room = pos;
    shows = shows;
    order = in_order_new S pos;
    lawful = lawful_new S pos;
    at_home = λ r i d le e. absurd (some-ne-none d (sym (ap (λ (z : List Desc). get_elem? z i) (sym (nothing r)) ∙ e)));
    each = λ j v e. ⊎_elim (λ (h : get_elem? [] j ≡ some v). absurd (some-ne-none v (sym h))) (λ (h : (j ≡ 0) × (whole ≡ v)). subst (λ (z : View). Knows S [] (map some (replicate {A = Slot} S None)) z.role z.seen) h.1 (refl, blank S)) (at_end [] whole v j e);
    hears = λ j v e. ⊎_elim (λ (h : get_elem? [] j ≡ some v). absurd (some-ne-none v (sym h))) (λ (h : (j ≡ 0) × (whole ≡ v)). subst (λ (z : View). IsPrefix z.heard []) h.1 ([], refl)) (at_end [] whole v j e);
    one = λ j v e r acts. ⊎_elim (λ (h : get_elem? [] j ≡ some v). absurd (some-ne-none v (sym h))) (λ (h : (j ≡ 0) × (whole ≡ v)). h.0) (at_end [] whole v j e);
  }
    where
      nothing : (r : Side) → sent r [] ≡ []
      nothing r = refl

  -- a seat that may act for both sides is the only one that acts
  alone : (role : Role) (h log : List Event) (homes homes' : Homes Slot) → ((r : Side) → Acts role r → ⊥) → Knows S log homes role h → Knows S log homes' role h
  alone Whole h log homes homes' n k = absurd (n Driver tt)
  alone Full h log homes homes' n k = absurd (n Driver tt)
  alone (End r) h log homes homes' n k = absurd (n r (self r))
  alone Note h log homes homes' n k = k
  alone (Closing g) h log homes homes' n k = absurd (n Driver tt)

  none_home : (log : List Event) (homes : Homes Slot) → log ≡ [] → (q : Side) (i : ℕ) (d : Desc) → known (other q) log ≤ i → get_elem? (sent q log) i ≡ some d → get_elem? homes (i % S) ≡ some (some (Some d))
  none_home log homes empty q i d le e = absurd (some-ne-none d (sym (ap (λ (z : List Event). get_elem? (sent q z) i) (sym empty) ∙ e)))

  pub fills : (id i : ℕ) → ((ws : List ℕ) (h : List Event) → tie ws h → tie (set ws i (get_or ws i 0)) h) → Allows (Tied S tie) S id (whole, []) i (λ n. n) (filled (step S i 0 0 none) (whole, []))
  fills id i stays s t size at bound =
      let k = t.each id whole at in
      let xs : List Slot = replicate S None in
      let act = takes_all S 0 xs in
      let homes : Homes Slot = homes_after s.homes [] act in
      let only : (j : ℕ) (v : View) → j ≢ id → get_elem? s.views j ≡ some v → (r : Side) → Acts v.role r → ⊥ = λ j v n e r acts. n (t.one j v e r acts ∙ sym (t.one id whole at r tt)) in (
        full,
        act,
        taken_valid S s.homes [] 0 xs (let l : length xs ≡ S = length-replicate S None in omega arith) (λ j x e. let r = replicated S j x e in let lt = r.0 in
            ap (get_elem? s.homes) (let g : (0 + j) % S ≡ j = ap (λ (z : ℕ). z % S) (let z : 0 + j ≡ j = omega arith in z) ∙ mod-eq_of_lt lt in g) ∙ k.1 j lt ∙ ap (λ (z : Slot). some (some z)) r.1),
        record {
          log = t.log;
          who = t.who;
          size = taken_length S s.homes [] 0 xs ∙ t.size;
          room = t.room;
          shows = stays s.words t.log t.shows;
          order = t.order;
          lawful = t.lawful;
          at_home = none_home t.log homes k.0;
          each = λ j v e. ⊎_elim (λ (p : (j ≡ id) × (full ≡ v)). subst (λ (z : View). Knows S t.log homes z.role z.seen) p.1 k.0)
              (λ (p : (j ≢ id) × (get_elem? s.views j ≡ some v)). alone v.role v.seen t.log s.homes homes (only j v p.0 p.1) (t.each j v p.1)) (at_set s.views id j full v e);
          hears = λ j v e. ⊎_elim (λ (p : (j ≡ id) × (full ≡ v)). subst (λ (z : View). IsPrefix z.heard t.log) p.1 (t.log, refl)) (λ (p : (j ≢ id) × (get_elem? s.views j ≡ some v)). t.hears j v p.1) (at_set s.views id j full v e);
          one = λ j v e r acts. ⊎_elim (λ (p : (j ≡ id) × (full ≡ v)). p.0 ∙ t.one id whole at r tt) (λ (p : (j ≢ id) × (get_elem? s.views j ≡ some v)). t.one j v p.1 r acts) (at_set s.views id j full v e);
        },
        (refl, taken_carried S [] 0 xs ∙ append-nil (laid S 0 xs)),
      )

  pub parts : (id : ℕ) → Splits (Tied S tie) id full (view Driver []) (view Device [])
  parts id s t at =
      let empty : t.log ≡ [] = t.each id full at in
      let only : (j : ℕ) (v : View) → j ≢ id → get_elem? s.views j ≡ some v → (r : Side) → Acts v.role r → ⊥ = λ j v n e r acts. n (t.one j v e r acts ∙ sym (t.one id full at r tt)) in
      let vs : List View = set s.views id (view Driver []) in
      let new : ℕ = length vs in
      let starts_empty : (r : Side) → Knows S t.log s.homes (End r) [] = λ r. ((t.log, refl), ap (own r) (sym empty)) in
      record {
        log = t.log;
        who = chosen id new;
        size = t.size;
        room = t.room;
        shows = t.shows;
        order = t.order;
        lawful = t.lawful;
        at_home = t.at_home;
        each = λ j v e. ⊎_elim
            (λ (h : get_elem? vs j ≡ some v). ⊎_elim (λ (p : (j ≡ id) × (view Driver [] ≡ v)). subst (λ (z : View). Knows S t.log s.homes z.role z.seen) p.1 (starts_empty Driver))
            (λ (p : (j ≢ id) × (get_elem? s.views j ≡ some v)). alone v.role v.seen t.log s.homes s.homes (only j v p.0 p.1) (t.each j v p.1)) (at_set s.views id j (view Driver []) v h))
            (λ (h : (j ≡ new) × (view Device [] ≡ v)). subst (λ (z : View). Knows S t.log s.homes z.role z.seen) h.1 (starts_empty Device))
            (at_end vs (view Device []) v j e);
        hears = λ j v e. ⊎_elim
            (λ (h : get_elem? vs j ≡ some v). ⊎_elim (λ (p : (j ≡ id) × (view Driver [] ≡ v)). subst (λ (z : View). IsPrefix z.heard t.log) p.1 (t.log, refl))
            (λ (p : (j ≢ id) × (get_elem? s.views j ≡ some v)). t.hears j v p.1) (at_set s.views id j (view Driver []) v h))
            (λ (h : (j ≡ new) × (view Device [] ≡ v)). subst (λ (z : View). IsPrefix z.heard t.log) h.1 (t.log, refl))
            (at_end vs (view Device []) v j e);
        one = λ j v e r acts. ⊎_elim
            (λ (h : get_elem? vs j ≡ some v). ⊎_elim (λ (p : (j ≡ id) × (view Driver [] ≡ v)). as_driver id new r j p.0 (subst (λ (z : View). Acts z.role r) (sym p.1) acts))
            (λ (p : (j ≢ id) × (get_elem? s.views j ≡ some v)). absurd (only j v p.0 p.1 r acts)) (at_set s.views id j (view Driver []) v h))
            (λ (h : (j ≡ new) × (view Device [] ≡ v)). as_device id new r j h.0 (subst (λ (z : View). Acts z.role r) (sym h.1) acts))
            (at_end vs (view Device []) v j e);
      }

  -- a note of what a seat has seen
  pub notes : (id : ℕ) (r : Side) (h : List Event) → Splits (Tied S tie) id (view r h) (view r h) (note h)
  notes id r h s t at =
      let back : (j : ℕ) (v : View) → get_elem? (set s.views id (view r h)) j ≡ some v → get_elem? s.views j ≡ some v = λ j v e. ap (λ (z : List View). get_elem? z j) (sym (set_again s.views id (view r h) at)) ∙ e in
      let vs : List View = set s.views id (view r h) in
      record {
        log = t.log;
        who = t.who;
        size = t.size;
        room = t.room;
        shows = t.shows;
        order = t.order;
        lawful = t.lawful;
        at_home = t.at_home;
        each = λ j v e. ⊎_elim (λ (h' : get_elem? vs j ≡ some v). t.each j v (back j v h')) (λ (p : (j ≡ length vs) × (note h ≡ v)). subst (λ (z : View). Knows S t.log s.homes z.role z.seen) p.1 (t.each id (view r h) at).0) (at_end vs (note h) v j e);
        hears = λ j v e. ⊎_elim (λ (h' : get_elem? vs j ≡ some v). t.hears j v (back j v h')) (λ (p : (j ≡ length vs) × (note h ≡ v)). subst (λ (z : View). IsPrefix z.heard t.log) p.1 (t.log, refl)) (at_end vs (note h) v j e);
        one = λ j v e q acts. ⊎_elim (λ (h' : get_elem? vs j ≡ some v). t.one j v (back j v h') q acts) (λ (p : (j ≡ length vs) × (note h ≡ v)). absurd (subst (λ (z : View). Acts z.role q) (sym p.1) acts)) (at_end vs (note h) v j e);
      }

  -- a seat hears what a note says
  pub joins : (id : ℕ) (v : View) (other : ℕ) (h : List Event) → Joins (Tied S tie) id v other (note h) (hearing v (note h)) (note [])
  joins id v other h s t at two at' =
      let u : View = hearing v (note h) in
      let vs : List View = set s.views id u in
      let here : get_elem? s.views other ≡ some (note h) = ⊎_elim (λ (p : (other ≡ id) × (u ≡ note h)). absurd (two p.0)) (λ (p : (other ≢ id) × (get_elem? s.views other ≡ some (note h))). p.1) (at_set s.views id other u (note h) at') in
      let shown : IsPrefix h t.log = t.each other (note h) here in
      record {
        log = t.log;
        who = t.who;
        size = t.size;
        room = t.room;
        shows = t.shows;
        order = t.order;
        lawful = t.lawful;
        at_home = t.at_home;
        each = λ j w e. ⊎_elim (λ (p : (j ≡ other) × (note [] ≡ w)). subst (λ (z : View). Knows S t.log s.homes z.role z.seen) p.1 (t.log, refl))
            (λ (p : (j ≢ other) × (get_elem? vs j ≡ some w)). ⊎_elim (λ (q : (j ≡ id) × (u ≡ w)). subst (λ (z : View). Knows S t.log s.homes z.role z.seen) q.1 (t.each id v at))
            (λ (q : (j ≢ id) × (get_elem? s.views j ≡ some w)). t.each j w q.1) (at_set s.views id j u w p.1)) (at_set vs other j (note []) w e);
        hears = λ j w e. ⊎_elim (λ (p : (j ≡ other) × (note [] ≡ w)). subst (λ (z : View). IsPrefix z.heard t.log) p.1 (t.log, refl))
            (λ (p : (j ≢ other) × (get_elem? vs j ≡ some w)). ⊎_elim (λ (q : (j ≡ id) × (u ≡ w)). subst (λ (z : View). IsPrefix z.heard t.log) q.1 shown)
            (λ (q : (j ≢ id) × (get_elem? s.views j ≡ some w)). t.hears j w q.1) (at_set s.views id j u w p.1)) (at_set vs other j (note []) w e);
        one = λ j w e r acts. ⊎_elim (λ (p : (j ≡ other) × (note [] ≡ w)). absurd (subst (λ (z : View). Acts z.role r) (sym p.1) acts))
            (λ (p : (j ≢ other) × (get_elem? vs j ≡ some w)). ⊎_elim (λ (q : (j ≡ id) × (u ≡ w)). q.0 ∙ t.one id v at r (subst (λ (z : View). Acts z.role r) (sym q.1) acts))
            (λ (q : (j ≢ id) × (get_elem? s.views j ≡ some w)). t.one j w q.1 r acts) (at_set s.views id j u w p.1)) (at_set vs other j (note []) w e);
      }

  -- a look that is no event
  pub sees : (id i : ℕ) (r : Side) (seen heard : List Event) (c : List (ℕ × Slot)) → ((ws : List ℕ) (h : List Event) → tie ws h → tie (set ws i (get_or ws i 0)) h)
      → Allows (Tied S tie) S id (record { role = End r; seen = seen; heard = heard }, c) i (λ n. n) (saw r (step S i 0 0 none) (record { role = End r; seen = seen; heard = heard }, c))
  sees id i r seen heard c stays s t size at bound =
      let v : View = record { role = End r; seen = seen; heard = heard } in
      let k : Knows S t.log s.homes (End r) seen = t.each id v at in
      let w : View = view r t.log in (
        w,
        keeps,
        tt,
        record {
          log = t.log;
          who = t.who;
          size = t.size;
          room = t.room;
          shows = stays s.words t.log t.shows;
          order = t.order;
          lawful = t.lawful;
          at_home = t.at_home;
          each = λ j x e. ⊎_elim (λ (p : (j ≡ id) × (w ≡ x)). subst (λ (z : View). Knows S t.log s.homes z.role z.seen) p.1 (([], append-nil t.log), refl))
              (λ (p : (j ≢ id) × (get_elem? s.views j ≡ some x)). t.each j x p.1) (at_set s.views id j w x e);
          hears = λ j x e. ⊎_elim (λ (p : (j ≡ id) × (w ≡ x)). subst (λ (z : View). IsPrefix z.heard t.log) p.1 (t.log, refl)) (λ (p : (j ≢ id) × (get_elem? s.views j ≡ some x)). t.hears j x p.1) (at_set s.views id j w x e);
          one = λ j x e q acts. ⊎_elim (λ (p : (j ≡ id) × (w ≡ x)). p.0 ∙ t.one id v at q (subst (λ (z : View). Acts z.role q) (sym p.1) acts)) (λ (p : (j ≢ id) × (get_elem? s.views j ≡ some x)). t.one j x p.1 q acts) (at_set s.views id j w x e);
        },
        (refl, k.0, t.hears id v at, sym k.1, t.order, t.lawful, refl),
      )

  -- a look of a seat that has heard of a history that goes on from its own, which it has seen from then on
  pub catches : (id i : ℕ) (r : Side) (seen heard : List Event) (c : List (ℕ × Slot)) → IsPrefix seen heard → ((ws : List ℕ) (h : List Event) → tie ws h → tie (set ws i (get_or ws i 0)) h)
      → Allows (Tied S tie) S id (record { role = End r; seen = seen; heard = heard }, c) i (λ n. n) (caught r (step S i 0 0 none) (record { role = End r; seen = seen; heard = heard }, c))
  catches id i r seen heard c later stays s t size at bound =
      let v : View = record { role = End r; seen = seen; heard = heard } in
      let k : Knows S t.log s.homes (End r) seen = t.each id v at in
      let told : IsPrefix heard t.log = t.hears id v at in
      let mine : own r heard ≡ own r t.log = own_between r seen heard t.log later told k.1 in
      let w : View = view r heard in (
        w,
        keeps,
        tt,
        record {
          log = t.log;
          who = t.who;
          size = t.size;
          room = t.room;
          shows = stays s.words t.log t.shows;
          order = t.order;
          lawful = t.lawful;
          at_home = t.at_home;
          each = λ j x e. ⊎_elim (λ (p : (j ≡ id) × (w ≡ x)). subst (λ (z : View). Knows S t.log s.homes z.role z.seen) p.1 (told, mine))
              (λ (p : (j ≢ id) × (get_elem? s.views j ≡ some x)). t.each j x p.1) (at_set s.views id j w x e);
          hears = λ j x e. ⊎_elim (λ (p : (j ≡ id) × (w ≡ x)). subst (λ (z : View). IsPrefix z.heard t.log) p.1 (t.log, refl)) (λ (p : (j ≢ id) × (get_elem? s.views j ≡ some x)). t.hears j x p.1) (at_set s.views id j w x e);
          one = λ j x e q acts. ⊎_elim (λ (p : (j ≡ id) × (w ≡ x)). p.0 ∙ t.one id v at q (subst (λ (z : View). Acts z.role q) (sym p.1) acts)) (λ (p : (j ≢ id) × (get_elem? s.views j ≡ some x)). t.one j x p.1 q acts) (at_set s.views id j w x e);
        },
        (refl, mine ∙ sym k.1, t.lawful.order heard told, lawful_prefix S heard t.log told t.lawful, refl),
      )
