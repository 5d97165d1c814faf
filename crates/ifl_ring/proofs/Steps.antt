-- One event at one step keeps the rule, where the slots are as the event leaves them.
use Rattle.std.proofs.Common.{◌≡◌, ◌≢◌, ℕ, ◌+◌, ◌<◌, List, [], ◌∷◌, ◌++◌, length, set, append_assoc, sym, refl, ap, ◌∙◌, subst, inl, inr, ⊎_elim, arith, length-set, append-nil, zero, suc, get_or, ◌-◌}
use mathlib.Core.Option.{some, none, some-injective, some-ne-none}
use mathlib.Core.Option as maybe
use mathlib.Core.Logic.{dite}
use native.Mathlib.Decide.{ℕ_discrete}
use lib.ListN.{get_elem?}
use Rattle.atomic_table.specs.Table.{State, Me, Step as TableStep, step, Allows, Act, Valid, stepped, carried_after}
use Rattle.atomic_table.specs.Table.{keeps as keeps_act}
use Rattle.ifl_ringcore.specs.declared.history.Step.TheVariants.{Look}
use Rattle.ifl_ring.specs.Seats.{entry, Made, Has, AreAmong, Begins, Complete, saw}
use Rattle.ifl_ring.specs.Tells.{SeesWord, sees}
use Rattle.atomic_table.proofs.Lists.{at_set, set_here, set_else}
use Rattle.ifl_ringcore.specs.declared.history.Meaning.{Meaning}
use Rattle.ifl_ringcore.specs.declared.history.Entry.{Entry}
use Rattle.ifl_ring.specs.declared.view.Past.{Past}
use Rattle.ifl_ring.specs.declared.view.View.{View}
use Rattle.ifl_ring.specs.declared.place.Place.{Place}
use Rattle.ifl_ring.specs.declared.place.Key.{Key}
use Rattle.ifl_ringcore.specs.State.{RingState, role_of, first_state, ring_word}
use Rattle.ifl_ringcore.specs.History.{state_after, own}
use Rattle.ifl_ringcore.specs.Effects.{effect}
use Rattle.ifl_ringcore.specs.Conditions.{IsAllowed}
use Rattle.ifl_ringcore.specs.Invariant.{RingInvariant}
use Rattle.ifl_base.specs.Word.{pack}
use Rattle.ifl_ring.specs.Law.{AreKeptBy, Remembers, Sits, parts, moved, Shelf, Lawful}
use Rattle.ifl_ringcore.proofs.Histories.{state_after-append, legal-append, own-append_other}
use Rattle.ifl_ringcore.proofs.Keeping.{invariant-effect, role_of-effect}
use Rattle.ifl_ring.proofs.Wholes.{bare, whole_log}

pub begins_more : (log seen : List Entry) (e : Entry) → Begins log seen → Begins (log ++ e ∷ []) seen
begins_more log seen e b = (b.0 ++ e ∷ [], sym (append_assoc seen b.0 (e ∷ [])) ∙ ap (λ (z : List Entry). z ++ e ∷ []) b.1)

complete_more : (log : List Entry) (keeper : ℕ → ℕ) (id : ℕ) (stands : List ℕ) (seen : List Entry) (e : Entry) → keeper e.seat ≢ id → AreKeptBy keeper id stands → Complete log stands seen → Complete (log ++ e ∷ []) stands seen
complete_more log keeper id stands seen e ne kept c k has = own-append_other k log e (λ is. ne (ap keeper is ∙ kept k has)) ∙ c k has

remembers_more : (log : List Entry) (keeper : ℕ → ℕ) (id : ℕ) (ps : List Past) (e : Entry) → keeper e.seat ≢ id → Remembers log keeper id ps → Remembers (log ++ e ∷ []) keeper id ps
remembers_more log keeper id [] e ne r = tt
remembers_more log keeper id (x ∷ xs) e ne r = (begins_more log x.seen e r.0, complete_more log keeper id x.stands x.seen e ne r.2 r.1, r.2, remembers_more log keeper id xs e ne r.3)

-- a step leaves another seat's view as it is
others_sit : {O : Type 0} (o : O) (log : List Entry) (now next : RingState) (keeper : ℕ → ℕ) (j : ℕ) (v : View O) (e : Entry) → Sits o log now keeper j v → keeper e.seat ≢ j → e.seat ≢ j → role_of j next ≡ role_of j now → Sits o (log ++ e ∷ []) next keeper j v
others_sit o log now next keeper j v e t ne ne' same = record {
  seen = begins_more log v.known.seen e t.seen;
  complete = λ z. complete_more log keeper j v.known.stands v.known.seen e ne t.kept (t.complete z);
  rooted = t.rooted;
  kept = t.kept;
  named = λ h. let n = t.named h in (n.0, same ∙ n.1);
  unnamed = λ h. same ∙ t.unnamed h;
  silent = λ a b. own-append_other j log e ne' ∙ t.silent a b;
  spent = t.spent;
  born = t.born;
  told = remembers_more log keeper j v.told e ne t.told;
  apart = t.apart;
}

-- the stepping seat has seen the whole history
mine_sits : {O : Type 0} (o : O) (log : List Entry) (now next : RingState) (keeper : ℕ → ℕ) (id : ℕ) (v : View O) → Sits o log now keeper id v → Has v.known.number v.known.stands → (log' : List Entry) → next ≡ state_after first_state log' → Sits o log' next keeper id (moved log' v)
mine_sits o log now next keeper id v t has log' is = record {
  seen = ([], simp append-nil);
  complete = λ z k h. refl;
  rooted = t.rooted;
  kept = t.kept;
  named = λ h. ((t.named h).0, ap (role_of id) is);
  unnamed = λ h. bare v.known.number v.known.stands h has;
  silent = λ a h. bare v.known.number v.known.stands h has;
  spent = t.spent;
  born = t.born;
  told = tt;
  apart = tt;
}

pub parts_set : {O : Type 0} (vs : List (View O)) (id : ℕ) (v w : View O) → get_elem? vs id ≡ some v → parts (set vs id w) + v.known.part ≡ parts vs + w.known.part
parts_set {O = O} [] id v w e = absurd (some-ne-none v (sym e))
parts_set {O = O} (x ∷ xs) zero v w e = let a : x ≡ v = some-injective x v e in let b : x.known.part ≡ v.known.part = ap (λ (z : View O). z.known.part) a in omega arith
parts_set {O = O} (x ∷ xs) (suc i) v w e = let t = parts_set xs i v w e in omega arith

pub in_range : {A : Type 0} (l : List A) (i : ℕ) (a : A) → get_elem? l i ≡ some a → i < length l
in_range [] i a e = absurd (some-ne-none a (sym e))
in_range (x ∷ xs) zero a e = omega arith
in_range (x ∷ xs) (suc i) a e = let t = in_range xs i a e in omega arith

-- the views after a step of the seat id
pub each_set : {O : Type 0} (vs : List (View O)) (id : ℕ) (v w : View O) (F G : ℕ → View O → Type 0) → get_elem? vs id ≡ some v → G id w → ((j : ℕ) (x : View O) → j ≢ id → F j x → G j x)
    → ((j : ℕ) (x : View O) → get_elem? vs j ≡ some x → F j x) → (j : ℕ) (x : View O) → get_elem? (set vs id w) j ≡ some x → G j x
each_set {O = O} vs id v w F G at mine others old j x e = ⊎_elim (λ t. subst (λ (z : ℕ × (View O)). G z.0 z.1) (λ i. (sym t.0 i, t.1 i)) mine) (λ t. others j x t.0 (old j x t.1)) (at_set vs id j w x e)

module _ {I D O : Type 0} (meaning : I → Meaning) (origin : D → O) (settled full : D → Type 0) (stands_for : D → List Meaning → Type 0) where
  abbrev Law : Key O → State (Place I D) (View O) → Type 0
  Law = Lawful meaning origin settled full stands_for

  -- one event
  pub steps : (key : Key O) (s : State (Place I D) (View O)) (l : Law key s) (id : ℕ) (v : View O) (e : Entry) (homes : List (maybe.Option (Place I D))) (new : ℕ)
      → get_elem? s.views id ≡ some v → Has v.known.number v.known.stands → e.seat ≡ v.known.number → e.found ≡ pack (ring_word key.size l.now) → IsAllowed key.size l.now e.seat e.event
      → new ≡ pack (ring_word key.size (effect l.now e.seat e.event)) → Shelf meaning origin settled full stands_for key.size key.origin (effect l.now e.seat e.event) homes
      → Law key record { words = set s.words 0 new; homes = homes; views = set s.views id (moved (l.log ++ e ∷ []) v) }
  steps key s l id v e homes new at has by found may next shelf =
      let sits = l.each id v at in let n = sits.named has in let mine : e.seat ≡ id = by ∙ n.0 in
      let keeps_me : l.keeper e.seat ≡ id = ap l.keeper by ∙ sits.kept v.known.number has in
      let log' : List Entry = l.log ++ e ∷ [] in let now' : RingState = effect l.now e.seat e.event in
      let is' : state_after first_state log' ≡ now' = state_after-append first_state l.log e ∙ ap (λ (z : RingState). effect z e.seat e.event) l.is in
      let w : View O = moved log' v in let inside : id < length s.views = in_range s.views id v at in let same : length (set s.views id w) ≡ length s.views = length-set s.views id w in record {
        log = log';
        now = now';
        keeper = l.keeper;
        some_size = l.some_size;
        is = is';
        legal = legal-append key.size first_state l.log e l.legal (found ∙ ap (λ (z : RingState). pack (ring_word key.size z)) (sym l.is)) (subst (λ (z : RingState). IsAllowed key.size z e.seat e.event) (sym l.is) may);
        good = invariant-effect key.size l.now e.seat e.event l.good may;
        word = ap (λ (ws : List ℕ). set ws 0 new) l.word ∙ ap (λ (z : ℕ). z ∷ []) next;
        shelf = shelf;
        each = each_set s.views id v w (Sits key.origin l.log l.now l.keeper) (Sits key.origin log' now' l.keeper) at (mine_sits key.origin l.log l.now now' l.keeper id v sits has log' (sym is'))
            (λ j x ne t. others_sit key.origin l.log l.now now' l.keeper j x e t (λ h. ne (sym h ∙ keeps_me)) (λ h. ne (sym h ∙ mine)) (role_of-effect key.size l.now j e.seat e.event l.good may (λ h. ne (sym h ∙ mine)))) l.each;
        fresh = λ k out. let other : e.seat ≢ k = (λ h. let i : id ≡ k = sym mine ∙ h in omega arith) in let f = l.fresh k (omega arith) in
            (own-append_other k l.log e other ∙ f.0, role_of-effect key.size l.now k e.seat e.event l.good may other ∙ f.1, f.2);
        stood = λ k low. dite (ℕ_discrete e.seat k)
            (λ h. inr (w, ap (λ (z : ℕ). get_elem? (set s.views id w) z) (ap l.keeper (sym h) ∙ keeps_me) ∙ set_here s.views id w inside, subst (λ (z : ℕ). Has z v.known.stands) (sym by ∙ h) has))
            (λ other. ⊎_elim (λ t. inl (own-append_other k l.log e other ∙ t))
            (λ t. inr (dite (ℕ_discrete (l.keeper k) id)
            (λ here. let x_is : t.0 ≡ v = some-injective t.0 v (sym t.1 ∙ (ap (λ (z : ℕ). get_elem? s.views z) here ∙ at)) in
            (w, ap (λ (z : ℕ). get_elem? (set s.views id w) z) here ∙ set_here s.views id w inside, subst (λ (z : View O). Has k z.known.stands) x_is t.2))
            (λ there. (t.0, set_else s.views id (l.keeper k) w there ∙ t.1, t.2))))
            (l.stood k (omega arith)));
        all_parts = let t = parts_set s.views id v w at in let a = l.all_parts in omega arith;
      }

  pub size_is : (key : Key O) (s : State (Place I D) (View O)) (l : Law key s) (slots : ℕ) → length s.homes ≡ slots → key.size ≡ slots - 1
  size_is key s l slots w = let a = l.shelf.wide in omega arith

  pub made_now : (key : Key O) (s : State (Place I D) (View O)) (l : Law key s) (id : ℕ) (v : View O) (e : Entry)
      → get_elem? s.views id ≡ some v → v.told ≡ [] → Has v.known.number v.known.stands → e.seat ≡ v.known.number → e.found ≡ pack (ring_word key.size l.now) → IsAllowed key.size l.now e.seat e.event → (m : Made key.size v.known e (saw (l.log ++ e ∷ []) v.known)) × (state_after first_state (v.known.seen ++ m.between) ≡ l.now)
  made_now key s l id v e at still has by found may = let t = l.each id v at in let n = t.named has in let whole' = t.seen.1 in
      let log' : List Entry = l.log ++ e ∷ [] in let now' : RingState = effect l.now e.seat e.event in
      let is' : state_after first_state log' ≡ now' = state_after-append first_state l.log e ∙ ap (λ (z : RingState). effect z e.seat e.event) l.is in (
        record {
          between = t.seen.0;
          mine = by;
          is = ap (λ (z : List Entry). saw (z ++ e ∷ []) v.known) (sym whole');
          found = found ∙ ap (λ (z : RingState). pack (ring_word key.size z)) (sym l.is ∙ ap (state_after first_state) (sym whole'));
          apart = λ k h. ap (own k) whole' ∙ t.complete still k h;
          whole = λ all. subst (AreAmong v.known.stands) (sym whole') (whole_log meaning origin settled full stands_for key s l id v at all);
          role = ap (λ (z : List Entry). role_of v.known.number (state_after first_state z)) whole' ∙ ap (role_of v.known.number) l.is ∙ (ap (λ (z : ℕ). role_of z l.now) n.0 ∙ n.1 ∙ ap (λ (z : ℕ). role_of z (state_after first_state v.known.seen)) (sym n.0));
          legal = legal-append key.size first_state l.log e l.legal (found ∙ ap (λ (z : RingState). pack (ring_word key.size z)) (sym l.is)) (subst (λ (z : RingState). IsAllowed key.size z e.seat e.event) (sym l.is) may);
          good = subst (RingInvariant key.size) (sym is') (invariant-effect key.size l.now e.seat e.event l.good may);
        },
        ap (state_after first_state) whole' ∙ l.is,
      )

  pub made : (key : Key O) (s : State (Place I D) (View O)) (l : Law key s) (id : ℕ) (v : View O) (e : Entry)
      → get_elem? s.views id ≡ some v → v.told ≡ [] → Has v.known.number v.known.stands → e.seat ≡ v.known.number → e.found ≡ pack (ring_word key.size l.now) → IsAllowed key.size l.now e.seat e.event → Made key.size v.known e (saw (l.log ++ e ∷ []) v.known)
  made key s l id v e at still has by found may = (made_now key s l id v e at still has by found may).0

  -- what a step needs, where the word becomes y
  abbrev pub Goes : (key : Key O) → State (Place I D) (View O) → ℕ → Me (Place I D) (View O) → (Me (Place I D) (View O) → Type 0) → ℕ → Type 0
  Goes key s id me then y = (w : View O) × (a : Act (Place I D)) × Valid s.homes me.1 a × Law key (stepped s 0 y id me.1 w a) × then (w, carried_after me.1 a)

  pub word_of : (key : Key O) (s : State (Place I D) (View O)) (l : Law key s) → get_or s.words 0 0 ≡ pack (ring_word key.size l.now)
  word_of key s l = ap (λ (z : List ℕ). get_or z 0 0) l.word

  pub look_at : (key : Key O) (s : State (Place I D) (View O)) (l : Law key s) (slots id : ℕ) (me : Me (Place I D) (View O)) (st : TableStep (Place I D)) → me.0.told ≡ [] → Has me.0.known.number me.0.known.stands → length s.homes ≡ slots → get_elem? s.views id ≡ some me.0 → st.slots ≡ slots
      → Goes key s id me (sees st me (get_or s.words 0 0)) (get_or s.words 0 0)
  look_at key s l slots id me st still has wide at sl = let x : ℕ = get_or s.words 0 0 in let v : View O = me.0 in let is : x ≡ pack (ring_word key.size l.now) = word_of key s l in
      let e : Entry = entry v.known.number x Look in let w : View O = moved (l.log ++ e ∷ []) v in let m = made key s l id v e at still has refl is tt in
      let end : state_after first_state (l.log ++ e ∷ []) ≡ l.now = state_after-append first_state l.log e ∙ l.is in (
        w,
        keeps_act,
        tt,
        steps key s l id v e s.homes x at has refl is tt is l.shelf,
        ((refl, refl), refl, subst (λ (z : ℕ). SeesWord z v.known x w.known) (size_is key s l slots wide ∙ ap (λ (z : ℕ). z - 1) (sym sl)) (m, is ∙ ap (λ (z : RingState). pack (ring_word key.size z)) (sym end))),
      )

  pub looks : (key : Key O) (slots id : ℕ) (me : Me (Place I D) (View O)) → me.0.told ≡ [] → Has me.0.known.number me.0.known.stands → Allows (Law key) slots id me 0 (λ n. n) (sees (step slots 0 0 0 none) me)
  looks key slots id me still has s l wide at _ = look_at key s l slots id me (step slots 0 0 0 none) still has wide at refl
