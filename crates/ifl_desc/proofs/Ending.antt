-- How a ring ends.
use Rattle.std.proofs.Common.{◌≡◌, ℕ, ◌+◌, ◌%◌, ◌<◌, ◌≤◌, ◌≢◌, ◌⊎◌, inl, inr, ⊎_elim, List, [], ◌++◌, length, set, get_or, sym, refl, ap, ◌∙◌, subst, arith, append-nil}
use mathlib.Core.Option.{some, none}
use mathlib.Core.List.{IsPrefix}
use lib.ListN.{get_elem?}
use Rattle.atomic_table.specs.Table.{step, homes_after, keeps, Allows, Joins}
use Rattle.atomic_table.proofs.Lists.{at_set}
use Rattle.ifl_desc.specs.declared.desc.Desc.{Desc}
use Rattle.ifl_desc.specs.declared.history.Side.{Side}
use Rattle.ifl_desc.specs.declared.history.Side.TheVariants.{Driver, Device}
use Rattle.ifl_desc.specs.declared.history.Event.{Event}
use Rattle.ifl_desc.specs.declared.history.Role.{Role}
use Rattle.ifl_desc.specs.declared.history.Role.TheVariants.{Whole, Full, End, Note, Closing}
use Rattle.ifl_desc.specs.declared.history.View.{View}
use Rattle.ifl_desc.specs.History.{other, sent, known}
use Rattle.ifl_desc.specs.Rule.{Slot, laid, gives_all, view, InOrder, Acts, Knows, Tied}
use Rattle.ifl_desc.specs.Plays.{retired, note, closing, gathered}
use Rattle.ifl_desc.proofs.Slots.{Homes, Misses, places, given_homes, given_carried, given_valid, places_length, places_else}
use Rattle.ifl_desc.proofs.Steps.{AtHome, far, at_below, in_window, same_sent, same_known}

module _ (S : ℕ) (tie : List ℕ → List Event → Type 0) where
  -- the device holds the slots of the entries that are not returned and no others
  apart_from : (h : List Event) (homes : Homes Slot) (o : InOrder S h) (size : length homes ≡ S) (pos : 0 < S) (home : AtHome S h homes) (n : ℕ) → length (sent Device h) + n ≡ known Device h
      → (q : Side) (i : ℕ) (d : Desc) → known (other q) h ≤ i → get_elem? (sent q h) i ≡ some d → Misses S (length (sent Device h)) n (i % S)
  apart_from h homes o size pos home n all Driver i d le e = let v = in_window S h homes o size pos home Driver i d le e in let x = o.told in let y = o.done in let z = o.heard in let w = o.within in
      far S (known Driver h) (length (sent Device h)) n i (omega arith) (omega arith) v.0 v.1 (inr (omega arith))
  apart_from h homes o size pos home n all Device i d le e = let v = in_window S h homes o size pos home Device i d le e in let b = at_below (sent Device h) i d e in let x = o.told in let y = o.done in let z = o.heard in let w = o.within in
      far S (known Driver h) (length (sent Device h)) n i (omega arith) (omega arith) v.0 v.1 (inl b)

  pub retires : (id i : ℕ) (seen : List Event) (xs : List Slot) → length (sent Device seen) + length xs ≡ known Device seen → ((ws : List ℕ) (h : List Event) → tie ws h → tie (set ws i (get_or ws i 0)) h)
      → Allows (Tied S tie) S id (view Device seen, laid S (length (sent Device seen)) xs ++ []) i (λ n. n) (retired (step S i 0 0 none) (view Device seen, laid S (length (sent Device seen)) xs ++ []))
  retires id i seen xs all stays s t size at bound =
      let v : View = view Device seen in
      let h : List Event = t.log in
      let k : Knows S h s.homes (End Device) seen = t.each id v at in
      let w : View = view Device h in
      let a : ℕ = length (sent Device seen) in
      let there : length (sent Device h) ≡ a = ap length (sym (same_sent Device seen h k.1)) in
      let kn = same_known Device seen h k.1 in
      let homes : Homes Slot = homes_after s.homes (laid S a xs ++ []) (gives_all (length xs)) in
      let is : homes ≡ places S s.homes (length (sent Device h)) xs = given_homes S s.homes a xs [] ∙ ap (λ (n : ℕ). places S s.homes n xs) (sym there) in
      let T : List (ℕ × Slot) → Type 0 = λ z. retired (step S i 0 0 none) (v, laid S a xs ++ []) (get_or s.words i 0) (w, z) in (
        w,
        gives_all (length xs),
        given_valid S s.homes a xs [],
        record {
          log = h;
          who = t.who;
          size = ap length is ∙ places_length S s.homes (length (sent Device h)) xs ∙ t.size;
          room = t.room;
          shows = stays s.words h t.shows;
          order = t.order;
          lawful = t.lawful;
          at_home = λ q j d le e. ap (λ (z : Homes Slot). get_elem? z (j % S)) is ∙ places_else S s.homes (length (sent Device h)) xs (j % S) (apart_from h s.homes t.order t.size t.room t.at_home (length xs) (omega arith) q j d le e) ∙ t.at_home q j d le e;
          each = λ j x e. ⊎_elim (λ (p : (j ≡ id) × (w ≡ x)). subst (λ (z : View). Knows S h homes z.role z.seen) p.1 (([], append-nil h), refl))
              (λ (p : (j ≢ id) × (get_elem? s.views j ≡ some x)). others x.role x.seen h s.homes homes (λ acts. p.0 (t.one j x p.1 Device acts ∙ sym (t.one id v at Device tt))) (t.each j x p.1)) (at_set s.views id j w x e);
          hears = λ j x e. ⊎_elim (λ (p : (j ≡ id) × (w ≡ x)). subst (λ (z : View). IsPrefix z.heard h) p.1 (h, refl)) (λ (p : (j ≢ id) × (get_elem? s.views j ≡ some x)). t.hears j x p.1) (at_set s.views id j w x e);
          one = λ j x e q acts. ⊎_elim (λ (p : (j ≡ id) × (w ≡ x)). p.0 ∙ t.one id v at q (subst (λ (z : View). Acts z.role q) (sym p.1) acts)) (λ (p : (j ≢ id) × (get_elem? s.views j ≡ some x)). t.one j x p.1 q acts) (at_set s.views id j w x e);
        },
        subst T (sym (given_carried S a xs [])) (refl, k.0, sym k.1, t.order, t.lawful, refl),
      )
    where
      others : (role : Role) (g log : List Event) (homes homes' : Homes Slot) → (Acts role Device → ⊥) → Knows S log homes role g → Knows S log homes' role g
      others Whole g log homes homes' n k = absurd (n tt)
      others Full g log homes homes' n k = absurd (n tt)
      others (End r) g log homes homes' n k = k
      others Note g log homes homes' n k = k
      others (Closing u) g log homes homes' n k = absurd (n tt)

  both_acts : (id other j : ℕ) (r : Side) (who : Side → ℕ) → id ≡ who Driver → other ≡ who Device → j ≡ who r → (j ≡ id) ⊎ (j ≡ other)
  both_acts id other j Driver who a b e = inl (e ∙ sym a)
  both_acts id other j Device who a b e = inr (e ∙ sym b)

  -- the device's seat is joined to the driver's
  pub ends : (id : ℕ) (g : List Event) (other : ℕ) (h : List Event) → Joins (Tied S tie) id (view Driver g) other (view Device h) (closing (view Driver g) (view Device h)) (note [])
  ends id g other h s t at two at' =
      let v : View = view Driver g in
      let w : View = view Device h in
      let u : View = closing v w in
      let vs : List View = set s.views id u in
      let here : get_elem? s.views other ≡ some w = ⊎_elim (λ (p : (other ≡ id) × (u ≡ w)). absurd (two p.0)) (λ (p : (other ≢ id) × (get_elem? s.views other ≡ some w)). p.1) (at_set s.views id other u w at') in
      let kd : Knows S t.log s.homes (End Driver) g = t.each id v at in
      let kv : Knows S t.log s.homes (End Device) h = t.each other w here in
      let only : (j : ℕ) (x : View) → j ≢ id → j ≢ other → get_elem? s.views j ≡ some x → (r : Side) → Acts x.role r → ⊥ =
      λ j x n m e r acts. ⊎_elim (λ (p : j ≡ id). n p) (λ (p : j ≡ other). m p) (both_acts id other j r t.who (t.one id v at Driver tt) (t.one other w here Device tt) (t.one j x e r acts)) in
      record {
        log = t.log;
        who = λ r. id;
        size = t.size;
        room = t.room;
        shows = t.shows;
        order = t.order;
        lawful = t.lawful;
        at_home = t.at_home;
        each = λ j x e. ⊎_elim (λ (p : (j ≡ other) × (note [] ≡ x)). subst (λ (z : View). Knows S t.log s.homes z.role z.seen) p.1 (t.log, refl))
            (λ (p : (j ≢ other) × (get_elem? vs j ≡ some x)). ⊎_elim (λ (q : (j ≡ id) × (u ≡ x)). subst (λ (z : View). Knows S t.log s.homes z.role z.seen) q.1 (kd.0, kd.1, kv.0, kv.1))
            (λ (q : (j ≢ id) × (get_elem? s.views j ≡ some x)). t.each j x q.1) (at_set s.views id j u x p.1)) (at_set vs other j (note []) x e);
        hears = λ j x e. ⊎_elim (λ (p : (j ≡ other) × (note [] ≡ x)). subst (λ (z : View). IsPrefix z.heard t.log) p.1 (t.log, refl))
            (λ (p : (j ≢ other) × (get_elem? vs j ≡ some x)). ⊎_elim (λ (q : (j ≡ id) × (u ≡ x)). subst (λ (z : View). IsPrefix z.heard t.log) q.1 (t.log, refl))
            (λ (q : (j ≢ id) × (get_elem? s.views j ≡ some x)). t.hears j x q.1) (at_set s.views id j u x p.1)) (at_set vs other j (note []) x e);
        one = λ j x e r acts. ⊎_elim (λ (p : (j ≡ other) × (note [] ≡ x)). absurd (subst (λ (z : View). Acts z.role r) (sym p.1) acts))
            (λ (p : (j ≢ other) × (get_elem? vs j ≡ some x)). ⊎_elim (λ (q : (j ≡ id) × (u ≡ x)). q.0)
            (λ (q : (j ≢ id) × (get_elem? s.views j ≡ some x)). absurd (only j x q.0 p.0 q.1 r acts)) (at_set s.views id j u x p.1)) (at_set vs other j (note []) x e);
      }

  -- the seat that stands for both sides looks, and has seen the whole history
  pub gathers : (id i : ℕ) (g h : List Event) (c : List (ℕ × Slot)) → ((ws : List ℕ) (u : List Event) → tie ws u → tie (set ws i (get_or ws i 0)) u)
      → Allows (Tied S tie) S id (closing (view Driver g) (view Device h), c) i (λ n. n) (gathered (step S i 0 0 none) (closing (view Driver g) (view Device h), c))
  gathers id i g h c stays s t size at bound =
      let v : View = closing (view Driver g) (view Device h) in
      let k : Knows S t.log s.homes (Closing h) g = t.each id v at in
      let w : View = record { role = Closing h; seen = t.log; heard = [] } in (
        w,
        keeps,
        tt,
        record {
          log = t.log;
          who = t.who;
          size = t.size;
          room = t.room;
          shows = stays s.words t.log t.shows;
          order = t.order;
          lawful = t.lawful;
          at_home = t.at_home;
          each = λ j x e. ⊎_elim (λ (p : (j ≡ id) × (w ≡ x)). subst (λ (z : View). Knows S t.log s.homes z.role z.seen) p.1 (([], append-nil t.log), refl, k.2, k.3))
              (λ (p : (j ≢ id) × (get_elem? s.views j ≡ some x)). t.each j x p.1) (at_set s.views id j w x e);
          hears = λ j x e. ⊎_elim (λ (p : (j ≡ id) × (w ≡ x)). subst (λ (z : View). IsPrefix z.heard t.log) p.1 (t.log, refl)) (λ (p : (j ≢ id) × (get_elem? s.views j ≡ some x)). t.hears j x p.1) (at_set s.views id j w x e);
          one = λ j x e q acts. ⊎_elim (λ (p : (j ≡ id) × (w ≡ x)). p.0 ∙ t.one id v at q tt) (λ (p : (j ≢ id) × (get_elem? s.views j ≡ some x)). t.one j x p.1 q acts) (at_set s.views id j w x e);
        },
        (k.0, k.1, k.2, k.3, t.lawful, refl),
      )
