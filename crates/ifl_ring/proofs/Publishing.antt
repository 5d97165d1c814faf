-- The steps that publish.
use Rattle.std.proofs.Common.{eqb, ◌≡◌, ℕ, ◌+◌, ◌-◌, ◌%◌, ◌<◌, ◌≤◌, List, [], ◌∷◌, ◌++◌, length, map, take, get_or, sym, refl, ap, ◌∙◌, subst, arith, mod-lt, lt_of_not-le, suc}
use mathlib.Core.Logic.{dite}
use native.Mathlib.Decide.{dec_le}
use Rattle.std.specs.Prelude.{Some, None}
use mathlib.Core.Option.{some, none, some-ne-none}
use mathlib.Core.Option as maybe
use lib.ListN.{get_elem?}
use prog.Atomic.{either}
use Rattle.std.proofs.Math.Nat.{mod-add-mod}
use Rattle.std.proofs.lemmas.List.{take-append-le}
use Rattle.atomic_table.specs.Table.{State, Me, Step as TableStep, step, Allows, Valid, stepped, carried_after, homes_after}
use Rattle.atomic_table.proofs.Lists.{exchanged, at_longer, at_map, one_turn}
use Rattle.ifl_base.specs.declared.word.Flag.TheVariants.{Busy}
use Rattle.ifl_ringcore.specs.declared.history.Meaning.{Meaning}
use Rattle.ifl_ringcore.specs.declared.history.Entry.{Entry}
use Rattle.ifl_ringcore.specs.declared.history.Step.TheVariants.{Behind}
use Rattle.ifl_ring.specs.declared.view.View.{View}
use Rattle.ifl_base.specs.declared.word.RingWord.{RingWord}
use Rattle.ifl_ring.specs.declared.place.Place.{Place}
use Rattle.ifl_ring.specs.declared.place.Key.{Key}
use Rattle.ifl_ringcore.specs.State.{RingState, Role, reservation, reservation_of, role_of, free, first_state, ring_word}
use Rattle.ifl_ringcore.specs.Invariant.{RingInvariant}
use Rattle.ifl_ringcore.specs.History.{state_after}
use Rattle.ifl_ringcore.specs.Effects.{effect}
use Rattle.ifl_ringcore.specs.Conditions.{IsAllowed}
use Rattle.ifl_base.specs.Word.{pack}
use Rattle.ifl_base.specs.Space.{advanced}
use Rattle.ifl_base.specs.Word.{IsWithin}
use Rattle.ifl_ring.specs.Acts.{give_all, laid, items_in}
use Rattle.ifl_ring.specs.Seats.{Has, entry}
use Rattle.ifl_ring.specs.Law.{moved, Posted, Shelf, Lawful}
use Rattle.ifl_ring.specs.Tells.{Behinds, goes_behind}
use Rattle.ifl_ringcore.proofs.Reservations.{reservation_of-within}
use Rattle.ifl_ringcore.proofs.Histories.{state_after-append}
use Rattle.ifl_ringcore.proofs.Keeping.{cover-without}
use Rattle.ifl_ring.proofs.Slots.{apart}
use Rattle.ifl_ring.proofs.Laid.{gave_carried, gave_valid, gave_long, gave_else, gave_here, laid_items}
use Rattle.ifl_ring.proofs.Steps.{steps, size_is, made_now, Goes, word_of, look_at}
use Rattle.ifl_ring.proofs.Reserving.{reach_le, le_reach, word_is}

at_behind : {A : Type 0} (xs zs : List A) (n i : ℕ) (a : A) → length xs ≡ n → get_elem? zs i ≡ some a → get_elem? (xs ++ zs) (n + i) ≡ some a
at_behind [] zs n i a e h = ap (get_elem? zs) (let z : n + i ≡ i = omega arith in z) ∙ h
at_behind (x ∷ xs) zs n i a e h = ap (get_elem? (x ∷ (xs ++ zs))) (let z : n + i ≡ suc ((n - 1) + i) = omega arith in z) ∙ at_behind xs zs (n - 1) i a (omega arith) h

pub length_map : {A B : Type 0} (f : A → B) (xs : List A) → length (map f xs) ≡ length xs
length_map f [] = refl
length_map f (x ∷ xs) = ap suc (length_map f xs)

module _ {I D O : Type 0} (meaning : I → Meaning) (origin : D → O) (settled full : D → Type 0) (stands_for : D → List Meaning → Type 0) where
  abbrev Law : Key O → State (Place I D) (View O) → Type 0
  Law = Lawful meaning origin settled full stands_for

  abbrev Sh : ℕ → O → RingState → List (maybe.Option (Place I D)) → Type 0
  Sh = Shelf meaning origin settled full stands_for

  -- the slots after items were given home behind p
  pub shelf_give : (size : ℕ) (o : O) (st : RingState) (hs : List (maybe.Option (Place I D))) (ys : List I) (cs : List (ℕ × Place I D)) (j : ℕ) → 0 < size → RingInvariant size st → st.published + length ys ≤ st.reserved → Sh size o st hs
      → Sh size o (effect st j (Behind (map meaning ys))) (homes_after hs (laid size st.published ys cs) (give_all (length ys)))
  shelf_give size o st hs ys cs j pos g fits h =
      let cp : st.released ≤ st.published = g.released in let w : st.reserved + 2 ≤ st.released + size = g.within in let rp = reach_le st st.consumer cp g.tended in let cr = le_reach st st.consumer g.tended in let long = length_map meaning ys in
      let count : length st.items ≡ st.published = g.counted in
      let hs' : List (maybe.Option (Place I D)) = homes_after hs (laid size st.published ys cs) (give_all (length ys)) in record {
        wide = gave_long size st.published ys cs hs ∙ h.wide;
        taken = λ m a b. gave_else size st.published (m % size) ys cs hs (λ i x y. apart size st.released m i (omega arith) (omega arith) (omega arith) (omega arith) (omega arith)) ∙ h.taken m a b;
        ready = λ m a b. dite (dec_le st.published m)
            (λ new. let t = gave_here size st.published m ys cs hs new (omega arith) (omega arith) (let near = mod-lt m pos in let wd = h.wide in omega arith) in
            (t.0, t.2, ap (get_elem? (st.items ++ map meaning ys)) (let z : m ≡ st.published + (m - st.published) = omega arith in z) ∙ at_behind st.items (map meaning ys) st.published (m - st.published) (meaning t.0) count (at_map meaning ys (m - st.published) t.0 t.1)))
            (λ old. let low : m < st.published = lt_of_not-le old in let t = h.ready m a low in
            (t.0, gave_else size st.published (m % size) ys cs hs (λ i x y. apart size st.released m i (omega arith) (omega arith) (omega arith) (omega arith) (omega arith)) ∙ t.1, at_longer st.items (map meaning ys) m (meaning t.0) t.2));
        held = λ m a b. gave_else size st.published (m % size) ys cs hs (λ i x y. apart size st.released m i (omega arith) (omega arith) (omega arith) (omega arith) (omega arith)) ∙ h.held m (omega arith) b;
        vacant = λ m a b. gave_else size st.published (m % size) ys cs hs (λ i x y. apart size st.released m i (omega arith) (omega arith) (omega arith) (omega arith) (omega arith)) ∙ h.vacant m a b;
        posted = subst (λ (z : maybe.Option (maybe.Option (Place I D))). Posted meaning origin settled full stands_for size st.flag o (take st.released (st.items ++ map meaning ys)) st.consumer z)
            (sym (gave_else size st.published size ys cs hs (λ i x y e. let near = mod-lt i pos in omega arith)))
            (subst (λ (z : List Meaning). Posted meaning origin settled full stands_for size st.flag o z st.consumer (get_elem? hs size)) (sym (take-append-le st.released st.items (map meaning ys) (omega arith))) h.posted);
      }

  -- the seat's reservation in the state, where the tail is its start
  pub at_turn : (key : Key O) (s : State (Place I D) (View O)) (l : Law key s) (id : ℕ) (v : View O) (a k : ℕ) → get_elem? s.views id ≡ some v → Has v.known.number v.known.stands
      → role_of v.known.number (state_after first_state v.known.seen) ≡ (Some (reservation v.known.number a k), None) → l.now.published % key.size ≡ a % key.size
      → (l.now.published ≡ a) × (reservation_of v.known.number l.now.reservations ≡ Some (reservation v.known.number l.now.published k)) × (l.now.published + k ≤ l.now.reserved) × (1 ≤ k)
  at_turn key s l id v a k at has role tail =
      let now : RingState = l.now in let size : ℕ = key.size in let j : ℕ = v.known.number in let nm = (l.each id v at).named has in
      let role' : role_of j now ≡ (Some (reservation j a k), None) = ap (λ (z : ℕ). role_of z now) nm.0 ∙ (nm.1 ∙ ap (λ (z : ℕ). role_of z (state_after first_state v.known.seen)) (sym nm.0)) ∙ role in
      let held : reservation_of j now.reservations ≡ Some (reservation j a k) = ap (λ (z : Role). z.0) role' in
      let t = reservation_of-within j now.published now.reservations now.reserved (reservation j a k) l.good.covered held in let low : now.published ≤ a = t.0 in let high : a + k ≤ now.reserved = t.1 in
      let g = l.good in let w : now.reserved + 2 ≤ now.released + size = g.within in let cp : now.released ≤ now.published = g.released in
      let same : now.published ≡ a = one_turn now.published a size low (omega arith) tail in
      (same, held ∙ ap (λ (z : ℕ). Some (reservation j z k)) (sym same), omega arith, t.2)

  pub behinds : (key : Key O) (slots id : ℕ) (me : Me (Place I D) (View O)) (old new a : ℕ) (ys : List I) (w : RingWord) (said : maybe.Option (Place I D)) → me.0.told ≡ [] → Has me.0.known.number me.0.known.stands
      → role_of me.0.known.number (state_after first_state me.0.known.seen) ≡ (Some (reservation me.0.known.number a (length ys)), None) → me.1 ≡ laid key.size a ys []
      → key.size ≤ 65536 → IsWithin key.size w → old ≡ pack w → w.tail ≡ a % key.size → w.flag ≡ Busy → new ≡ pack record w { tail = advanced key.size w.tail (length ys) }
      → Allows (Law key) slots id me 0 (λ x. either (eqb x old) new x) (goes_behind meaning (step slots 0 old new said) me)
  behinds key slots id me old new a ys w said still has role lies small inside was tail busy more s l wide at _ =
      let x : ℕ = get_or s.words 0 0 in let v : View O = me.0 in let size : ℕ = key.size in let st : TableStep (Place I D) = step slots 0 old new said in let tells = goes_behind meaning st me x in
      let k : ℕ = length ys in let j : ℕ = v.known.number in
      exchanged x old new (Goes meaning origin settled full stands_for key s id me tells)
      (λ hit. let now : RingState = l.now in let is : x ≡ pack (ring_word size now) = word_of meaning origin settled full stands_for key s l in let g = l.good in
      let same : ring_word size now ≡ w = word_is size now w l.some_size small inside (sym is ∙ hit ∙ was) in
      let t = at_turn key s l id v a k at has role (ap (λ (z : RingWord). z.tail) same ∙ tail) in
      let xs : List Meaning = map meaning ys in let long : length xs ≡ k = length_map meaning ys in
      let flag : now.flag ≡ Busy = ap (λ (z : RingWord). z.flag) same ∙ busy in
      let e : Entry = entry j x (Behind xs) in let log' : List Entry = l.log ++ e ∷ [] in let w' : View O = moved log' v in
      let may : IsAllowed size now j (Behind xs) = (t.1 ∙ ap (λ (z : ℕ). Some (reservation j now.published z)) (sym long), flag) in
      let next : new ≡ pack (ring_word size (effect now j (Behind xs))) = more ∙ ap (λ (z : RingWord). pack record z { tail = advanced size z.tail k }) (sym same)
      ∙ ap (λ (z : ℕ). pack record (ring_word size now) { tail = z }) (mod-add-mod now.published size k) ∙ ap (λ (z : ℕ). pack record (ring_word size now) { tail = (now.published + z) % size }) (sym long) in
      let mn = made_now meaning origin settled full stands_for key s l id v e at still has refl is may in
      let end : state_after first_state log' ≡ effect now j (Behind xs) = state_after-append first_state l.log e ∙ ap (λ (z : RingState). effect z j (Behind xs)) l.is in
      let pub' = cover-without size now j k g t.1 in
      let nm = (l.each id v at).named has in
      let role' : role_of j now ≡ (Some (reservation j a k), None) = ap (λ (z : ℕ). role_of z now) nm.0 ∙ (nm.1 ∙ ap (λ (z : ℕ). role_of z (state_after first_state v.known.seen)) (sym nm.0)) ∙ role in
      let got : role_of j (state_after first_state log') ≡ free = ap (role_of j) end ∙ (λ i. (pub'.3 i, (role' i).1)) in
      let lies' : me.1 ≡ laid size now.published ys [] = lies ∙ ap (λ (z : ℕ). laid size z ys []) (sym t.0) in
      let slots_is = size_is meaning origin settled full stands_for key s l slots wide in
      let its : items_in me.1 ≡ ys = ap items_in lies' ∙ laid_items I D size now.published ys in
      let tale : Behinds size xs v.known x w'.known = record { made = mn.0; role = got } in
      let fullest : Behinds (slots - 1) (map meaning (items_in me.1)) v.known x w'.known = subst (λ (z : ℕ × List Meaning). Behinds z.0 z.1 v.known x w'.known) (λ i. (slots_is i, map meaning (sym its i))) tale in
      let gone : carried_after me.1 (give_all k) ≡ [] = ap (λ (z : List (ℕ × Place I D)). carried_after z (give_all k)) lies' ∙ gave_carried size now.published ys [] in
      let homes' = homes_after s.homes (laid size now.published ys []) (give_all k) in
      let law' = steps meaning origin settled full stands_for key s l id v e homes' new at has refl is may next (shelf_give size key.origin now s.homes ys [] j l.some_size g t.2 l.shelf) in (
        w',
        give_all k,
        subst (λ (z : List (ℕ × Place I D)). Valid s.homes z (give_all k)) (sym lies') (gave_valid size now.published ys [] s.homes),
        subst (λ (z : List (ℕ × Place I D)). Law key (stepped s 0 new id z w' (give_all k))) (sym lies') law',
        ((λ _. ((refl, refl), fullest, gone)), λ miss. absurd (miss hit)),
      ))
      (λ miss. let t = look_at meaning origin settled full stands_for key s l slots id me st still has wide at refl in (t.0, t.1, t.2, t.3, ((λ hit. absurd (miss hit)), λ _. t.4)))
