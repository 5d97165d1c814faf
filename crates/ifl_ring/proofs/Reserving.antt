-- The step that reserves places.
use Rattle.std.proofs.Common.{eqb, ◌≡◌, ℕ, ◌+◌, ◌%◌, ◌<◌, ◌≤◌, List, [], ◌∷◌, ◌++◌, get_or, sym, refl, ap, ◌∙◌, subst, inl, inr, ◌⊎◌, ⊎_elim, arith, mod-lt, le_refl, lt_of_not-le, take}
use mathlib.Core.Logic.{dite}
use native.Mathlib.Decide.{dec_le}
use Rattle.std.specs.Prelude.{Option, Some, None}
use mathlib.Core.Option.{some, none}
use mathlib.Core.Option as maybe
use lib.ListN.{get_elem?}
use prog.Atomic.{either}
use Rattle.std.proofs.Math.Nat.{mod-add-mod}
use Rattle.atomic_table.specs.Table.{State, Me, Step as TableStep, step, Allows, carried_after, homes_after}
use Rattle.atomic_table.proofs.Lists.{exchanged}
use Rattle.ifl_ringcore.specs.declared.history.Meaning.{Meaning}
use Rattle.ifl_ringcore.specs.declared.history.Entry.{Entry}
use Rattle.ifl_ringcore.specs.declared.history.Step.TheVariants.{Reserve}
use Rattle.ifl_ring.specs.declared.view.View.{View}
use Rattle.ifl_base.specs.declared.word.RingWord.{RingWord}
use Rattle.ifl_ring.specs.declared.place.Place.{Place}
use Rattle.ifl_ring.specs.declared.place.Place.TheVariants.{Told}
use Rattle.ifl_ring.specs.declared.place.Key.{Key}
use Rattle.ifl_ringcore.specs.State.{RingState, Consumer, reservation, reservation_of, Role, role_of, free, first_state, ring_word}
use Rattle.ifl_ringcore.specs.Invariant.{Tends, RingInvariant, reach_of}
use Rattle.ifl_ringcore.specs.History.{state_after}
use Rattle.ifl_ringcore.specs.Effects.{effect}
use Rattle.ifl_ringcore.specs.Conditions.{IsAllowed, IsBatch}
use Rattle.ifl_base.specs.Word.{pack}
use Rattle.ifl_base.specs.Space.{space, advanced}
use Rattle.ifl_base.specs.Word.{IsWithin}
use Rattle.ifl_ring.specs.Acts.{take_all, out_all}
use Rattle.ifl_ring.specs.Law.{moved, Posted, Shelf, Lawful, IsAtRest}
use Rattle.ifl_ring.specs.Seats.{entry}
use Rattle.ifl_ring.specs.Tells.{Same, start_of, place_of, Reserves, nothing, reserved}
use Rattle.ifl_ringcore.proofs.Reservations.{cover_le, reservation_of-append}
use Rattle.ifl_ringcore.proofs.Histories.{state_after-append}
use Rattle.ifl_ring.proofs.Slots.{apart, out_carried, out_long, out_else, out_here, out_valid}
use Rattle.ifl_ringcore.proofs.Residues.{space-ring_word, pack-same, number_of-same}
use Rattle.ifl_ring.proofs.Steps.{steps, size_is, made_now, Goes, word_of, look_at}

pub reach_le : (st : RingState) (o : Option Consumer) → st.released ≤ st.published → Tends st o → reach_of st.released o ≤ st.published
reach_le st None le d = le
reach_le st (Some x) le d = d.2

pub le_reach : (st : RingState) (o : Option Consumer) → Tends st o → st.released ≤ reach_of st.released o
le_reach st None d = le_refl st.released
le_reach st (Some x) d = let a = d.1 in omega arith

pub word_is : (size : ℕ) (st : RingState) (w : RingWord) → 0 < size → size ≤ 65536 → IsWithin size w → pack (ring_word size st) ≡ pack w → ring_word size st ≡ w
word_is size st w pos small i e = let a = mod-lt st.reserved pos in let b = mod-lt st.published pos in let c = mod-lt st.released pos in let x = i.0 in let y = i.1 in let z = i.2 in
    let t = pack-same (ring_word size st) w (omega arith) (omega arith) (omega arith) (omega arith) (omega arith) (omega arith) e in
    λ k. record { head = t.0 k; tail = t.1 k; cidx = t.2 k; flag = number_of-same st.flag w.flag t.3 k }

module _ {I D O : Type 0} (meaning : I → Meaning) (origin : D → O) (settled full : D → Type 0) (stands_for : D → List Meaning → Type 0) where
  abbrev Law : Key O → State (Place I D) (View O) → Type 0
  Law = Lawful meaning origin settled full stands_for

  abbrev Sh : ℕ → O → RingState → List (maybe.Option (Place I D)) → Type 0
  Sh = Shelf meaning origin settled full stands_for

  -- where nothing is taken from the number m
  unmoved : (size c a k m : ℕ) (hs : List (maybe.Option (Place I D))) (cs : List (ℕ × Place I D)) → c ≤ a → a + k ≤ c + size → c ≤ m → m < c + size → (m < a) ⊎ (a + k ≤ m)
      → get_elem? (homes_after hs cs (take_all nothing size a k)) (m % size) ≡ get_elem? hs (m % size)
  unmoved size c a k m hs cs ca small l u out = out_else nothing size a k (m % size) hs cs (λ i x y. apart size c m i l u (omega arith) (omega arith) (λ e. ⊎_elim (λ (z : m < a). let f : ⊥ = omega arith in f) (λ (z : a + k ≤ m). let f : ⊥ = omega arith in f) out))

  shelf_reserve : (size : ℕ) (o : O) (st : RingState) (hs : List (maybe.Option (Place I D))) (cs : List (ℕ × Place I D)) (j k : ℕ) → 0 < size → RingInvariant size st → k + st.reserved + 1 < size + st.released → Sh size o st hs
      → Sh size o (effect st j (Reserve k)) (homes_after hs cs (take_all nothing size st.reserved k))
  shelf_reserve size o st hs cs j k pos g roomy h =
      let cp : st.released ≤ st.published = g.released in let pr = cover_le st.published st.reservations st.reserved g.covered in let rp = reach_le st st.consumer cp g.tended in let cr = le_reach st st.consumer g.tended in
      let hs' : List (maybe.Option (Place I D)) = homes_after hs cs (take_all nothing size st.reserved k) in record {
        wide = out_long nothing size st.reserved k hs cs ∙ h.wide;
        taken = λ m a b. unmoved size st.released st.reserved k m hs cs (omega arith) (omega arith) a (omega arith) (inl (omega arith)) ∙ h.taken m a b;
        ready = λ m a b. let t = h.ready m a b in (t.0, unmoved size st.released st.reserved k m hs cs (omega arith) (omega arith) (omega arith) (omega arith) (inl (omega arith)) ∙ t.1, t.2);
        held = λ m a b. dite (dec_le st.reserved m)
            (λ new. out_here nothing size st.reserved k m hs cs new b (let near = mod-lt m pos in let w = h.wide in omega arith))
            (λ old. let low : m < st.reserved = lt_of_not-le old in unmoved size st.released st.reserved k m hs cs (omega arith) (omega arith) (omega arith) (omega arith) (inl low) ∙ h.held m a low);
        vacant = λ m a b. unmoved size st.released st.reserved k m hs cs (omega arith) (omega arith) (omega arith) b (inr a) ∙ h.vacant m (omega arith) b;
        posted = subst (Posted meaning origin settled full stands_for size st.flag o (take st.released st.items) st.consumer) (sym (out_else nothing size st.reserved k size hs cs (λ i x y e. let near = mod-lt i pos in omega arith))) h.posted;
      }

  pub reserves : (key : Key O) (slots id : ℕ) (me : Me (Place I D) (View O)) (old new k : ℕ) (w : RingWord) → me.0.told ≡ [] → IsAtRest me.0.known → IsBatch k → key.size ≤ 65536 → IsWithin key.size w → old ≡ pack w → k < space key.size w
      → new ≡ pack record w { head = advanced key.size w.head k } → Allows (Law key) slots id me 0 (λ x. either (eqb x old) new x) (reserved (step slots 0 old new (some (Told k))) me)
  reserves key slots id me old new k w still rests one small inside was fits more s l wide at _ =
      let x : ℕ = get_or s.words 0 0 in let v : View O = me.0 in let size : ℕ = key.size in let st : TableStep (Place I D) = step slots 0 old new (some (Told k)) in let tells = reserved st me x in
      exchanged x old new (Goes meaning origin settled full stands_for key s id me tells)
      (λ hit. let now : RingState = l.now in let is : x ≡ pack (ring_word size now) = word_of meaning origin settled full stands_for key s l in let g = l.good in let cp : now.released ≤ now.published = g.released in let pr = cover_le now.published now.reservations now.reserved g.covered in
      let same : ring_word size now ≡ w = word_is size now w l.some_size small inside (sym is ∙ hit ∙ was) in
      let free' : space size (ring_word size now) ≡ space size w = ap (space size) same in let sp = space-ring_word size now l.some_size g in
      let fit : k + now.reserved + 1 < size + now.released = omega arith in
      let e : Entry = entry v.known.number x (Reserve k) in let log' : List Entry = l.log ++ e ∷ [] in let w' : View O = moved log' v in
      let sits = l.each id v at in let nm = sits.named rests.named in
      let role' : role_of v.known.number now ≡ free = ap (λ (z : ℕ). role_of z now) nm.0 ∙ (nm.1 ∙ ap (λ (z : ℕ). role_of z (state_after first_state v.known.seen)) (sym nm.0)) ∙ rests.role in
      let no_hold : reservation_of v.known.number now.reservations ≡ None = ap (λ z. z.0) role' in let no_drain = ap (λ z. z.1) role' in
      let may : IsAllowed size now v.known.number (Reserve k) = (one, no_drain, no_hold, fit) in
      let next : new ≡ pack (ring_word size (effect now v.known.number (Reserve k))) = more ∙ ap (λ (z : RingWord). pack record z { head = advanced size z.head k }) (sym same) ∙ ap (λ (z : ℕ). pack record (ring_word size now) { head = z }) (mod-add-mod now.reserved size k) in
      let mn = made_now meaning origin settled full stands_for key s l id v e at still rests.named refl is may in
      let end : state_after first_state log' ≡ effect now v.known.number (Reserve k) = state_after-append first_state l.log e ∙ ap (λ (z : RingState). effect z v.known.number (Reserve k)) l.is in
      let now' : RingState = effect now v.known.number (Reserve k) in
      let got : role_of v.known.number (state_after first_state log') ≡ (Some (reservation v.known.number now.reserved k), None) = ap (role_of v.known.number) end ∙ (λ i. (reservation_of-append v.known.number now.reserved k now.reservations no_hold i, no_drain i)) in
      let where_ : place_of w'.known ≡ now.reserved = ap (λ (z : Role). start_of z.0) got in
      let slots_is = size_is meaning origin settled full stands_for key s l slots wide in
      let carried : carried_after me.1 (take_all nothing size now.reserved k) ≡ out_all nothing size (place_of w'.known) k me.1 = out_carried nothing size now.reserved k me.1 ∙ ap (λ (z : ℕ). out_all nothing size z k me.1) (sym where_) in
      let tale : Reserves size k v.known x w'.known = record {
        made = mn.0;
        role = got ∙ ap (λ (z : ℕ). (Some (reservation v.known.number z k), None)) (sym where_);
        place = where_ ∙ ap (λ (z : RingState). z.reserved) (sym mn.1);
      } in (
        w',
        take_all nothing size now.reserved k,
        out_valid nothing size now.reserved k s.homes me.1 (omega arith) (λ j a b. l.shelf.vacant j a (omega arith)),
        steps meaning origin settled full stands_for key s l id v e (homes_after s.homes me.1 (take_all nothing size now.reserved k)) new at rests.named refl is may next (shelf_reserve size key.origin now s.homes me.1 v.known.number k l.some_size g fit l.shelf),
        ((λ _. subst (λ (z : ℕ). Same v w' × Reserves z k v.known x w'.known × (carried_after me.1 (take_all nothing size now.reserved k) ≡ out_all nothing z (place_of w'.known) k me.1)) slots_is ((refl, refl), tale, carried)), λ miss. absurd (miss hit)),
      ))
      (λ miss. let t = look_at meaning origin settled full stands_for key s l slots id me st still rests.named wide at refl in (t.0, t.1, t.2, t.3, ((λ hit. absurd (miss hit)), λ _. t.4)))
