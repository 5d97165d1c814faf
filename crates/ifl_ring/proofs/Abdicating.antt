-- The step that publishes and leaves the drain to others.
use Rattle.std.proofs.Common.{eqb, ◌≡◌, ℕ, ◌+◌, ◌-◌, ◌%◌, ◌≤◌, List, [], ◌∷◌, ◌++◌, length, map, take, get_or, sym, refl, ap, ◌∙◌, subst}
use Rattle.std.specs.Prelude.{Option, Some, None}
use mathlib.Core.Option.{some, none, some-ne-none}
use mathlib.Core.Option as maybe
use lib.ListN.{get_elem?}
use prog.Atomic.{either}
use Rattle.std.proofs.Math.Nat.{mod-add-mod}
use Rattle.atomic_table.specs.Table.{State, Me, Step as TableStep, step, Allows, Valid, stepped, carried_after, homes_after}
use Rattle.atomic_table.proofs.Lists.{exchanged}
use Rattle.ifl_base.specs.declared.word.Flag.{Flag}
use Rattle.ifl_base.specs.declared.word.Flag.TheVariants.{Idle, Busy, Stalled, Abdicated}
use Rattle.ifl_ringcore.specs.declared.history.Meaning.{Meaning}
use Rattle.ifl_ringcore.specs.declared.history.Entry.{Entry}
use Rattle.ifl_ringcore.specs.declared.history.Step.TheVariants.{Behind, Abdicating}
use Rattle.ifl_ring.specs.declared.view.View.{View}
use Rattle.ifl_base.specs.declared.word.RingWord.{RingWord}
use Rattle.ifl_ring.specs.declared.place.Place.{Place}
use Rattle.ifl_ring.specs.declared.place.Key.{Key}
use Rattle.ifl_ringcore.specs.State.{RingState, Consumer, reservation, role_of, free, first_state, ring_word}
use Rattle.ifl_ringcore.specs.Effects.{risen, effect}
use Rattle.ifl_ringcore.specs.History.{state_after}
use Rattle.ifl_ringcore.specs.Conditions.{IsAllowed}
use Rattle.ifl_base.specs.Word.{pack}
use Rattle.ifl_base.specs.Space.{advanced}
use Rattle.ifl_base.specs.Word.{IsWithin}
use Rattle.ifl_ring.specs.Acts.{give_all, laid, items_in}
use Rattle.ifl_ring.specs.Seats.{Has, entry}
use Rattle.ifl_ring.specs.Law.{moved, Posted, Shelf, Lawful}
use Rattle.ifl_ring.specs.Tells.{Abdicates, abdicated}
use Rattle.ifl_ringcore.proofs.Histories.{state_after-append}
use Rattle.ifl_ringcore.proofs.Keeping.{cover-without}
use Rattle.ifl_ring.proofs.Laid.{gave_carried, gave_valid, laid_items}
use Rattle.ifl_ring.proofs.Steps.{steps, size_is, made_now, Goes, word_of, look_at}
use Rattle.ifl_ring.proofs.Reserving.{word_is}
use Rattle.ifl_ring.proofs.Publishing.{length_map, at_turn, shelf_give}

still_stalled : (f : Flag) → risen f ≡ Stalled → f ≡ Stalled
still_stalled Idle e = absurd cc
still_stalled Busy e = absurd cc
still_stalled Stalled e = refl
still_stalled Abdicated e = absurd cc

module _ {I D O : Type 0} (meaning : I → Meaning) (origin : D → O) (settled full : D → Type 0) (stands_for : D → List Meaning → Type 0) where
  abbrev Law : Key O → State (Place I D) (View O) → Type 0
  Law = Lawful meaning origin settled full stands_for

  abbrev Sh : ℕ → O → RingState → List (maybe.Option (Place I D)) → Type 0
  Sh = Shelf meaning origin settled full stands_for

  post_rise : (size : ℕ) (st : RingState) (o : O) (done : List Meaning) (x : Option Consumer) (h : maybe.Option (maybe.Option (Place I D))) → Posted meaning origin settled full stands_for size st.flag o done x h → Posted meaning origin settled full stands_for size (risen st.flag) o done x h
  post_rise size st o done None h p = (p.0, p.1, p.2, p.3, p.4, p.5, p.6, λ e. p.7 (still_stalled st.flag e))
  post_rise size st o done (Some d) h p = p

  shelf_rise : (size : ℕ) (o : O) (st : RingState) (j : ℕ) (xs : List Meaning) (hs : List (maybe.Option (Place I D))) → Sh size o (effect st j (Behind xs)) hs → Sh size o (effect st j (Abdicating xs)) hs
  shelf_rise size o st j xs hs h = record { wide = h.wide; taken = h.taken; ready = h.ready; held = h.held; vacant = h.vacant; posted = post_rise size (effect st j (Behind xs)) o (take st.released (st.items ++ xs)) st.consumer (get_elem? hs size) h.posted }

  pub abdicates : (key : Key O) (slots id : ℕ) (me : Me (Place I D) (View O)) (old new a : ℕ) (ys : List I) (w : RingWord) (said : maybe.Option (Place I D)) → me.0.told ≡ [] → Has me.0.known.number me.0.known.stands
      → role_of me.0.known.number (state_after first_state me.0.known.seen) ≡ (Some (reservation me.0.known.number a (length ys)), None) → me.1 ≡ laid key.size a ys []
      → key.size ≤ 65536 → IsWithin key.size w → old ≡ pack w → w.tail ≡ a % key.size → new ≡ pack record w { tail = advanced key.size w.tail (length ys); flag = risen w.flag }
      → Allows (Law key) slots id me 0 (λ x. either (eqb x old) new x) (abdicated meaning (step slots 0 old new said) me)
  abdicates key slots id me old new a ys w said still has role lies small inside was tail more s l wide at _ =
      let x : ℕ = get_or s.words 0 0 in let v : View O = me.0 in let size : ℕ = key.size in let st : TableStep (Place I D) = step slots 0 old new said in let tells = abdicated meaning st me x in
      let k : ℕ = length ys in let j : ℕ = v.known.number in
      exchanged x old new (Goes meaning origin settled full stands_for key s id me tells)
      (λ hit. let now : RingState = l.now in let is : x ≡ pack (ring_word size now) = word_of meaning origin settled full stands_for key s l in let g = l.good in
      let same : ring_word size now ≡ w = word_is size now w l.some_size small inside (sym is ∙ hit ∙ was) in
      let t = at_turn meaning origin settled full stands_for key s l id v a k at has role (ap (λ (z : RingWord). z.tail) same ∙ tail) in
      let xs : List Meaning = map meaning ys in let long : length xs ≡ k = length_map meaning ys in
      let e : Entry = entry j x (Abdicating xs) in let log' : List Entry = l.log ++ e ∷ [] in let w' : View O = moved log' v in
      let may : IsAllowed size now j (Abdicating xs) = t.1 ∙ ap (λ (z : ℕ). Some (reservation j now.published z)) (sym long) in
      let next : new ≡ pack (ring_word size (effect now j (Abdicating xs))) = more ∙ ap (λ (z : RingWord). pack record z { tail = advanced size z.tail k; flag = risen z.flag }) (sym same)
      ∙ ap (λ (z : ℕ). pack record (ring_word size now) { tail = z; flag = risen now.flag }) (mod-add-mod now.published size k) ∙ ap (λ (z : ℕ). pack record (ring_word size now) { tail = (now.published + z) % size; flag = risen now.flag }) (sym long) in
      let mn = made_now meaning origin settled full stands_for key s l id v e at still has refl is may in
      let end : state_after first_state log' ≡ effect now j (Abdicating xs) = state_after-append first_state l.log e ∙ ap (λ (z : RingState). effect z j (Abdicating xs)) l.is in
      let pub' = cover-without size now j k g t.1 in
      let nm = (l.each id v at).named has in
      let role' : role_of j now ≡ (Some (reservation j a k), None) = ap (λ (z : ℕ). role_of z now) nm.0 ∙ (nm.1 ∙ ap (λ (z : ℕ). role_of z (state_after first_state v.known.seen)) (sym nm.0)) ∙ role in
      let got : role_of j (state_after first_state log') ≡ free = ap (role_of j) end ∙ (λ i. (pub'.3 i, (role' i).1)) in
      let lies' : me.1 ≡ laid size now.published ys [] = lies ∙ ap (λ (z : ℕ). laid size z ys []) (sym t.0) in
      let slots_is = size_is meaning origin settled full stands_for key s l slots wide in
      let its : items_in me.1 ≡ ys = ap items_in lies' ∙ laid_items I D size now.published ys in
      let tale : Abdicates size xs v.known x w'.known = record { made = mn.0; role = got } in
      let fullest : Abdicates (slots - 1) (map meaning (items_in me.1)) v.known x w'.known = subst (λ (z : ℕ × List Meaning). Abdicates z.0 z.1 v.known x w'.known) (λ i. (slots_is i, map meaning (sym its i))) tale in
      let gone : carried_after me.1 (give_all k) ≡ [] = ap (λ (z : List (ℕ × Place I D)). carried_after z (give_all k)) lies' ∙ gave_carried size now.published ys [] in
      let homes' = homes_after s.homes (laid size now.published ys []) (give_all k) in
      let law' = steps meaning origin settled full stands_for key s l id v e homes' new at has refl is may next (shelf_rise size key.origin now j xs homes' (shelf_give meaning origin settled full stands_for size key.origin now s.homes ys [] j l.some_size g t.2 l.shelf)) in (
        w',
        give_all k,
        subst (λ (z : List (ℕ × Place I D)). Valid s.homes z (give_all k)) (sym lies') (gave_valid size now.published ys [] s.homes),
        subst (λ (z : List (ℕ × Place I D)). Law key (stepped s 0 new id z w' (give_all k))) (sym lies') law',
        ((λ _. ((refl, refl), fullest, gone)), λ miss. absurd (miss hit)),
      ))
      (λ miss. let t = look_at meaning origin settled full stands_for key s l slots id me st still has wide at refl in (t.0, t.1, t.2, t.3, ((λ hit. absurd (miss hit)), λ _. t.4)))
