-- A step that finds a word and is refused by it, or looks.
use Rattle.std.proofs.Common.{eqb, ◌≡◌, ℕ, ◌+◌, ◌-◌, ◌<◌, ◌≤◌, List, [], ◌∷◌, ◌++◌, get_or, sym, refl, ap, ◌∙◌, subst, arith, lt_of_not-le}
use mathlib.Core.Logic.{dite}
use native.Mathlib.Decide.{dec_le}
use Rattle.std.specs.Prelude.{None}
use mathlib.Core.Option.{some}
use prog.Atomic.{either}
use Rattle.atomic_table.specs.Table.{State, Me, Step as TableStep, step, Allows}
use Rattle.atomic_table.proofs.Lists.{exchanged}
use Rattle.ifl_ringcore.specs.declared.history.Meaning.{Meaning}
use Rattle.ifl_ringcore.specs.declared.history.Entry.{Entry}
use Rattle.ifl_ringcore.specs.declared.history.Step.TheVariants.{Look}
use Rattle.ifl_ring.specs.declared.view.View.{View}
use Rattle.ifl_base.specs.declared.word.RingWord.{RingWord}
use Rattle.ifl_ring.specs.declared.place.Place.{Place}
use Rattle.ifl_ring.specs.declared.place.Place.TheVariants.{Told}
use Rattle.ifl_ring.specs.declared.place.Key.{Key}
use Rattle.ifl_ringcore.specs.State.{RingState, reservation_of, role_of, free, first_state, ring_word}
use Rattle.ifl_ringcore.specs.History.{state_after}
use Rattle.ifl_ringcore.specs.Effects.{effect}
use Rattle.ifl_ringcore.specs.Conditions.{IsAllowed, IsBatch}
use Rattle.ifl_base.specs.Word.{pack}
use Rattle.ifl_base.specs.Space.{space}
use Rattle.ifl_ring.specs.Law.{moved, Lawful, IsAtRest}
use Rattle.ifl_ringcore.proofs.Histories.{state_after-append}
use Rattle.ifl_ringcore.proofs.Residues.{space-ring_word}
use Rattle.ifl_ring.proofs.Steps.{steps, size_is, made_now, Goes, word_of}
use Rattle.ifl_ringcore.specs.declared.history.Step.TheVariants.{Refuse}
use Rattle.std.proofs.Common.{◌^◌, ◌*◌}
use Rattle.atomic_table.specs.Table.{keeps as keeps_act}
use Rattle.ifl_ring.specs.Seats.{entry, Made}
use Rattle.ifl_ring.specs.Tells.{refused}
use Rattle.ifl_ring.proofs.Rests.{small_word}

module _ {I D O : Type 0} (meaning : I → Meaning) (origin : D → O) (settled full : D → Type 0) (stands_for : D → List Meaning → Type 0) where
  abbrev Law : Key O → State (Place I D) (View O) → Type 0
  Law = Lawful meaning origin settled full stands_for

  pub refuses : (key : Key O) (slots id : ℕ) (me : Me (Place I D) (View O)) (old new k : ℕ) → me.0.told ≡ [] → IsAtRest me.0.known → IsBatch k → key.size ≤ 65536 → 4 * 2 ^ 48 ≤ old
      → Allows (Law key) slots id me 0 (λ x. either (eqb x old) new x) (refused (step slots 0 old new (some (Told k))) me)
  refuses key slots id me old new k still rests one small never s l wide at _ =
      let x : ℕ = get_or s.words 0 0 in let v : View O = me.0 in let size : ℕ = key.size in let st : TableStep (Place I D) = step slots 0 old new (some (Told k)) in let tells = refused st me x in
      let now : RingState = l.now in let is : x ≡ pack (ring_word size now) = word_of meaning origin settled full stands_for key s l in let g = l.good in
      exchanged x old new (Goes meaning origin settled full stands_for key s id me tells)
      (λ hit. absurd (let a = small_word size x l.some_size small (now, is) in omega arith))
      (λ miss. let sits = l.each id v at in let nm = sits.named rests.named in
      let role' : role_of v.known.number now ≡ free = ap (λ (z : ℕ). role_of z now) nm.0 ∙ (nm.1 ∙ ap (λ (z : ℕ). role_of z (state_after first_state v.known.seen)) (sym nm.0)) ∙ rests.role in
      let no_hold : reservation_of v.known.number now.reservations ≡ None = ap (λ z. z.0) role' in let no_drain = ap (λ z. z.1) role' in
      let slots_is = size_is meaning origin settled full stands_for key s l slots wide in let sp = space-ring_word size now l.some_size g in
      let w : RingWord = ring_word size now in
      dite (dec_le (space size w) k)
      (λ crowded. let e : Entry = entry v.known.number x (Refuse k) in let w' : View O = moved (l.log ++ e ∷ []) v in
      let may : IsAllowed size now v.known.number (Refuse k) = (one, no_drain, no_hold, omega arith) in let mn = made_now meaning origin settled full stands_for key s l id v e at still rests.named refl is may in
      let end : state_after first_state (l.log ++ e ∷ []) ≡ now = state_after-append first_state l.log e ∙ ap (λ (z : RingState). effect z v.known.number (Refuse k)) l.is in (
        w',
        keeps_act,
        tt,
        steps meaning origin settled full stands_for key s l id v e s.homes x at rests.named refl is may is l.shelf,
        (
          (refl, refl),
          refl,
          w,
          is,
          subst (λ (z : ℕ × RingState). w ≡ ring_word z.0 z.1) (λ i. (slots_is i, sym end i)) refl,
          (λ _. subst (λ (z : ℕ). Made z v.known e w'.known) slots_is mn.0),
          (λ less. absurd (subst (λ (z : ℕ). k < space z w → ⊥) slots_is (λ (z : k < space size w). let f : ⊥ = omega arith in f) less)),
        ),
      ))
      (λ free'. let e : Entry = entry v.known.number x Look in let w' : View O = moved (l.log ++ e ∷ []) v in
      let mn = made_now meaning origin settled full stands_for key s l id v e at still rests.named refl is tt in
      let end : state_after first_state (l.log ++ e ∷ []) ≡ now = state_after-append first_state l.log e ∙ l.is in let less : k < space size w = lt_of_not-le free' in (
        w',
        keeps_act,
        tt,
        steps meaning origin settled full stands_for key s l id v e s.homes x at rests.named refl is tt is l.shelf,
        (
          (refl, refl),
          refl,
          w,
          is,
          subst (λ (z : ℕ × RingState). w ≡ ring_word z.0 z.1) (λ i. (slots_is i, sym end i)) refl,
          (λ crowded. absurd (subst (λ (z : ℕ). space z w ≤ k → ⊥) slots_is (λ (z : space size w ≤ k). let f : ⊥ = omega arith in f) crowded)),
          (λ _. subst (λ (z : ℕ). Made z v.known e w'.known) slots_is mn.0),
        ),
      )))

module _ {I D O : Type 0} where
  -- the word that was found is that of the state
  pub refused_word : (slots size k old new x : ℕ) (m m' : Me (Place I D) (View O)) → slots ≡ size + 1 → refused (step slots 0 old new (some (Told k))) m x m' → x ≡ pack (ring_word size (state_after first_state m'.0.known.seen))
  refused_word slots size k old new x m m' sl t = let less : slots - 1 ≡ size = omega arith in t.3 ∙ ap pack t.4 ∙ ap (λ (z : ℕ). pack (ring_word z (state_after first_state m'.0.known.seen))) less
