-- What a seat knows as it looks for room.
use Rattle.std.proofs.Common.{◌≡◌, ℕ, ◌+◌, ◌-◌, ◌<◌, ◌≤◌, true, false, List, [], ◌∷◌, ◌++◌, sym, refl, ap, ◌∙◌, subst, ⊎_elim, arith}
use mathlib.Core.Option.{some}
use Rattle.atomic_table.specs.Table.{Me, step}
use Rattle.ifl_base.specs.declared.word.RingWord.{RingWord}
use Rattle.ifl_base.specs.Space.{space}
use Rattle.ifl_base.specs.Word.{IsWithin, pack}
use Rattle.ifl_ringcore.specs.declared.history.Entry.{Entry}
use Rattle.ifl_ringcore.specs.declared.history.Step.{Step}
use Rattle.ifl_ringcore.specs.declared.history.Step.TheVariants.{Look, Refuse, Advance}
use Rattle.ifl_ringcore.specs.History.{state_after}
use Rattle.std.specs.Prelude.{Some}
use Rattle.ifl_ringcore.specs.State.{first_state, reservation, reservation_of, ring_word, RingState, Role}
use Rattle.ifl_ringcore.specs.Invariant.{RingInvariant}
use Rattle.ifl_ringcore.proofs.Reservations.{reservation_of-within}
use Rattle.ifl_ring.specs.Acts.{out_all}
use Rattle.ifl_ring.specs.Publishing.{HasPlaces}
use Rattle.ifl_ring.specs.declared.answers.Checked.{Checked}
use Rattle.ifl_ring.specs.declared.answers.Checked.TheVariants.{NotNeeded, Lost, Drained}
use Rattle.ifl_ring.specs.declared.place.Place.{Place}
use Rattle.ifl_ring.specs.declared.place.Place.TheVariants.{Told}
use Rattle.ifl_ring.specs.declared.view.Known.{Known}
use Rattle.ifl_ring.specs.declared.view.View.{View}
use Rattle.ifl_ring.specs.Calls.{AreLooks, AreOfDrain, EndsReserved, IsChecked, IsDrain, parting, publishes, publishing}
use Rattle.ifl_ring.specs.Seats.{Has, entry, last_word, Made}
use Rattle.ifl_ring.specs.Law.{IsAtRest}
use Rattle.ifl_ring.specs.Tells.{nothing, place_of, refused, Reserves, Same}
use Rattle.ifl_ring.proofs.Bridge.{place_head, sized}
use Rattle.ifl_ring.proofs.Reserving.{word_is}
use Rattle.ifl_ring.proofs.Rests.{rests}
use Rattle.ifl_ring.proofs.Trails.{bool_cases}
use Rattle.ifl_base.specs.declared.word.Flag.{Flag}
use Rattle.ifl_base.specs.declared.word.Flag.TheVariants.{Idle, Busy, Stalled, Abdicated}

module _ {I D O : Type 0} where
  -- what a step that finds any word tells of the word that was read
  pub refused-sized : (slots size k old new x : ℕ) (m m' : Me (Place I D) (View O)) (word : RingWord) → slots ≡ size + 1 → 0 < size → size ≤ 65536 → IsWithin size word → pack word ≡ x → refused (step slots 0 old new (some (Told k))) m x m'
      → Same m.0 m'.0 × (m'.1 ≡ m.1) × (word ≡ last_word size m'.0.known)
      × (space size word ≤ k → Made size m.0.known (entry m.0.known.number (pack word) (Refuse k)) m'.0.known)
      × (k < space size word → Made size m.0.known (entry m.0.known.number (pack word) Look) m'.0.known)
  refused-sized slots size k old new x m m' word sl pos small within packs t =
      let size_eq : slots - 1 ≡ size = sized slots size sl in let w : RingWord = t.2 in
      let at_size : w ≡ last_word size m'.0.known = t.4 ∙ ap (λ (z : ℕ). ring_word z (state_after first_state m'.0.known.seen)) size_eq in
      let same : w ≡ word = at_size ∙ word_is size (state_after first_state m'.0.known.seen) word pos small within (ap pack (sym at_size) ∙ sym t.3 ∙ sym packs) in
      let found : x ≡ pack word = sym packs in (
        t.0,
        t.1,
        sym same ∙ at_size,
        subst (λ (z : ℕ × RingWord × ℕ). space z.0 z.1 ≤ k → Made z.0 m.0.known (entry m.0.known.number z.2 (Refuse k)) m'.0.known) (λ i. (size_eq i, same i, found i)) t.5,
        subst (λ (z : ℕ × RingWord × ℕ). k < space z.0 z.1 → Made z.0 m.0.known (entry m.0.known.number z.2 Look) m'.0.known) (λ i. (size_eq i, same i, found i)) t.6,
      )

pub rests-refused : (size n : ℕ) (found : ℕ) (v w : Known) → IsAtRest v → Made size v (entry v.number found (Refuse n)) w → IsAtRest w
rests-refused size n found v w r m = rests size v (entry v.number found (Refuse n)) w r.named m (m.role ∙ r.role)

pub rests-made_look : (size : ℕ) (found : ℕ) (v w : Known) → IsAtRest v → Made size v (entry v.number found Look) w → IsAtRest w
rests-made_look size found v w r m = rests size v (entry v.number found Look) w r.named m (m.role ∙ r.role)

pub publishing-append : (es fs : List Entry) → publishing (es ++ fs) ≡ publishing es ++ publishing fs
publishing-append [] fs = refl
publishing-append (e ∷ es) fs = let rec = publishing-append es fs in ⊎_elim
    (λ (t : publishes e.event ≡ true). rw t (ap (λ (z : List Step). e.event ∷ z) rec))
    (λ (f : publishes e.event ≡ false). rw f rec)
    (bool_cases (publishes e.event))

publishing-quiet : (e : Entry) (es : List Entry) → publishes e.event ≡ false → publishing es ≡ [] → publishing (e ∷ es) ≡ []
publishing-quiet e es f rec = rw f rec

pub publishing-looks : (es : List Entry) → AreLooks es → publishing es ≡ []
publishing-looks [] q = refl
publishing-looks (e ∷ es) (is, q) = publishing-quiet e es (ap publishes is) (publishing-looks es q)

publishing-of_drain : (es : List Entry) → AreOfDrain es → publishing es ≡ []
publishing-of_drain [] q = refl
publishing-of_drain (e ∷ es) (is, q) = publishing-quiet e es (⊎_elim (λ (t : e.event ≡ Look). ap publishes t) (λ (t : (n : ℕ) × (e.event ≡ Advance n)). ap publishes t.1) is) (publishing-of_drain es q)

publishes-parting : (f : Flag) (n : ℕ) → publishes (parting f n) ≡ false
publishes-parting Idle n = refl
publishes-parting Busy n = refl
publishes-parting Stalled n = refl
publishes-parting Abdicated n = refl

pub publishing-drain : (left : Flag) (total : ℕ) (es : List Entry) → IsDrain left total es → publishing es ≡ []
publishing-drain left total es d = ap publishing d.is ∙ publishing-append d.going (d.last ∷ []) ∙ ap (λ (z : List Step). z ++ publishing (d.last ∷ [])) (publishing-of_drain d.going d.goes)
    ∙ publishing-quiet d.last [] (ap publishes d.leaves ∙ publishes-parting left d.count) refl

-- a reservation takes fewer places than the ring has
pub reservation-small : (size : ℕ) (st : RingState) (k a n : ℕ) → RingInvariant size st → reservation_of k st.reservations ≡ Some (reservation k a n) → n < size
reservation-small size st k a n g is = let t = reservation_of-within k st.published st.reservations st.reserved (reservation k a n) g.covered is in
    let low : st.published ≤ a = t.0 in let high : a + n ≤ st.reserved = t.1 in let done = g.released in let near = g.within in omega arith

module _ {I D O : Type 0} where
  -- a seat that reserved has its places
  pub has_places : (size n : ℕ) (word : RingWord) (m m' : Me (Place I D) (View O)) → 0 < size → size ≤ 65536 → IsWithin size word → Has m.0.known.number m.0.known.stands → m'.0.told ≡ [] → Reserves size n m.0.known (pack word) m'.0.known
      → m'.1 ≡ out_all nothing size (place_of m'.0.known) n [] → (n < size) × HasPlaces size n word.head m'
  has_places size n word m m' pos small within mine still t out = (
    reservation-small size (state_after first_state m'.0.known.seen) m'.0.known.number (place_of m'.0.known) n t.made.good (ap (λ (z : Role). z.0) t.role),
    record {
      start = place_of m'.0.known;
      named = subst (λ (z : Known). Has z.number z.stands) (sym t.made.is) mine;
      still = still;
      role = t.role;
      lies = out;
      here = place_head size n m.0.known m'.0.known word pos small within t;
    },
  )

pub publishing-reserved : (n : ℕ) (es : List Entry) → EndsReserved n es → publishing es ≡ []
publishing-reserved n es t = ap publishing t.2 ∙ publishing-append t.0 (t.1 ∷ []) ∙ ap (λ (z : List Step). z ++ publishing (t.1 ∷ [])) (publishing-looks t.0 t.3) ∙ publishing-quiet t.1 [] (ap publishes t.4) refl

-- looks, looks again, and a step that does not publish
pub publishing-last : (es fs : List Entry) (e : Entry) → AreLooks es → AreLooks fs → publishes e.event ≡ false → publishing (es ++ (fs ++ e ∷ [])) ≡ []
publishing-last es fs e a b f = publishing-append es (fs ++ e ∷ []) ∙ ap (λ (z : List Step). z ++ publishing (fs ++ e ∷ [])) (publishing-looks es a)
    ∙ publishing-append fs (e ∷ []) ∙ ap (λ (z : List Step). z ++ publishing (e ∷ [])) (publishing-looks fs b) ∙ publishing-quiet e [] f refl

pub publishing-checked : (budget : ℕ) (checked : Checked) (es : List Entry) → IsChecked budget checked es → publishing es ≡ []
publishing-checked budget (NotNeeded seen) es t = ap publishing t.1 ∙ publishing-quiet t.0 [] (ap publishes t.2.0) refl
publishing-checked budget (Lost seen) es t = ap publishing t.3 ∙ publishing-quiet t.1 (t.2 ∷ []) (ap publishes t.4.0) (publishing-quiet t.2 [] (ap publishes t.6.0) refl)
publishing-checked budget (Drained left total) es t = ap publishing t.4 ∙ publishing-quiet t.1 (t.2 ∷ t.3) (ap publishes t.5.0) (publishing-quiet t.2 t.3 (ap publishes t.7.0) (publishing-drain left total t.3 t.8))
