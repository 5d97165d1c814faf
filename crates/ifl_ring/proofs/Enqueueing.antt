-- What a seat publishes, and what this counts.
use Rattle.std.proofs.Common.{true, false, ◌≡◌, ℕ, ◌<◌, ◌≤◌, List, [], ◌∷◌, ◌++◌, length, map, sym, refl, ap, ◌∙◌, subst}
use Rattle.atomic_table.specs.Table.{Me}
use Rattle.ifl_base.specs.declared.word.Flag.{Flag}
use Rattle.ifl_base.specs.declared.word.RingWord.{RingWord}
use Rattle.ifl_base.specs.Word.{IsWithin, pack}
use Rattle.std.proofs.Common.{Bool}
use Rattle.std.specs.Prelude.{Some, None}
use Rattle.ifl_ring.specs.declared.answers.Enqueued.{Enqueued}
use Rattle.ifl_ring.specs.declared.answers.Enqueued.TheVariants as answer
use Rattle.ifl_ringcore.specs.declared.history.Step.{Step}
use Rattle.ifl_ring.specs.Calls.{AreHandedOver, AreLooks, IsPublication, EndsReserved, IsDelivered, IsDelivery, IsEnqueued, publishes, publishing}
use Rattle.ifl_ring.proofs.Claiming.{publishing-append, publishing-drain, publishing-looks, publishing-reserved}
use Rattle.ifl_ringcore.specs.Counters.{nothing_counted, one_if, is_idle}
use Rattle.ifl_ringcore.specs.declared.history.Entry.{Entry}
use Rattle.ifl_ringcore.specs.declared.history.Meaning.{Meaning}
use Rattle.ifl_ringcore.specs.declared.history.Step.TheVariants as step
use Rattle.ifl_ringcore.specs.History.{state_after}
use Rattle.ifl_ringcore.specs.State.{first_state, reservation, role_of, RingState}
use Rattle.ifl_ring.specs.declared.place.Place.{Place}
use Rattle.ifl_ring.specs.declared.published.Published.TheVariants.{Behind, Abdicated, Elected}
use Rattle.ifl_ring.specs.declared.view.Known.{Known}
use Rattle.ifl_ring.specs.declared.view.View.{View}
use Rattle.ifl_ring.specs.Acts.{items_in, laid}
use Rattle.ifl_ring.specs.Seats.{Has, entry, Made}
use Rattle.ifl_ring.specs.Publishing.{HasPlaces, IsPublished}
use Rattle.ifl_ring.specs.Tells.{Holding, HoldsAt}
use Rattle.ifl_ring.specs.Trails.{Trails}
use Rattle.ifl_ring.proofs.Laid.{laid_items}
use Rattle.ifl_ring.proofs.Publishing.{length_map}
use Rattle.ifl_ring.proofs.Reserving.{word_is}
use Rattle.ifl_ring.proofs.Trails.{trail-made}

-- as many items as the reservation takes
pub count-held : {I D O : Type 0} (meaning : I → Meaning) (size n : ℕ) (m : Me (Place I D) (View O)) → Holding size n m → length (map meaning (items_in m.1)) ≡ n
count-held {I = I} {D = D} meaning size n m h = length_map meaning (items_in m.1) ∙ ap length (ap items_in h.lies ∙ laid_items I D size h.place h.items) ∙ h.count

module _ (size budget n : ℕ) (xs : List Meaning) (w : RingWord) (v v' : Known) (mine : Has v.number v.stands) (count : length xs ≡ n) where
  pub published-behind : Made size v (entry v.number (pack w) (step.Behind xs)) v' → IsPublished size budget n false xs w v Behind v'
  published-behind m = record {
    entry = entry v.number (pack w) (step.Behind xs);
    finds = (refl, refl);
    asked = refl;
    trail = subst (λ (z : ℕ). Trails size v (entry v.number (pack w) (step.Behind xs) ∷ []) record nothing_counted { enqueues = z } v') count (trail-made size v (entry v.number (pack w) (step.Behind xs)) v' mine m);
  }

  pub published-abdicating : Made size v (entry v.number (pack w) (step.Abdicating xs)) v' → IsPublished size budget n true xs w v Abdicated v'
  published-abdicating m = record {
    entry = entry v.number (pack w) (step.Abdicating xs);
    finds = (refl, refl);
    asked = refl;
    trail = subst (λ (z : ℕ). Trails size v (entry v.number (pack w) (step.Abdicating xs) ∷ []) record nothing_counted { enqueues = z } v') count (trail-made size v (entry v.number (pack w) (step.Abdicating xs)) v' mine m);
  }

  pub published-elected : (items : ℕ) → 0 < size → size ≤ 65536 → IsWithin size w → Made size v (entry v.number (pack w) (step.Elected budget xs)) v' → IsPublished size budget n false xs w v (Elected items) v'
  published-elected items pos small within m = let st0 : RingState = state_after first_state (v.seen ++ m.between) in
      let flag_is : st0.flag ≡ w.flag = ap (λ (z : RingWord). z.flag) (word_is size st0 w pos small within (sym m.found)) in record {
        entry = entry v.number (pack w) (step.Elected budget xs);
        finds = (refl, refl);
        asked = refl;
        trail = subst (λ (z : ℕ × Flag). Trails size v (entry v.number (pack w) (step.Elected budget xs) ∷ []) record nothing_counted { enqueues = z.0; starts = one_if (is_idle z.1) } v') (λ i. (count i, flag_is i)) (trail-made size v (entry v.number (pack w) (step.Elected budget xs)) v' mine m);
      }

-- looks, one step that publishes, and others that do not
pub publishing-one : (s : Step) (es fs : List Entry) (e : Entry) → AreLooks es → e.event ≡ s → publishes s ≡ true → publishing fs ≡ [] → publishing (es ++ e ∷ fs) ≡ s ∷ []
publishing-one s es fs e quiet is aye none = let here : publishes e.event ≡ true = ap publishes is ∙ aye in
    publishing-append es (e ∷ fs) ∙ ap (λ (z : List Step). z ++ publishing (e ∷ fs)) (publishing-looks es quiet) ∙ (let f : publishing (e ∷ fs) ≡ e.event ∷ publishing fs = rw here refl in f) ∙ (λ i. is i ∷ none i)

-- the reservation's places, with items laid into them
pub holds-laid : {I D O : Type 0} (size n at : ℕ) (items : List I) (m m' : Me (Place I D) (View O)) (p : HasPlaces size n at m) → length items ≡ n → m'.0 ≡ m.0 → m'.1 ≡ [] ++ laid size p.start items [] → HoldsAt size n at m'
holds-laid {I = I} {D = D} {O = O} size n at items m m' p count view out = (
  record {
    place = p.start;
    items = items;
    count = count;
    named = subst (λ (z : View O). Has z.known.number z.known.stands) (sym view) p.named;
    still = ap (λ (z : View O). z.told) view ∙ p.still;
    role = subst (λ (z : View O). role_of z.known.number (state_after first_state z.known.seen) ≡ (Some (reservation z.known.number p.start n), None)) (sym view) p.role;
    lies = out;
  },
  p.here,
)

pub items-laid : {I D : Type 0} (size a : ℕ) (items : List I) (c : List (ℕ × Place I D)) → c ≡ [] ++ laid size a items [] → items_in c ≡ items
items-laid {I = I} {D = D} size a items c is = ap items_in is ∙ laid_items I D size a items

publishing-published : (s : Step) (behind_it es : List Entry) → publishes s ≡ true → publishing behind_it ≡ [] → IsPublication s behind_it es → publishing es ≡ s ∷ []
publishing-published s behind_it es aye none p = ap publishing p.2 ∙ publishing-one s p.0 behind_it p.1 p.3 p.4 aye none

publishing-sent : (s : Step) (n : ℕ) (es fs : List Entry) → EndsReserved n es → publishing fs ≡ s ∷ [] → publishing (es ++ fs) ≡ s ∷ []
publishing-sent s n es fs r one = publishing-append es fs ∙ (λ i. publishing-reserved n es r i ++ one i)

-- a reservation before a delivery
pub enqueued-sent : (size budget n : ℕ) (abdicate : Bool) (xs : List Meaning) (got : Enqueued) (es fs : List Entry) → EndsReserved n es → IsDelivery budget abdicate xs got fs → IsEnqueued size budget abdicate n xs got (es ++ fs)
enqueued-sent size budget n abdicate xs answer.Behind es fs r d = (publishing-sent (step.Behind xs) n es fs r (publishing-published (step.Behind xs) [] fs refl refl d.1), (es, fs, refl, r, d))
enqueued-sent size budget n abdicate xs answer.Abdicated es fs r d = (publishing-sent (step.Abdicating xs) n es fs r (publishing-published (step.Abdicating xs) [] fs refl refl d.1), (es, fs, refl, r, d))
enqueued-sent size budget n abdicate xs (answer.Drained left total) es fs r d =
    (publishing-sent (step.Elected budget xs) n es fs r (publishing-published (step.Elected budget xs) d.1 fs refl (publishing-drain left total d.1 d.3) d.2), (es, fs, refl, r, d))
enqueued-sent size budget n abdicate xs (answer.NoBuffers seen) es fs r d = absurd d

pub handed-over : {I : Type 0} (got : Enqueued) (before after_it : List I) → IsDelivered got → after_it ≡ [] → AreHandedOver got before after_it
handed-over answer.Behind before after_it d e = e
handed-over answer.Abdicated before after_it d e = e
handed-over (answer.Drained left total) before after_it d e = e
handed-over (answer.NoBuffers seen) before after_it d e = absurd d
