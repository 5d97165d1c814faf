-- What the steps tell, in the ring's own size.
use Rattle.std.proofs.Common.{◌≡◌, ◌≢◌, ℕ, ◌+◌, ◌-◌, ◌<◌, ◌≤◌, List, [], ◌∷◌, sym, refl, ap, ◌∙◌, subst, arith}
use mathlib.Core.Option.{some, none}
use Rattle.atomic_table.specs.Table.{Me, step}
use Rattle.ifl_ring.specs.declared.view.Known.{Known}
use Rattle.ifl_ring.specs.declared.view.View.{View}
use Rattle.ifl_ring.specs.declared.place.Place.{Place}
use Rattle.ifl_ring.specs.declared.place.Place.TheVariants.{Item, Told, Parting}
use Rattle.ifl_base.specs.declared.word.Flag.{Flag}
use Rattle.std.proofs.Common.{◌++◌, map}
use Rattle.std.specs.Prelude.{Some, None}
use Rattle.ifl_ringcore.specs.declared.history.Meaning.{Meaning}
use Rattle.ifl_ringcore.specs.declared.history.Entry.{Entry}
use Rattle.ifl_ringcore.specs.declared.history.Step.TheVariants.{Look}
use Rattle.ifl_ringcore.specs.State.{reservation, role_of, first_state}
use Rattle.ifl_ringcore.specs.History.{state_after}
use Rattle.ifl_ring.specs.Seats.{Has, entry}
use Rattle.ifl_ringcore.proofs.Histories.{state_after-append}
use Rattle.std.proofs.Common.{◌%◌}
use Rattle.ifl_base.specs.declared.word.RingWord.{RingWord}
use Rattle.ifl_base.specs.Word.{pack}
use Rattle.ifl_base.specs.Word.{IsWithin}
use Rattle.ifl_ring.specs.Tells.{Abdicates, abdicated, HoldsAt}
use Rattle.ifl_ring.proofs.Reserving.{word_is}
use Rattle.ifl_ring.specs.Acts.{out_all, items_in}
use Rattle.ifl_ring.specs.Tells.{SeesWord, Reserves, Behinds, Same, nothing, place_of, sees, reserved, goes_behind, drains, Electing, Handed, Holding, Leaves, Advances, left, went_forth, took_over, TakesOver}

pub sized : (slots size : ℕ) → slots ≡ size + 1 → slots - 1 ≡ size
sized slots size e = omega arith

module _ {I D O : Type 0} where
  pub reserve_ok : (slots size k old new x p : ℕ) (m m' : Me (Place I D) (View O)) → slots ≡ size + 1 → m.1 ≡ [] → old ≡ p → x ≡ old → reserved (step slots 0 old new (some (Told k))) m x m'
      → Reserves size k m.0.known p m'.0.known × (m'.1 ≡ out_all nothing size (place_of m'.0.known) k [])
  reserve_ok slots size k old new x p m m' sl none_out is hit t = let u = t.0 hit in (
    subst (λ (z : ℕ × ℕ). Reserves z.0 k m.0.known z.1 m'.0.known) (λ i. (sized slots size sl i, (hit ∙ is) i)) u.1,
    u.2 ∙ (λ i. out_all nothing (sized slots size sl i) (place_of m'.0.known) k (none_out i)),
  )

  pub reserve_err : (slots size k old new x : ℕ) (m m' : Me (Place I D) (View O)) → slots ≡ size + 1 → m.1 ≡ [] → x ≢ old → reserved (step slots 0 old new (some (Told k))) m x m'
      → SeesWord size m.0.known x m'.0.known × (m'.1 ≡ [])
  reserve_err slots size k old new x m m' sl none_out miss t = let u = t.1 miss in (subst (λ (z : ℕ). SeesWord z m.0.known x m'.0.known) (sized slots size sl) u.2, u.1 ∙ none_out)

module _ {I D O : Type 0} (meaning : I → Meaning) where
  pub join_ok : (slots size old new x p : ℕ) (m m' : Me (Place I D) (View O)) → slots ≡ size + 1 → old ≡ p → x ≡ old → goes_behind meaning (step slots 0 old new none) m x m'
      → Same m.0 m'.0 × Behinds size (map meaning (items_in m.1)) m.0.known p m'.0.known × (m'.1 ≡ [])
  join_ok slots size old new x p m m' sl is hit t = let u = t.0 hit in
      (u.0, subst (λ (z : ℕ × ℕ). Behinds z.0 (map meaning (items_in m.1)) m.0.known z.1 m'.0.known) (λ i. (sized slots size sl i, (hit ∙ is) i)) u.1, u.2)

  pub abdicate_ok : (slots size old new x p : ℕ) (m m' : Me (Place I D) (View O)) → slots ≡ size + 1 → old ≡ p → x ≡ old → abdicated meaning (step slots 0 old new none) m x m'
      → Same m.0 m'.0 × Abdicates size (map meaning (items_in m.1)) m.0.known p m'.0.known × (m'.1 ≡ [])
  abdicate_ok slots size old new x p m m' sl is hit t = let u = t.0 hit in
      (u.0, subst (λ (z : ℕ × ℕ). Abdicates z.0 (map meaning (items_in m.1)) m.0.known z.1 m'.0.known) (λ i. (sized slots size sl i, (hit ∙ is) i)) u.1, u.2)

  pub abdicate_err : (slots size old new x : ℕ) (m m' : Me (Place I D) (View O)) → slots ≡ size + 1 → x ≢ old → abdicated meaning (step slots 0 old new none) m x m'
      → SeesWord size m.0.known x m'.0.known × (m'.1 ≡ m.1) × Same m.0 m'.0
  abdicate_err slots size old new x m m' sl miss t = let u = t.1 miss in (subst (λ (z : ℕ). SeesWord z m.0.known x m'.0.known) (sized slots size sl) u.2, u.1, u.0)

  pub join_err : (slots size old new x : ℕ) (m m' : Me (Place I D) (View O)) → slots ≡ size + 1 → x ≢ old → goes_behind meaning (step slots 0 old new none) m x m'
      → SeesWord size m.0.known x m'.0.known × (m'.1 ≡ m.1) × Same m.0 m'.0
  join_err slots size old new x m m' sl miss t = let u = t.1 miss in (subst (λ (z : ℕ). SeesWord z m.0.known x m'.0.known) (sized slots size sl) u.2, u.1, u.0)

module _ {I D O : Type 0} where
  pub look_sized : (slots size x : ℕ) (m m' : Me (Place I D) (View O)) → slots ≡ size + 1 → sees (step slots 0 0 0 none) m x m' → SeesWord size m.0.known x m'.0.known × (m'.1 ≡ m.1) × Same m.0 m'.0
  look_sized slots size x m m' sl t = (subst (λ (z : ℕ). SeesWord z m.0.known x m'.0.known) (sized slots size sl) t.2, t.1, t.0)

  -- a look leaves a seat with its reservation
  pub held_still : (size k x : ℕ) (m m' : Me (Place I D) (View O)) (h : Holding size k m) → SeesWord size m.0.known x m'.0.known × (m'.1 ≡ m.1) × Same m.0 m'.0 → (h' : Holding size k m') × (h'.place ≡ h.place)
  held_still size k x m m' h t = let made = t.0.0 in let seen : List Entry = (m.0.known.seen ++ made.between) ++ entry m.0.known.number x Look ∷ [] in
      let role' : role_of m.0.known.number (state_after first_state seen) ≡ (Some (reservation m.0.known.number h.place k), None) = ap (role_of m.0.known.number) (state_after-append first_state (m.0.known.seen ++ made.between) (entry m.0.known.number x Look)) ∙ made.role ∙ h.role in (
        record {
          place = h.place;
          items = h.items;
          count = h.count;
          named = subst (λ (z : Known). Has z.number z.stands) (sym made.is) h.named;
          still = t.2.0;
          role = subst (λ (z : Known). role_of z.number (state_after first_state z.seen) ≡ (Some (reservation z.number h.place k), None)) (sym made.is) role';
          lies = t.1 ∙ h.lies;
        },
        refl,
      )

module _ {I D O : Type 0} (meaning : I → Meaning) (origin : D → O) (settled full : D → Type 0) (stands_for : D → List Meaning → Type 0) where
  pub elect_ok : (slots size old new x p b : ℕ) (m m' : Me (Place I D) (View O)) → slots ≡ size + 1 → old ≡ p → x ≡ old → drains meaning origin settled full stands_for (step slots 0 old new (some (Told b))) m x m'
      → Same m.0 m'.0 × Electing size b (map meaning (items_in m.1)) m.0.known p m'.0.known × Handed meaning origin settled full stands_for size (state_after first_state m'.0.known.seen).released (state_after first_state m'.0.known.seen).items m'.0.origin m'.1
  elect_ok slots size old new x p b m m' sl is hit t = let u = t.0 hit in (
    u.0,
    subst (λ (z : ℕ × ℕ). Electing z.0 b (map meaning (items_in m.1)) m.0.known z.1 m'.0.known) (λ i. (sized slots size sl i, (hit ∙ is) i)) u.1,
    subst (λ (z : ℕ). Handed meaning origin settled full stands_for z (state_after first_state m'.0.known.seen).released (state_after first_state m'.0.known.seen).items m'.0.origin m'.1) (sized slots size sl) u.2,
  )

-- the place that was reserved is the word's head
pub place_head : (size k : ℕ) (v w : Known) (word : RingWord) → 0 < size → size ≤ 65536 → IsWithin size word → Reserves size k v (pack word) w → word.head ≡ place_of w % size
place_head size k v w word pos small within t = ap (λ (z : RingWord). z.head) (sym (word_is size (state_after first_state (v.seen ++ t.made.between)) word pos small within (sym t.made.found))) ∙ ap (λ (z : ℕ). z % size) (sym t.place)

pub placed : {I D O : Type 0} (size : ℕ) (v : Known) (word : RingWord) (m m' : Me (Place I D) (View O)) (item : I) → 0 < size → size ≤ 65536 → IsWithin size word → Has v.number v.stands → Reserves size 1 v (pack word) m.0.known → m.0.told ≡ []
    → m' ≡ (m.0, (word.head, Item item) ∷ []) → HoldsAt size 1 word.head m' × (items_in m'.1 ≡ item ∷ [])
placed {I = I} {D = D} {O = O} size v word m m' item pos small within has t still is = let head = place_head size 1 v m.0.known word pos small within t in
    subst (λ (z : Me (Place I D) (View O)). HoldsAt size 1 word.head z × (items_in z.1 ≡ item ∷ [])) (sym is) (
      (
        record {
          place = place_of m.0.known;
          items = item ∷ [];
          count = refl;
          named = subst (λ (z : Known). Has z.number z.stands) (sym t.made.is) has;
          still = still;
          role = t.role;
          lies = λ i. (head i, Item item) ∷ [];
        },
        head,
      ),
      refl,
    )

module _ {I D O : Type 0} where
  pub leave_ok : (slots size old new x p n : ℕ) (f : Flag) (m m' : Me (Place I D) (View O)) → slots ≡ size + 1 → old ≡ p → x ≡ old → left (step slots 0 old new (some (Parting n f))) m x m'
      → Leaves size f n m.0.known p m'.0.known × (m'.1 ≡ []) × Same m.0 m'.0
  leave_ok slots size old new x p n f m m' sl is hit t = let u = t.0 hit in
      (subst (λ (z : ℕ × ℕ). Leaves z.0 f n m.0.known z.1 m'.0.known) (λ i. (sized slots size sl i, (hit ∙ is) i)) u.1, u.2, u.0)

  pub leave_err : (slots size old new x n : ℕ) (f : Flag) (m m' : Me (Place I D) (View O)) → slots ≡ size + 1 → x ≢ old → left (step slots 0 old new (some (Parting n f))) m x m'
      → SeesWord size m.0.known x m'.0.known × (m'.1 ≡ m.1) × Same m.0 m'.0
  leave_err slots size old new x n f m m' sl miss t = let u = t.1 miss in (subst (λ (z : ℕ). SeesWord z m.0.known x m'.0.known) (sized slots size sl) u.2, u.1, u.0)

module _ {I D O : Type 0} (meaning : I → Meaning) (origin : D → O) (settled full : D → Type 0) (stands_for : D → List Meaning → Type 0) where
  pub go_on_ok : (slots size old new x p n : ℕ) (m m' : Me (Place I D) (View O)) → slots ≡ size + 1 → old ≡ p → x ≡ old → went_forth meaning origin settled full stands_for (step slots 0 old new (some (Told n))) m x m'
      → Same m.0 m'.0 × Advances size n m.0.known p m'.0.known × Handed meaning origin settled full stands_for size (state_after first_state m'.0.known.seen).released (state_after first_state m'.0.known.seen).items m'.0.origin m'.1
  go_on_ok slots size old new x p n m m' sl is hit t = let u = t.0 hit in (
    u.0,
    subst (λ (z : ℕ × ℕ). Advances z.0 n m.0.known z.1 m'.0.known) (λ i. (sized slots size sl i, (hit ∙ is) i)) u.1,
    subst (λ (z : ℕ). Handed meaning origin settled full stands_for z (state_after first_state m'.0.known.seen).released (state_after first_state m'.0.known.seen).items m'.0.origin m'.1) (sized slots size sl) u.2,
  )

  pub go_on_err : (slots size old new x n : ℕ) (m m' : Me (Place I D) (View O)) → slots ≡ size + 1 → x ≢ old → went_forth meaning origin settled full stands_for (step slots 0 old new (some (Told n))) m x m'
      → SeesWord size m.0.known x m'.0.known × (m'.1 ≡ m.1) × Same m.0 m'.0
  go_on_err slots size old new x n m m' sl miss t = let u = t.1 miss in (subst (λ (z : ℕ). SeesWord z m.0.known x m'.0.known) (sized slots size sl) u.2, u.1, u.0)

module _ {I D O : Type 0} (meaning : I → Meaning) (origin : D → O) (settled full : D → Type 0) (stands_for : D → List Meaning → Type 0) where
  pub over_ok : (slots size old new x p n : ℕ) (m m' : Me (Place I D) (View O)) → slots ≡ size + 1 → old ≡ p → x ≡ old → took_over meaning origin settled full stands_for (step slots 0 old new (some (Told n))) m x m'
      → Same m.0 m'.0 × TakesOver size n m.0.known p m'.0.known × Handed meaning origin settled full stands_for size (state_after first_state m'.0.known.seen).released (state_after first_state m'.0.known.seen).items m'.0.origin m'.1
  over_ok slots size old new x p n m m' sl is hit t = let u = t.0 hit in (
    u.0,
    subst (λ (z : ℕ × ℕ). TakesOver z.0 n m.0.known z.1 m'.0.known) (λ i. (sized slots size sl i, (hit ∙ is) i)) u.1,
    subst (λ (z : ℕ). Handed meaning origin settled full stands_for z (state_after first_state m'.0.known.seen).released (state_after first_state m'.0.known.seen).items m'.0.origin m'.1) (sized slots size sl) u.2,
  )

  pub over_err : (slots size old new x n : ℕ) (m m' : Me (Place I D) (View O)) → slots ≡ size + 1 → x ≢ old → took_over meaning origin settled full stands_for (step slots 0 old new (some (Told n))) m x m'
      → SeesWord size m.0.known x m'.0.known × (m'.1 ≡ m.1) × Same m.0 m'.0
  over_err slots size old new x n m m' sl miss t = let u = t.1 miss in (subst (λ (z : ℕ). SeesWord z m.0.known x m'.0.known) (sized slots size sl) u.2, u.1, u.0)

  pub elect_err : (slots size old new x b : ℕ) (m m' : Me (Place I D) (View O)) → slots ≡ size + 1 → x ≢ old → drains meaning origin settled full stands_for (step slots 0 old new (some (Told b))) m x m'
      → SeesWord size m.0.known x m'.0.known × (m'.1 ≡ m.1) × Same m.0 m'.0
  elect_err slots size old new x b m m' sl miss t = let u = t.1 miss in (subst (λ (z : ℕ). SeesWord z m.0.known x m'.0.known) (sized slots size sl) u.2, u.1, u.0)
