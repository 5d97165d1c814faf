-- What a consumer knows after it looked, and after it gave places back.
use Rattle.std.proofs.Common.{◌≡◌, ◌≢◌, ℕ, zero, suc, ◌+◌, ◌-◌, ◌%◌, ◌<◌, ◌≤◌, ◌⊎◌, inl, inr, ⊎_elim, min, Bool, true, false, List, [], ◌∷◌, ◌++◌, length, map, take, drop, sym, refl, ap, ◌∙◌, subst, arith, append_assoc, length-drop}
use mathlib.Core.Logic.{dite}
use native.Mathlib.Decide.{dec_le}
use Rattle.std.specs.Prelude.{Some, None}
use Rattle.std.proofs.Math.Nat.{mod-add-mod}
use Rattle.atomic_table.specs.Table.{Me}
use Rattle.atomic_table.proofs.Lists.{one_turn}
use Rattle.ifl_base.specs.declared.word.Flag.{Flag}
use Rattle.ifl_base.specs.declared.word.Flag.TheVariants.{Idle, Busy, Stalled, Abdicated}
use Rattle.ifl_ringcore.specs.declared.history.Step.TheVariants.{Elected, Look, Advance}
use Rattle.ifl_ringcore.specs.declared.history.Meaning.{Meaning}
use Rattle.ifl_ringcore.specs.declared.history.Entry.{Entry}
use Rattle.ifl_base.specs.declared.word.RingWord.{RingWord}
use Rattle.ifl_ring.specs.declared.view.Known.{Known}
use Rattle.ifl_ring.specs.declared.view.View.{View}
use Rattle.ifl_ring.specs.declared.place.Place.{Place}
use Rattle.ifl_ring.specs.declared.place.Place.TheVariants.{Post}
use Rattle.ifl_ringcore.specs.declared.history.Step.TheVariants.{TakeOver}
use Rattle.ifl_ringcore.specs.Effects.{elected}
use Rattle.ifl_ring.specs.Tells.{Electing, TakesOver}
use Rattle.ifl_ringcore.specs.State.{RingState, Consumer, Role, role_of, first_state, ring_word}
use Rattle.ifl_ringcore.specs.Invariant.{Tends, RingInvariant}
use Rattle.ifl_ringcore.specs.Effects.{went_on, effect}
use Rattle.ifl_ringcore.specs.History.{state_after}
use Rattle.ifl_base.specs.Word.{pack}
use Rattle.ifl_base.specs.Space.{advanced}
use Rattle.ifl_base.specs.Word.{IsWithin}
use Rattle.ifl_ring.specs.Seats.{Has, entry, Went}
use Rattle.ifl_ring.specs.Law.{IsAtRest}
use Rattle.ifl_ring.specs.Acts.{laid}
use Rattle.ifl_ring.specs.Tells.{Same, SeesWord, Leaves, Advances, Handed, Parked, MayPart, drain_in}
use Rattle.ifl_ring.specs.Calls.{parting}
use Rattle.ifl_ring.specs.Draining.{IsFresh, Drives, GoesOn, Moves, EndsRound, FlagAfter, IsOver}
use Rattle.ifl_ring.specs.Calls.{IsTotal}
use Rattle.ifl_ringcore.proofs.Reservations.{cover_le}
use Rattle.ifl_ringcore.proofs.Histories.{state_after-append}
use Rattle.ifl_ring.proofs.Reserving.{word_is}
use Rattle.ifl_ring.proofs.Emptied.{take_after, after_append}
use Rattle.ifl_ring.proofs.Electing.{take-whole}
use Rattle.ifl_ring.proofs.Leaving.{same_drain}
use Rattle.ifl_ring.proofs.Offering.{length_take_le}
use Rattle.ifl_ring.proofs.Calls.{made_went}

is_over : (over : Bool) (n : ℕ) (d : Consumer) → IsOver over n d → d.budget ≤ d.total + n → over ≡ true
is_over true n d o h = refl
is_over false n d o h = absurd (omega arith)

length_take_most : {A : Type 0} (k : ℕ) (xs : List A) → length (take k xs) ≤ length xs
length_take_most zero xs = omega arith
length_take_most (suc k) [] = omega arith
length_take_most (suc k) (x ∷ xs) = let t = length_take_most k xs in omega arith

length_map_is : {A B : Type 0} (f : A → B) (xs : List A) → length (map f xs) ≡ length xs
length_map_is f [] = refl
length_map_is f (x ∷ xs) = ap suc (length_map_is f xs)

same_distance : (size f a b : ℕ) → a < size → b < size → advanced size f a ≡ advanced size f b → a ≡ b
same_distance size f a b x y e = dite (dec_le a b)
    (λ h. let t : f + a ≡ f + b = one_turn (f + a) (f + b) size (omega arith) (omega arith) e in omega arith)
    (λ h. let t : f + b ≡ f + a = one_turn (f + b) (f + a) size (omega arith) (omega arith) (sym e) in omega arith)

-- what the consumer may set, by the word that it found
pub may_set : (size n more : ℕ) (over : Bool) (d : Consumer) (w : RingWord) (f : Flag) → FlagAfter size n over w f → Moves n more d → IsOver over n d → d.done + n + more ≡ d.known → MayPart size f n d w
may_set size n more over d w Idle t (one, most, upd) o all = (one, most, t)
may_set size n more over d w Busy (ne, calm) (one, most, upd) o all =
    (one, most, ⊎_elim (λ (e : more ≡ 0). inl (let f : d.done + n ≡ d.known = omega arith in f)) (λ (z : (64 ≤ n) ⊎ (d.budget ≤ d.total + n)). inr z) upd, ne, λ full. calm (is_over over n d o full))
may_set size n more over d w Stalled t m o all = absurd t
may_set size n more over d w Abdicated (ne, aye, apart) (one, most, upd) o all = (one, most, subst (λ (z : Bool). IsOver z n d) aye o, ne, apart)

pub may_stall : (size n more : ℕ) (d : Consumer) (w : RingWord) → GoesOn n more d → d.done + n + more ≡ d.known → MayPart size Stalled n d w
may_stall size n more d w (low, some, upd) all = (low, let f : d.done + n < d.known = omega arith in f, upd)

-- the state that a consumer has seen
pub record Sees (size n : ℕ) (st : RingState) (d : Consumer) : Type 0 where
  pub consumer : st.consumer ≡ Some d
  pub done : d.done ≡ st.released
  pub busy : st.flag ≡ Busy
  pub low : st.released < d.known
  pub high : d.known ≤ st.published
  pub open_ : st.published ≤ st.reserved
  pub near : st.reserved + 2 ≤ st.released + size

pub sees : (size n j : ℕ) (st : RingState) (d : Consumer) → RingInvariant size st → role_of j st ≡ (None, Some d) → Sees size n st d
sees size n j st d g role = let mine = same_drain j st.consumer d (ap (λ (z : Role). z.1) role) in let dg : Tends st (Some d) = subst (Tends st) mine.0 g.tended in
    record { consumer = mine.0; done = dg.4; busy = dg.0; low = dg.1; high = dg.2; open_ = cover_le st.published st.reservations st.reserved g.covered; near = g.within }

module _ {I D O : Type 0} (meaning : I → Meaning) (origin : D → O) (settled full : D → Type 0) (stands_for : D → List Meaning → Type 0) where
  -- a look leaves a consumer as it is
  pub parked_still : (size n x : ℕ) (m m' : Me (Place I D) (View O)) → SeesWord size m.0.known x m'.0.known → m'.1 ≡ m.1 → Same m.0 m'.0 → (p : Parked meaning origin settled full stands_for size n m)
      → (p' : Parked meaning origin settled full stands_for size n m') × (p'.consumer ≡ p.consumer) × (p'.outlet.value.drainer ≡ p.outlet.value.drainer) × (p'.items ≡ p.items)
  parked_still size n x m m' t out same p =
      let made = t.0 in let v : Known = m.0.known in let e : Entry = entry v.number x Look in let seen : List Entry = (v.seen ++ made.between) ++ e ∷ [] in
      let seen_is : m'.0.known.seen ≡ seen = ap (λ (z : Known). z.seen) made.is in
      let grown : state_after first_state seen ≡ state_after (state_after first_state v.seen) (made.between ++ e ∷ []) = ap (state_after first_state) (append_assoc v.seen made.between (e ∷ [])) ∙ after_append first_state v.seen (made.between ++ e ∷ []) in
      let state : state_after first_state m'.0.known.seen ≡ state_after (state_after first_state v.seen) (made.between ++ e ∷ []) = ap (state_after first_state) seen_is ∙ grown in
      let old_items : (k : ℕ) → k ≤ p.consumer.known → take k (state_after first_state m'.0.known.seen).items ≡ take k (state_after first_state v.seen).items =
      λ k small. ap (λ (z : RingState). take k z.items) state ∙ take_after k (state_after first_state v.seen) (made.between ++ e ∷ []) (let lo = p.long in omega arith) in
      let role' : role_of v.number (state_after first_state seen) ≡ (None, Some p.consumer) = ap (role_of v.number) (state_after-append first_state (v.seen ++ made.between) e) ∙ made.role ∙ p.role in let all' = p.all in (
        record {
          consumer = p.consumer;
          outlet = p.outlet;
          items = p.items;
          named = subst (λ (z : Known). Has z.number z.stands) (sym made.is) p.named;
          still = same.0;
          role = subst (λ (z : Known). role_of z.number (state_after first_state z.seen) ≡ (None, Some p.consumer)) (sym made.is) role';
          lies = out ∙ p.lies;
          all = p.all;
          long = let a : take p.consumer.known (state_after first_state m'.0.known.seen).items ≡ take p.consumer.known (state_after first_state v.seen).items = old_items p.consumer.known (omega arith) in
              let b = length_take_le p.consumer.known (state_after first_state v.seen).items p.long in let c = length_take_most p.consumer.known (state_after first_state m'.0.known.seen).items in let d : length (take p.consumer.known (state_after first_state m'.0.known.seen).items) ≡ length (take p.consumer.known (state_after first_state v.seen).items) = ap length a in omega arith;
          meant = p.meant ∙ ap (drop (p.consumer.done + n)) (sym (old_items p.consumer.known (omega arith)));
          settled_is = p.settled_is;
          origin_is = same.1 ∙ p.origin_is;
          stands = subst (stands_for p.outlet.value.drainer) (sym (old_items (p.consumer.done + n) (omega arith))) p.stands;
          batch_is = p.batch_is;
          room = p.room;
        },
        refl,
        refl,
        refl,
      )

  -- what the consumer saw at its look
  pub parked_sees : (size n x : ℕ) (m m' : Me (Place I D) (View O)) → SeesWord size m.0.known x m'.0.known → (p : Parked meaning origin settled full stands_for size n m') → Sees size n (state_after first_state m'.0.known.seen) p.consumer
  parked_sees size n x m m' t p = sees size n m'.0.known.number (state_after first_state m'.0.known.seen) p.consumer t.0.good p.role

  -- a consumer that left has nay part in the ring
  pub left_rests : (size n x : ℕ) (f : Flag) (m m' : Me (Place I D) (View O)) → Leaves size f n m.0.known x m'.0.known → (p : Parked meaning origin settled full stands_for size n m) → IsAtRest m'.0.known
  left_rests size n x f m m' t p = record { named = subst (λ (z : Known). Has z.number z.stands) (sym t.made.is) p.named; role = t.role }

  -- a consumer that went on begins a round
  pub drives_on : (size n : ℕ) (w : RingWord) (m m' : Me (Place I D) (View O)) → 0 < size → size ≤ 65536 → IsWithin size w → Same m.0 m'.0 → Advances size n m.0.known (pack w) m'.0.known
      → Handed meaning origin settled full stands_for size (state_after first_state m'.0.known.seen).released (state_after first_state m'.0.known.seen).items m'.0.origin m'.1 → (p : Parked meaning origin settled full stands_for size n m)
      → (left : ℕ) × (v : Drives meaning origin settled stands_for size left (advanced size w.cidx n) m') × (left < size) × (advanced size (advanced size w.cidx n) left ≡ w.tail) × (v.consumer.total ≡ p.consumer.total + n) × (v.consumer.budget ≡ p.consumer.budget) × (v.consumer.from ≡ p.consumer.from)
  drives_on size n w m m' pos small within same t h p =
      let made = t.made in let v : Known = m.0.known in let e : Entry = entry v.number (pack w) (Advance n) in
      let st0 : RingState = state_after first_state (v.seen ++ made.between) in let st : RingState = state_after first_state m'.0.known.seen in
      let seen_is : m'.0.known.seen ≡ (v.seen ++ made.between) ++ e ∷ [] = ap (λ (z : Known). z.seen) made.is in
      let state : st ≡ effect st0 v.number (Advance n) = ap (state_after first_state) seen_is ∙ state_after-append first_state (v.seen ++ made.between) e in
      let w_is : ring_word size st0 ≡ w = word_is size st0 w pos small within (sym made.found) in
      let drain_is : drain_in v ≡ Some p.consumer = ap (λ (z : Role). z.1) p.role in
      let dr : Consumer = record p.consumer { known = st.published; total = p.consumer.total + n; done = p.consumer.done + n } in
      let role' : role_of m'.0.known.number st ≡ (None, Some dr) = t.role ∙ (λ i. (None, went_on n st.published (drain_is i))) in
      let s = sees size n m'.0.known.number st dr made.good role' in
      let c_is : st.released ≡ st0.released + n = ap (λ (z : RingState). z.released) state in let p_is : st.published ≡ st0.published = ap (λ (z : RingState). z.published) state in
      let d_is : p.consumer.done + n ≡ st.released = s.done in let lo : st.released < st.published = s.low in let op = s.open_ in let nr = s.near in
      let left : ℕ = st.published - st.released in
      let at : advanced size w.cidx n ≡ st.released % size = ap (λ (z : RingWord). advanced size z.cidx n) (sym w_is) ∙ mod-add-mod st0.released size n ∙ ap (λ (z : ℕ). z % size) (sym c_is) in
      let tail : w.tail ≡ st.published % size = ap (λ (z : RingWord). z.tail) (sym w_is) ∙ ap (λ (z : ℕ). z % size) (sym p_is) in
      let counted : length st.items ≡ st.published = made.good.counted in
      let count : length h.taken ≡ left = sym (length_map_is meaning h.taken) ∙ ap length h.meant ∙ length-drop st.released st.items ∙ ap (λ (z : ℕ). z - st.released) counted in
      let take_is : take st.published st.items ≡ st.items = take-whole st.items st.published counted in (
        left,
        record {
          consumer = dr;
          outlet = h.outlet;
          items = h.taken;
          named = subst (λ (z : Known). Has z.number z.stands) (sym made.is) p.named;
          still = same.0;
          role = role';
          count = count;
          some = omega arith;
          here = at ∙ ap (λ (z : ℕ). z % size) (sym d_is);
          lies = h.has ∙ ap (λ (z : ℕ). (size, Post h.outlet) ∷ laid size z h.taken []) (sym d_is);
          all = let f : p.consumer.done + n + left ≡ st.published = omega arith in f;
          long = let f : st.published ≤ length st.items = omega arith in f;
          meant = h.meant ∙ (λ i. drop (sym d_is i) (sym take_is i));
          settled_is = h.settled_is;
          origin_is = h.origin_is;
          stands = subst (λ (z : ℕ). stands_for h.outlet.value.drainer (take z st.items)) (sym d_is) h.stands;
          batch_is = h.batch_is;
          room = h.room;
        },
        let f : left < size = omega arith in f,
        ap (λ (z : ℕ). advanced size z left) at ∙ mod-add-mod st.released size left ∙ ap (λ (z : ℕ). z % size) (let f : st.released + left ≡ st.published = omega arith in f) ∙ sym tail,
        refl,
        refl,
        refl,
      )

  pub looked_busy : (size n x : ℕ) (m m' : Me (Place I D) (View O)) (w : RingWord) → 0 < size → size ≤ 65536 → IsWithin size w → pack w ≡ x → SeesWord size m.0.known x m'.0.known → (p : Parked meaning origin settled full stands_for size n m') → (n < size) × (w.flag ≡ Busy)
  looked_busy size n x m m' w pos small within packs t p = let st : RingState = state_after first_state m'.0.known.seen in let s = parked_sees size n x m m' t p in
      let a = s.done in let b = s.high in let c = s.open_ in let d = s.near in let all = p.all in let lo = s.low in
      (omega arith, ap (λ (z : RingWord). z.flag) (sym (word_is size st w pos small within (sym (packs ∙ t.1)))) ∙ s.busy)

  -- the same drain, at the place and with the distance that were computed
  pub drives_at : (size at left at' left' : ℕ) (F : Consumer → Type 0) (w : RingWord) (m : Me (Place I D) (View O)) → at' ≡ at → left < size → left' < size → advanced size at left ≡ w.tail → advanced size at' left' ≡ w.tail
      → (v : Drives meaning origin settled stands_for size left at m) → F v.consumer → (v' : Drives meaning origin settled stands_for size left' at' m) × F v'.consumer
  drives_at size at left at' left' F w m here small small' there there' v f =
      let same : left ≡ left' = same_distance size at left left' small small' (there ∙ sym there' ∙ ap (λ (z : ℕ). advanced size z left') here) in
      subst (λ (z : ℕ × ℕ). (v' : Drives meaning origin settled stands_for size z.0 z.1 m) × F v'.consumer) (λ i. (same i, sym here i)) (v, f)

pub is_busy : (f : Flag) → (f ≡ Busy) ⊎ (f ≢ Busy)
is_busy Idle = inr (λ e. absurd cc)
is_busy Busy = inl refl
is_busy Stalled = inr (λ e. absurd cc)
is_busy Abdicated = inr (λ e. absurd cc)

-- what a consumer may set, from how its round ended
pub may_give : (stalled over : Bool) (F : Type 0) (size n more : ℕ) (d : Consumer) (w : RingWord) (f : Flag) → (stalled ≡ true → f ≡ Stalled) → (stalled ≡ false → FlagAfter size n over w f) → EndsRound stalled F n more d → IsOver over n d → d.done + n + more ≡ d.known
    → MayPart size f n d w × (f ≡ Stalled → F)
may_give true over F size n more d w f aye nay (goes, filled) o all = (subst (λ (z : Flag). MayPart size z n d w) (sym (aye refl)) (may_stall size n more d w goes all), λ _. filled)
may_give false over F size n more d w f aye nay moves o all = (may_set size n more over d w f (nay refl) moves o all, λ e. absurd (subst (FlagAfter size n over w) e (nay refl)))

pub gave : (size n x : ℕ) (f : Flag) (v w : Known) → Has v.number v.stands → (f ≢ Busy → Leaves size f n v x w) → (f ≡ Busy → Advances size n v x w) → (es : List Entry) × Went size v es w
gave size n x f v w has l a = ⊎_elim (λ (e : f ≡ Busy). let y : Entry = entry v.number x (Advance n) in let r : (es : List Entry) × Went size v es w = (y ∷ [], made_went size v y w has (a e).made) in r)
    (λ (ne : f ≢ Busy). let y : Entry = entry v.number x (parting f n) in let r : (es : List Entry) × Went size v es w = (y ∷ [], made_went size v y w has (l ne).made) in r) (is_busy f)

pub total_more : (total t k : ℕ) → IsTotal total t → IsTotal (min (total + k) 18446744073709551615) (t + k)
total_more total t k h = dite (dec_le (total + k) 18446744073709551615)
    (λ low. let e : min (total + k) 18446744073709551615 ≡ total + k = omega arith in
    ⊎_elim (λ (i : total ≡ t). inl (let f : min (total + k) 18446744073709551615 ≡ t + k = omega arith in f))
    (λ (i : (total ≡ 18446744073709551615) × (18446744073709551615 ≤ t)). let a = i.0 in let b = i.1 in inr ((let f : min (total + k) 18446744073709551615 ≡ 18446744073709551615 = omega arith in f), (let f : 18446744073709551615 ≤ t + k = omega arith in f))) h)
    (λ high. let e : min (total + k) 18446744073709551615 ≡ 18446744073709551615 = omega arith in
    inr (e, ⊎_elim (λ (i : total ≡ t). let f : 18446744073709551615 ≤ t + k = omega arith in f) (λ (i : (total ≡ 18446744073709551615) × (18446744073709551615 ≤ t)). let b = i.1 in let f : 18446744073709551615 ≤ t + k = omega arith in f) h))

pub reaches : (total t b : ℕ) → IsTotal total t → b ≤ total → b ≤ t
reaches total t b h over = ⊎_elim (λ (i : total ≡ t). let f : b ≤ t = omega arith in f) (λ (i : (total ≡ 18446744073709551615) × (18446744073709551615 ≤ t)). let x = i.0 in let y = i.1 in let f : b ≤ t = omega arith in f) h

pub below : (total t b : ℕ) → IsTotal total t → total < b → b ≤ 65535 → t < b
below total t b h under small = ⊎_elim (λ (i : total ≡ t). let f : t < b = omega arith in f) (λ (i : (total ≡ 18446744073709551615) × (18446744073709551615 ≤ t)). let x = i.0 in absurd (omega arith)) h

-- the round goes on after k more
pub continues : (k n more total b : ℕ) (d : Consumer) → k ≤ 32 → 1 ≤ more → n + k < 64 → total < b → b ≤ 65535 → IsTotal total (d.total + (n + k)) → d.budget ≡ b → GoesOn (n + k) more d
continues k n more total b d few some low under small t is = let s = below total (d.total + (n + k)) b t under small in ((let f : n + k ≤ 63 = omega arith in f), some, inr (let f : d.total + (n + k) < d.budget = omega arith in f))

-- the round ends after k more
pub ends : (stalled : Bool) (F : Type 0) (k n old more total b : ℕ) (d : Consumer) → (stalled ≡ true → k ≡ 0) → (stalled ≡ false → 1 ≤ k) → (k ≡ 0 → F) → k ≤ 32 → GoesOn n old d → more + k ≡ old
    → (k ≡ 0) ⊎ (more ≡ 0) ⊎ (64 ≤ n + k) ⊎ (b ≤ total) → IsTotal total (d.total + (n + k)) → d.budget ≡ b → EndsRound stalled F (n + k) more d
ends true F k n old more total b d aye nay filled few (low, some, upd) less why t is = let none : k ≡ 0 = aye refl in (
  (
    (let f : n + k ≤ 63 = omega arith in f),
    (let f : 1 ≤ more = omega arith in f),
    ⊎_elim (λ (z : n ≡ 0). inl (let f : n + k ≡ 0 = omega arith in f)) (λ (z : d.total + n < d.budget). inr (let f : d.total + (n + k) < d.budget = omega arith in f)) upd,
  ),
  filled none,
)
ends false F k n old more total b d aye nay filled few (low, some, upd) less why t is = let one : 1 ≤ k = nay refl in (
  (let f : 1 ≤ n + k = omega arith in f),
  (let f : n + k ≤ 95 = omega arith in f),
  ⊎_elim (λ (z : k ≡ 0). absurd (omega arith))
      (λ (z : (more ≡ 0) ⊎ (64 ≤ n + k) ⊎ (b ≤ total)). ⊎_elim (λ (y : more ≡ 0). inl y)
      (λ (y : (64 ≤ n + k) ⊎ (b ≤ total)). ⊎_elim (λ (x : 64 ≤ n + k). inr (inl x)) (λ (x : b ≤ total). let r = reaches total (d.total + (n + k)) b t x in inr (inr (let f : d.budget ≤ d.total + (n + k) = omega arith in f))) y) z) why,
)

pub over_is : (over : Bool) (total b n : ℕ) (d : Consumer) → IsTotal total (d.total + n) → d.budget ≡ b → b ≤ 65535 → (over ≡ true → b ≤ total) → (over ≡ false → total < b) → IsOver over n d
over_is true total b n d t is small aye nay = let r = reaches total (d.total + n) b t (aye refl) in let f : d.budget ≤ d.total + n = omega arith in f
over_is false total b n d t is small aye nay = let r = below total (d.total + n) b t (nay refl) small in let f : d.total + n < d.budget = omega arith in f

pub ends_at : {D : Type 0} (stalled : Bool) (full : D → Type 0) (n more more' : ℕ) (d d' : D) (x x' : Consumer) → d ≡ d' → more ≡ more' → x ≡ x' → EndsRound stalled (full d) n more x → EndsRound stalled (full d') n more' x'
ends_at {D = D} stalled full n more more' d d' x x' e f h t = subst (λ (z : D × ℕ × Consumer). EndsRound stalled (full z.0) n z.1 z.2) (λ i. (e i, f i, h i)) t

module _ {I D O : Type 0} (meaning : I → Meaning) (origin : D → O) (settled full : D → Type 0) (stands_for : D → List Meaning → Type 0) where
  -- a seat that became the consumer begins its first round
  pub drives_first : (size b : ℕ) (f : Flag) (m' : Me (Place I D) (View O)) → 0 < size → Has m'.0.known.number m'.0.known.stands → m'.0.told ≡ [] → RingInvariant size (state_after first_state m'.0.known.seen)
      → role_of m'.0.known.number (state_after first_state m'.0.known.seen) ≡ (None, Some (elected m'.0.known.number (state_after first_state m'.0.known.seen).published b f (state_after first_state m'.0.known.seen).released))
      → Handed meaning origin settled full stands_for size (state_after first_state m'.0.known.seen).released (state_after first_state m'.0.known.seen).items m'.0.origin m'.1
      → (left : ℕ) × (v : Drives meaning origin settled stands_for size left ((state_after first_state m'.0.known.seen).released % size) m') × (left < size) × (advanced size ((state_after first_state m'.0.known.seen).released % size) left ≡ (state_after first_state m'.0.known.seen).published % size) × IsFresh b f v.consumer
  drives_first size b f m' pos has still good role h =
      let st : RingState = state_after first_state m'.0.known.seen in let j : ℕ = m'.0.known.number in let dr : Consumer = elected j st.published b f st.released in
      let s = sees size 0 j st dr good role in let lo : st.released < st.published = s.low in let op = s.open_ in let nr = s.near in let left : ℕ = st.published - st.released in
      let counted : length st.items ≡ st.published = good.counted in
      let count : length h.taken ≡ left = sym (length_map_is meaning h.taken) ∙ ap length h.meant ∙ length-drop st.released st.items ∙ ap (λ (z : ℕ). z - st.released) counted in
      let take_is : take st.published st.items ≡ st.items = take-whole st.items st.published counted in (
        left,
        record {
          consumer = dr;
          outlet = h.outlet;
          items = h.taken;
          named = has;
          still = still;
          role = role;
          count = count;
          some = let f : 1 ≤ left = omega arith in f;
          here = refl;
          lies = h.has;
          all = let f : st.released + left ≡ st.published = omega arith in f;
          long = let f : st.published ≤ length st.items = omega arith in f;
          meant = h.meant ∙ ap (drop st.released) (sym take_is);
          settled_is = h.settled_is;
          origin_is = h.origin_is;
          stands = h.stands;
          batch_is = h.batch_is;
          room = h.room;
        },
        (let f : left < size = omega arith in f),
        mod-add-mod st.released size left ∙ ap (λ (z : ℕ). z % size) (let f : st.released + left ≡ st.published = omega arith in f),
        (refl, refl, refl),
      )

  pub over_taken : (size b : ℕ) (w : RingWord) (m m' : Me (Place I D) (View O)) (at' left' : ℕ) → 0 < size → size ≤ 65536 → IsWithin size w → Has m.0.known.number m.0.known.stands → Same m.0 m'.0 → TakesOver size b m.0.known (pack w) m'.0.known
      → Handed meaning origin settled full stands_for size (state_after first_state m'.0.known.seen).released (state_after first_state m'.0.known.seen).items m'.0.origin m'.1 → at' ≡ w.cidx → left' < size → advanced size w.cidx left' ≡ w.tail
      → (v : Drives meaning origin settled stands_for size left' at' m') × IsFresh b w.flag v.consumer
  over_taken size b w m m' at' left' pos small within has same t h here less there =
      let made = t.made in let v : Known = m.0.known in let e : Entry = entry v.number (pack w) (TakeOver b) in
      let st0 : RingState = state_after first_state (v.seen ++ made.between) in let st : RingState = state_after first_state m'.0.known.seen in
      let state : st ≡ effect st0 v.number (TakeOver b) = ap (state_after first_state) (ap (λ (z : Known). z.seen) made.is) ∙ state_after-append first_state (v.seen ++ made.between) e in
      let w_is : ring_word size st0 ≡ w = word_is size st0 w pos small within (sym made.found) in
      let cidx_is : st.released % size ≡ w.cidx = ap (λ (z : RingState). z.released % size) state ∙ ap (λ (z : RingWord). z.cidx) w_is in
      let tail_is : st.published % size ≡ w.tail = ap (λ (z : RingState). z.published % size) state ∙ ap (λ (z : RingWord). z.tail) w_is in
      let d = drives_first size b st0.flag m' pos (subst (λ (z : Known). Has z.number z.stands) (sym made.is) has) same.0 made.good t.role h in
      drives_at meaning origin settled full stands_for size (st.released % size) d.0 at' left' (IsFresh b w.flag) w m' (here ∙ sym cidx_is) d.2 less (d.3 ∙ tail_is) (ap (λ (z : ℕ). advanced size z left') here ∙ there) d.1 (d.4.0, d.4.1, d.4.2 ∙ ap (λ (z : RingWord). z.flag) w_is)

  pub over_elected : (size b n : ℕ) (xs : List Meaning) (w : RingWord) (m m' : Me (Place I D) (View O)) (left' : ℕ) → 0 < size → size ≤ 65536 → IsWithin size w → Has m.0.known.number m.0.known.stands → Same m.0 m'.0 → Electing size b xs m.0.known (pack w) m'.0.known
      → Handed meaning origin settled full stands_for size (state_after first_state m'.0.known.seen).released (state_after first_state m'.0.known.seen).items m'.0.origin m'.1 → length xs ≡ n → left' < size → advanced size w.cidx left' ≡ advanced size w.tail n
      → (v : Drives meaning origin settled stands_for size left' w.cidx m') × IsFresh b w.flag v.consumer
  over_elected size b n xs w m m' left' pos small within has same t h count less there =
      let made = t.made in let v : Known = m.0.known in let e : Entry = entry v.number (pack w) (Elected b xs) in
      let st0 : RingState = state_after first_state (v.seen ++ made.between) in let st : RingState = state_after first_state m'.0.known.seen in
      let state : st ≡ effect st0 v.number (Elected b xs) = ap (state_after first_state) (ap (λ (z : Known). z.seen) made.is) ∙ state_after-append first_state (v.seen ++ made.between) e in
      let w_is : ring_word size st0 ≡ w = word_is size st0 w pos small within (sym made.found) in
      let cidx_is : st.released % size ≡ w.cidx = ap (λ (z : RingState). z.released % size) state ∙ ap (λ (z : RingWord). z.cidx) w_is in
      let tail_is : st.published % size ≡ advanced size w.tail n = ap (λ (z : RingState). z.published % size) state ∙ sym (mod-add-mod st0.published size (length xs)) ∙ (λ i. advanced size (w_is i).tail (count i)) in
      let d = drives_first size b st0.flag m' pos (subst (λ (z : Known). Has z.number z.stands) (sym made.is) has) same.0 made.good t.role h in
      drives_at meaning origin settled full stands_for size (st.released % size) d.0 w.cidx left' (IsFresh b w.flag) record w { tail = advanced size w.tail n } m' (sym cidx_is) d.2 less (d.3 ∙ tail_is) there d.1 (d.4.0, d.4.1, d.4.2 ∙ ap (λ (z : RingWord). z.flag) w_is)
