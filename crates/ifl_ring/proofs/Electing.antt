-- The step that publishes and makes its seat the consumer.
use Rattle.std.proofs.Common.{eqb, ◌≡◌, ◌≢◌, ℕ, ◌+◌, ◌-◌, ◌%◌, ◌<◌, ◌≤◌, List, [], ◌∷◌, ◌++◌, length, map, take, drop, set, get_or, sym, refl, ap, ◌∙◌, subst, arith, mod-lt, length-append, zero, suc}
use Rattle.std.specs.Prelude.{Option, Some, None}
use mathlib.Core.Option.{some, none, some-ne-none}
use mathlib.Core.Option as maybe
use lib.ListN.{get_elem?}
use prog.Atomic.{either}
use Rattle.std.proofs.Math.Nat.{mod-add-mod}
use Rattle.atomic_table.specs.Table.{State, Me, Step as TableStep, step, Allows, Act, Valid, stepped, carried_after, homes_after}
use Rattle.atomic_table.proofs.Lists.{exchanged}
use Rattle.ifl_base.specs.declared.word.Flag.{Flag}
use Rattle.ifl_base.specs.declared.word.Flag.TheVariants.{Busy}
use Rattle.ifl_ringcore.specs.declared.history.Meaning.{Meaning}
use Rattle.ifl_ringcore.specs.declared.history.Entry.{Entry}
use Rattle.ifl_ringcore.specs.declared.history.Step.TheVariants.{Behind, Elected}
use Rattle.ifl_ring.specs.declared.view.View.{View}
use Rattle.ifl_base.specs.declared.word.RingWord.{RingWord}
use Rattle.ifl_ring.specs.declared.place.Place.{Place}
use Rattle.ifl_ring.specs.declared.place.Key.{Key}
use Rattle.ifl_ringcore.specs.State.{RingState, Consumer, reservation, role_of, first_state, ring_word}
use Rattle.ifl_ringcore.specs.Invariant.{reach, reach_of}
use Rattle.ifl_ringcore.specs.History.{state_after}
use Rattle.ifl_ringcore.specs.Effects.{effect}
use Rattle.ifl_ringcore.specs.Conditions.{IsAllowed}
use Rattle.ifl_base.specs.Word.{pack}
use Rattle.ifl_base.specs.Space.{advanced}
use Rattle.ifl_base.specs.Word.{IsWithin}
use Rattle.ifl_ring.specs.Acts.{give_all, laid, items_in}
use Rattle.ifl_ring.specs.Seats.{Has, entry}
use Rattle.ifl_ring.specs.Law.{moved, Posted, Shelf, Lawful}
use Rattle.ifl_ringcore.proofs.Histories.{state_after-append}
use Rattle.ifl_ring.proofs.Slots.{apart}
use Rattle.ifl_ring.proofs.Laid.{gave_carried, gave_valid, laid_items}
use Rattle.ifl_ring.proofs.Seats.{part_of}
use Rattle.ifl_ring.proofs.Steps.{steps, size_is, made_now, Goes, word_of, look_at}
use Rattle.ifl_ring.proofs.Reserving.{word_is}
use Rattle.std.proofs.Common.{length-set, length-drop, eq-eqb}
use Rattle.atomic_table.specs.Table.{chain, takes}
use Rattle.atomic_table.proofs.Lists.{set_here, set_else}
use Rattle.ifl_ring.specs.declared.place.Place.TheVariants.{Item, Post, Told}
use Rattle.ifl_ringcore.specs.Effects.{elected}
use Rattle.ifl_ringcore.specs.State.{consumer_of}
use Rattle.ifl_ring.specs.Acts.{take_all, lying, value}
use Rattle.ifl_ring.specs.Tells.{Electing, Handed, drains}
use Rattle.ifl_ringcore.proofs.Keeping.{cover-without, no_consumer}
use Rattle.ifl_ring.proofs.Slots.{out_carried, out_long, out_else, out_here, out_valid}
use Rattle.ifl_ring.proofs.Laid.{collect}
use Rattle.ifl_ring.proofs.Publishing.{length_map, at_turn, shelf_give}

pub drains_me : (j : ℕ) (d : Consumer) → d.seat ≡ j → consumer_of j (Some d) ≡ Some d
drains_me j d e = rw (eq-eqb d.seat j e)

pub take-whole : {A : Type 0} (xs : List A) (n : ℕ) → length xs ≡ n → take n xs ≡ xs
take-whole [] zero e = refl
take-whole [] (suc n) e = refl
take-whole (x ∷ xs) zero e = absurd (omega arith)
take-whole (x ∷ xs) (suc n) e = ap (λ z. x ∷ z) (take-whole xs n (omega arith))

module _ {I D O : Type 0} (meaning : I → Meaning) (origin : D → O) (settled full : D → Type 0) (stands_for : D → List Meaning → Type 0) where
  abbrev Law : Key O → State (Place I D) (View O) → Type 0
  Law = Lawful meaning origin settled full stands_for

  abbrev Sh : ℕ → O → RingState → List (maybe.Option (Place I D)) → Type 0
  Sh = Shelf meaning origin settled full stands_for

  -- the consumer takes the published slots and the drainer
  pub shelf_hand : (size : ℕ) (o : O) (st : RingState) (j b n : ℕ) (f : Flag) (hs : List (maybe.Option (Place I D))) (cs : List (ℕ × Place I D)) → 0 < size → st.released + n ≡ st.published → st.published ≤ st.reserved → st.reserved + 2 ≤ st.released + size → Sh size o st hs
      → reach st ≤ st.published → Sh size o record st { flag = Busy; consumer = Some (elected j st.published b f st.released) } (set (homes_after hs cs (take_all (value hs size) size st.released n)) size none)
  shelf_hand size o st j b n f hs cs pos all pr w h rp =
      let g : ℕ → Place I D = value hs size in let hs' : List (maybe.Option (Place I D)) = homes_after hs cs (take_all g size st.released n) in let long : length hs' ≡ size + 1 = out_long g size st.released n hs cs ∙ h.wide in record {
        wide = length-set hs' size none ∙ long;
        taken = λ m a b'. set_else hs' size (m % size) none (λ e. let near = mod-lt m pos in omega arith) ∙ out_here g size st.released n m hs cs a (omega arith) (let near = mod-lt m pos in let wd = h.wide in omega arith);
        ready = λ m a b'. absurd (omega arith);
        held = λ m a b'. set_else hs' size (m % size) none (λ e. let near = mod-lt m pos in omega arith)
            ∙ out_else g size st.released n (m % size) hs cs (λ i x y. apart size st.released m i (omega arith) (omega arith) (omega arith) (omega arith) (omega arith)) ∙ h.held m a b';
        vacant = λ m a b'. set_else hs' size (m % size) none (λ e. let near = mod-lt m pos in omega arith)
            ∙ out_else g size st.released n (m % size) hs cs (λ i x y. apart size st.released m i (omega arith) (omega arith) (omega arith) (omega arith) (omega arith)) ∙ h.vacant m a b';
        posted = set_here hs' size none (omega arith);
      }

  pub elects : (key : Key O) (slots id : ℕ) (me : Me (Place I D) (View O)) (old new a b : ℕ) (ys : List I) (w : RingWord) → me.0.told ≡ [] → Has me.0.known.number me.0.known.stands
      → role_of me.0.known.number (state_after first_state me.0.known.seen) ≡ (Some (reservation me.0.known.number a (length ys)), None) → me.1 ≡ laid key.size a ys []
      → key.size ≤ 65536 → IsWithin key.size w → old ≡ pack w → w.tail ≡ a % key.size → w.flag ≢ Busy → new ≡ pack record w { tail = advanced key.size w.tail (length ys); flag = Busy }
      → Allows (Law key) slots id me 0 (λ x. either (eqb x old) new x) (drains meaning origin settled full stands_for (step slots 0 old new (some (Told b))) me)
  elects key slots id me old new a b ys w still has role lies small inside was tail idle more s l wide at _ =
      let x : ℕ = get_or s.words 0 0 in let v : View O = me.0 in let size : ℕ = key.size in let st : TableStep (Place I D) = step slots 0 old new (some (Told b)) in let tells = drains meaning origin settled full stands_for st me x in
      let k : ℕ = length ys in let j : ℕ = v.known.number in
      exchanged x old new (Goes meaning origin settled full stands_for key s id me tells)
      (λ hit. let now : RingState = l.now in let is : x ≡ pack (ring_word size now) = word_of meaning origin settled full stands_for key s l in let g = l.good in
      let same : ring_word size now ≡ w = word_is size now w l.some_size small inside (sym is ∙ hit ∙ was) in
      let t = at_turn meaning origin settled full stands_for key s l id v a k at has role (ap (λ (z : RingWord). z.tail) same ∙ tail) in
      let xs : List Meaning = map meaning ys in let long : length xs ≡ k = length_map meaning ys in
      let flag : now.flag ≢ Busy = (λ e. idle (ap (λ (z : RingWord). z.flag) (sym same) ∙ e)) in
      let no_drain = no_consumer now now.consumer g.tended flag in
      let e : Entry = entry j x (Elected b xs) in let log' : List Entry = l.log ++ e ∷ [] in let w' : View O = moved log' v in
      let may : IsAllowed size now j (Elected b xs) = (t.1 ∙ ap (λ (z : ℕ). Some (reservation j now.published z)) (sym long), flag) in
      let next : new ≡ pack (ring_word size (effect now j (Elected b xs))) = more ∙ ap (λ (z : RingWord). pack record z { tail = advanced size z.tail k; flag = Busy }) (sym same)
      ∙ ap (λ (z : ℕ). pack record (ring_word size now) { tail = z; flag = Busy }) (mod-add-mod now.published size k) ∙ ap (λ (z : ℕ). pack record (ring_word size now) { tail = (now.published + z) % size; flag = Busy }) (sym long) in
      let mn = made_now meaning origin settled full stands_for key s l id v e at still has refl is may in
      let now' : RingState = effect now j (Elected b xs) in
      let end : state_after first_state log' ≡ now' = state_after-append first_state l.log e ∙ ap (λ (z : RingState). effect z j (Elected b xs)) l.is in
      let pub' = cover-without size now j k g t.1 in
      let lies' : me.1 ≡ laid size now.published ys [] = lies ∙ ap (λ (z : ℕ). laid size z ys []) (sym t.0) in
      let its : items_in me.1 ≡ ys = ap items_in lies' ∙ laid_items I D size now.published ys in
      let mid : RingState = effect now j (Behind xs) in let hs1 : List (maybe.Option (Place I D)) = homes_after s.homes (laid size now.published ys []) (give_all k) in
      let sh1 = shelf_give meaning origin settled full stands_for size key.origin now s.homes ys [] j l.some_size g t.2 l.shelf in
      let cp : now.released ≤ now.published = g.released in let pr : mid.published ≤ now.reserved = subst (λ (z : ℕ). now.published + z ≤ now.reserved) (sym long) t.2 in let wi : now.reserved + 2 ≤ now.released + size = g.within in
      let reach_is : reach mid ≡ now.released = ap (reach_of now.released) no_drain in
      let n : ℕ = mid.published - now.released in let all : now.released + n ≡ mid.published = omega arith in
      let cs1 : List (ℕ × Place I D) = carried_after (laid size now.published ys []) (give_all k) in let none1 : cs1 ≡ [] = gave_carried size now.published ys [] in
      let f : ℕ → Place I D = value hs1 size in let hs2 : List (maybe.Option (Place I D)) = homes_after hs1 cs1 (take_all f size now.released n) in
      let post = subst (λ (z : Option Consumer). Posted meaning origin settled full stands_for size now.flag key.origin (take now.released mid.items) z (get_elem? hs1 size)) no_drain sh1.posted in
      let sh3 = shelf_hand size key.origin mid j b n now.flag hs1 cs1 l.some_size all pr wi sh1 (omega arith) in
      let act : Act (Place I D) = chain (give_all k) (chain (take_all f size now.released n) (takes size (Post post.0))) in
      let ready' : (m : ℕ) → now.released ≤ m → m < now.released + n → (y : I) × (get_elem? hs1 (m % size) ≡ some (some (Item y))) × (get_elem? mid.items m ≡ some (meaning y)) = λ m lo hi. sh1.ready m (omega arith) (omega arith) in
      let got = collect size meaning mid.items hs1 now.released n cs1 ready' in
      let valid : Valid s.homes (laid size now.published ys []) act = (
        gave_valid size now.published ys [] s.homes,
        (
          out_valid f size now.released n hs1 cs1 (omega arith) (λ m lo hi. let y = ready' m lo hi in y.1 ∙ sym (ap (λ (z : Place I D). some (some z)) (ap lying y.1))),
          out_else f size now.released n size hs1 cs1 (λ i lo hi q. let near = mod-lt i l.some_size in omega arith) ∙ post.1,
        ),
      ) in
      let carried : carried_after (laid size now.published ys []) act ≡ (size, Post post.0) ∷ laid size now.released got.0 [] =
      ap (λ (z : List (ℕ × Place I D)). (size, Post post.0) ∷ z) (out_carried f size now.released n cs1 ∙ got.2 ∙ ap (laid size now.released got.0) none1) in
      let counted' : length mid.items ≡ mid.published = length-append now.items xs ∙ ap (λ (z : ℕ). z + length xs) g.counted in
      let meant' : map meaning got.0 ≡ drop now.released mid.items = got.3 ∙ take-whole (drop now.released mid.items) n (length-drop now.released mid.items ∙ ap (λ (z : ℕ). z - now.released) counted') in
      let law' = steps meaning origin settled full stands_for key s l id v e (set hs2 size none) new at has refl is may next sh3 in
      let role' : role_of j (state_after first_state log') ≡ (None, Some (elected j mid.published b now.flag now.released)) = ap (role_of j) end ∙ (λ i. (pub'.3 i, drains_me j (elected j mid.published b now.flag now.released) refl i)) in
      let slots_is = size_is meaning origin settled full stands_for key s l slots wide in
      let electing : Electing size b xs v.known x w'.known = record { made = mn.0; role = role' ∙ (λ i. (None, Some (elected j (sym end i).published b (sym mn.1 i).flag (sym end i).released))) } in
      let sits = l.each id v at in
      let handed : Handed meaning origin settled full stands_for size now'.released now'.items w'.origin (carried_after (laid size now.published ys []) act) = record {
        outlet = post.0;
        taken = got.0;
        has = carried;
        meant = meant';
        settled_is = post.2;
        origin_is = sits.born (part_of key.origin l.log l.now l.keeper id v sits has) ∙ ap (λ (z : O). Some z) (sym post.3);
        stands = post.4;
        batch_is = post.5;
        room = post.6;
      } in
      let tells' : Electing (slots - 1) b (map meaning (items_in me.1)) v.known x w'.known × Handed meaning origin settled full stands_for (slots - 1) (state_after first_state log').released (state_after first_state log').items w'.origin (carried_after me.1 act) = (
        subst (λ (z : ℕ × List Meaning). Electing z.0 b z.1 v.known x w'.known) (λ i. (slots_is i, map meaning (sym its i))) electing,
        subst (λ (z : ℕ × RingState × List (ℕ × Place I D)). Handed meaning origin settled full stands_for z.0 z.1.released z.1.items w'.origin (carried_after z.2 act)) (λ i. (slots_is i, sym end i, sym lies' i)) handed,
      ) in (
        w',
        act,
        subst (λ (z : List (ℕ × Place I D)). Valid s.homes z act) (sym lies') valid,
        subst (λ (z : List (ℕ × Place I D)). Law key (stepped s 0 new id z w' act)) (sym lies') law',
        ((λ _. ((refl, refl), tells'.0, tells'.1)), λ miss. absurd (miss hit)),
      ))
      (λ miss. let t = look_at meaning origin settled full stands_for key s l slots id me st still has wide at refl in (t.0, t.1, t.2, t.3, ((λ hit. absurd (miss hit)), λ _. t.4)))
