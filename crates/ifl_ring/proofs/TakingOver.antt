-- The step that takes a drain over.
use Rattle.std.proofs.Common.{eqb, ◌≡◌, ◌≢◌, ℕ, ◌+◌, ◌-◌, ◌%◌, ◌<◌, ◌≤◌, List, [], ◌∷◌, ◌++◌, map, take, drop, set, get_or, sym, refl, ap, ◌∙◌, subst, inl, inr, ◌⊎◌, ⊎_elim, arith, mod-lt}
use Rattle.std.specs.Prelude.{Option, Some, None}
use mathlib.Core.Option.{some, none, some-ne-none}
use mathlib.Core.Option as maybe
use lib.ListN.{get_elem?}
use prog.Atomic.{either}
use Rattle.atomic_table.specs.Table.{State, Me, Step as TableStep, step, Allows, Act, Valid, carried_after, homes_after}
use Rattle.atomic_table.proofs.Lists.{exchanged, one_turn}
use Rattle.ifl_base.specs.declared.word.Flag.TheVariants.{Busy, Stalled, Abdicated}
use Rattle.ifl_ringcore.specs.declared.history.Meaning.{Meaning}
use Rattle.ifl_ringcore.specs.declared.history.Entry.{Entry}
use Rattle.ifl_ringcore.specs.declared.history.Step.TheVariants.{TakeOver}
use Rattle.ifl_ring.specs.declared.view.View.{View}
use Rattle.ifl_base.specs.declared.word.RingWord.{RingWord}
use Rattle.ifl_ring.specs.declared.place.Place.{Place}
use Rattle.ifl_ring.specs.declared.place.Key.{Key}
use Rattle.ifl_ringcore.specs.State.{RingState, Consumer, Role, reservation_of, role_of, free, first_state, ring_word}
use Rattle.ifl_ringcore.specs.Invariant.{reach, reach_of}
use Rattle.ifl_ringcore.specs.History.{state_after}
use Rattle.ifl_ringcore.specs.Effects.{effect}
use Rattle.ifl_ringcore.specs.Conditions.{IsAllowed}
use Rattle.ifl_base.specs.Word.{pack}
use Rattle.ifl_base.specs.Word.{IsWithin}
use Rattle.ifl_ring.specs.Acts.{laid}
use Rattle.ifl_ring.specs.Law.{moved, Posted, Lawful, IsAtRest}
use Rattle.ifl_ringcore.proofs.Reservations.{cover_le}
use Rattle.ifl_ringcore.proofs.Histories.{state_after-append}
use Rattle.ifl_ring.proofs.Seats.{part_of}
use Rattle.ifl_ring.proofs.Steps.{steps, size_is, made_now, Goes, word_of, look_at}
use Rattle.ifl_ring.proofs.Reserving.{word_is}
use Rattle.std.proofs.Common.{length-drop}
use Rattle.atomic_table.specs.Table.{chain, takes}
use Rattle.ifl_ring.specs.declared.place.Place.TheVariants.{Item, Post, Told}
use Rattle.ifl_ringcore.specs.Effects.{elected}
use Rattle.ifl_ringcore.specs.State.{consumer_of}
use Rattle.ifl_ring.specs.Acts.{take_all, lying, value}
use Rattle.ifl_ring.specs.Seats.{entry}
use Rattle.ifl_ring.specs.Tells.{TakesOver, Handed, took_over}
use Rattle.ifl_ringcore.proofs.Keeping.{no_consumer}
use Rattle.ifl_ring.proofs.Slots.{out_carried, out_else, out_valid}
use Rattle.ifl_ring.proofs.Laid.{collect}
use Rattle.ifl_ring.proofs.Electing.{take-whole, drains_me, shelf_hand}

module _ {I D O : Type 0} (meaning : I → Meaning) (origin : D → O) (settled full : D → Type 0) (stands_for : D → List Meaning → Type 0) where
  abbrev Law : Key O → State (Place I D) (View O) → Type 0
  Law = Lawful meaning origin settled full stands_for

  pub takes_over : (key : Key O) (slots id : ℕ) (me : Me (Place I D) (View O)) (old new b : ℕ) (w : RingWord) → me.0.told ≡ [] → IsAtRest me.0.known → me.1 ≡ []
      → key.size ≤ 65536 → IsWithin key.size w → old ≡ pack w → (w.flag ≡ Stalled) ⊎ (w.flag ≡ Abdicated) → w.tail ≡ w.head → new ≡ pack record w { flag = Busy }
      → Allows (Law key) slots id me 0 (λ x. either (eqb x old) new x) (took_over meaning origin settled full stands_for (step slots 0 old new (some (Told b))) me)
  takes_over key slots id me old new b w still rests none_out small inside was lost quiet more s l wide at _ =
      let x : ℕ = get_or s.words 0 0 in let v : View O = me.0 in let size : ℕ = key.size in let st : TableStep (Place I D) = step slots 0 old new (some (Told b)) in let tells = took_over meaning origin settled full stands_for st me x in
      let j : ℕ = v.known.number in
      exchanged x old new (Goes meaning origin settled full stands_for key s id me tells)
      (λ hit. let now : RingState = l.now in let is : x ≡ pack (ring_word size now) = word_of meaning origin settled full stands_for key s l in let g = l.good in
      let same : ring_word size now ≡ w = word_is size now w l.some_size small inside (sym is ∙ hit ∙ was) in
      let sits = l.each id v at in let nm = sits.named rests.named in
      let role0 : role_of j now ≡ free = ap (λ (z : ℕ). role_of z now) nm.0 ∙ (nm.1 ∙ ap (λ (z : ℕ). role_of z (state_after first_state v.known.seen)) (sym nm.0)) ∙ rests.role in
      let no_hold : reservation_of j now.reservations ≡ None = ap (λ (z : Role). z.0) role0 in let no_mine : consumer_of j now.consumer ≡ None = ap (λ (z : Role). z.1) role0 in
      let flag_is : now.flag ≡ w.flag = ap (λ (z : RingWord). z.flag) same in
      let lost' : (now.flag ≡ Stalled) ⊎ (now.flag ≡ Abdicated) = ⊎_elim (λ (e : w.flag ≡ Stalled). inl (flag_is ∙ e)) (λ (e : w.flag ≡ Abdicated). inr (flag_is ∙ e)) lost in
      let flag : now.flag ≢ Busy = (λ e. ⊎_elim (λ (z : now.flag ≡ Stalled). let f : ⊥ = cc in f) (λ (z : now.flag ≡ Abdicated). let f : ⊥ = cc in f) lost') in
      let no_drain = no_consumer now now.consumer g.tended flag in
      let cp : now.released ≤ now.published = g.released in let pr = cover_le now.published now.reservations now.reserved g.covered in let wi : now.reserved + 2 ≤ now.released + size = g.within in
      let calm : now.published ≡ now.reserved = one_turn now.published now.reserved size pr (omega arith) (ap (λ (z : RingWord). z.tail) same ∙ quiet ∙ ap (λ (z : RingWord). z.head) (sym same)) in
      let e : Entry = entry j x (TakeOver b) in let log' : List Entry = l.log ++ e ∷ [] in let w' : View O = moved log' v in
      let may : IsAllowed size now j (TakeOver b) = (no_mine, no_hold, lost', sym calm) in
      let now' : RingState = effect now j (TakeOver b) in
      let next : new ≡ pack (ring_word size now') = more ∙ ap (λ (z : RingWord). pack record z { flag = Busy }) (sym same) in
      let mn = made_now meaning origin settled full stands_for key s l id v e at still rests.named refl is may in
      let end : state_after first_state log' ≡ now' = state_after-append first_state l.log e ∙ ap (λ (z : RingState). effect z j (TakeOver b)) l.is in
      let reach_is : reach now ≡ now.released = ap (reach_of now.released) no_drain in
      let n : ℕ = now.published - now.released in let all : now.released + n ≡ now.published = omega arith in
      let f : ℕ → Place I D = value s.homes size in let hs2 : List (maybe.Option (Place I D)) = homes_after s.homes me.1 (take_all f size now.released n) in
      let post = subst (λ (z : Option Consumer). Posted meaning origin settled full stands_for size now.flag key.origin (take now.released now.items) z (get_elem? s.homes size)) no_drain l.shelf.posted in
      let sh3 = shelf_hand meaning origin settled full stands_for size key.origin now j b n now.flag s.homes me.1 l.some_size all pr wi l.shelf (omega arith) in
      let act : Act (Place I D) = chain (take_all f size now.released n) (takes size (Post post.0)) in
      let ready' : (m : ℕ) → now.released ≤ m → m < now.released + n → (y : I) × (get_elem? s.homes (m % size) ≡ some (some (Item y))) × (get_elem? now.items m ≡ some (meaning y)) = λ m lo hi. l.shelf.ready m (omega arith) (omega arith) in
      let got = collect size meaning now.items s.homes now.released n me.1 ready' in
      let valid : Valid s.homes me.1 act = (
        out_valid f size now.released n s.homes me.1 (omega arith) (λ m lo hi. let y = ready' m lo hi in y.1 ∙ sym (ap (λ (z : Place I D). some (some z)) (ap lying y.1))),
        out_else f size now.released n size s.homes me.1 (λ i lo hi q. let near = mod-lt i l.some_size in omega arith) ∙ post.1,
      ) in
      let carried : carried_after me.1 act ≡ (size, Post post.0) ∷ laid size now.released got.0 [] =
      ap (λ (z : List (ℕ × Place I D)). (size, Post post.0) ∷ z) (out_carried f size now.released n me.1 ∙ got.2 ∙ ap (laid size now.released got.0) none_out) in
      let meant' : map meaning got.0 ≡ drop now.released now.items = got.3 ∙ take-whole (drop now.released now.items) n (length-drop now.released now.items ∙ ap (λ (z : ℕ). z - now.released) g.counted) in
      let law' = steps meaning origin settled full stands_for key s l id v e (set hs2 size none) new at rests.named refl is may next sh3 in
      let role' : role_of j (state_after first_state log') ≡ (None, Some (elected j now.published b now.flag now.released)) = ap (role_of j) end ∙ (λ i. (no_hold i, drains_me j (elected j now.published b now.flag now.released) refl i)) in
      let slots_is = size_is meaning origin settled full stands_for key s l slots wide in
      let taking : TakesOver size b v.known x w'.known = record { made = mn.0; role = role' ∙ (λ i. (None, Some (elected j (sym end i).published b (sym mn.1 i).flag (sym end i).released))) } in
      let handed : Handed meaning origin settled full stands_for size now'.released now'.items w'.origin (carried_after me.1 act) = record {
        outlet = post.0;
        taken = got.0;
        has = carried;
        meant = meant';
        settled_is = post.2;
        origin_is = sits.born (part_of key.origin l.log l.now l.keeper id v sits rests.named) ∙ ap (λ (z : O). Some z) (sym post.3);
        stands = post.4;
        batch_is = post.5;
        room = post.6;
      } in (
        w',
        act,
        valid,
        law',
        (
          (λ _. (
            (refl, refl),
            subst (λ (z : ℕ). TakesOver z b v.known x w'.known) slots_is taking,
            subst (λ (z : ℕ × RingState). Handed meaning origin settled full stands_for z.0 z.1.released z.1.items w'.origin (carried_after me.1 act)) (λ i. (slots_is i, sym end i)) handed,
          )),
          λ miss. absurd (miss hit),
        ),
      ))
      (λ miss. let t = look_at meaning origin settled full stands_for key s l slots id me st still rests.named wide at refl in (t.0, t.1, t.2, t.3, ((λ hit. absurd (miss hit)), λ _. t.4)))
