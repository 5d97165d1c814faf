-- The steps by which a consumer gives places back: it leaves, or goes on with all that is published.
use Rattle.std.proofs.Common.{eqb, ◌≡◌, ◌≢◌, ℕ, ◌+◌, ◌-◌, ◌%◌, ◌<◌, ◌≤◌, List, [], ◌∷◌, ◌++◌, length, map, take, drop, set, get_or, sym, refl, ap, ◌∙◌, subst, ◌⊎◌, arith, mod-lt, zero, suc}
use mathlib.Core.Logic.{dite}
use native.Mathlib.Decide.{ℕ_discrete}
use Rattle.std.specs.Prelude.{Option, Some, None}
use mathlib.Core.Option.{some, none, some-ne-none}
use mathlib.Core.Option as maybe
use lib.ListN.{get_elem?}
use prog.Atomic.{either}
use Rattle.std.proofs.Math.Nat.{mod-add-mod}
use Rattle.atomic_table.specs.Table.{State, Me, Step as TableStep, step, Allows, Act, Valid, stepped, carried_after, homes_after}
use Rattle.atomic_table.proofs.Lists.{exchanged, at_map, one_turn}
use Rattle.ifl_base.specs.declared.word.Flag.{Flag}
use Rattle.ifl_base.specs.declared.word.Flag.TheVariants.{Idle, Busy, Stalled, Abdicated}
use Rattle.ifl_ringcore.specs.declared.history.Meaning.{Meaning}
use Rattle.ifl_ringcore.specs.declared.history.Entry.{Entry}
use Rattle.ifl_ring.specs.declared.view.View.{View}
use Rattle.ifl_base.specs.declared.word.RingWord.{RingWord}
use Rattle.ifl_ring.specs.declared.place.Place.{Place}
use Rattle.ifl_ring.specs.declared.place.Outlet.{Outlet}
use Rattle.ifl_ring.specs.declared.place.Key.{Key}
use Rattle.ifl_ringcore.specs.State.{RingState, Consumer, Role, role_of, free, first_state, ring_word}
use Rattle.ifl_ringcore.specs.Invariant.{Tends, reach, reach_of}
use Rattle.ifl_ringcore.specs.History.{state_after}
use Rattle.ifl_ringcore.specs.Effects.{effect}
use Rattle.ifl_ringcore.specs.Conditions.{IsAllowed}
use Rattle.ifl_base.specs.Word.{pack}
use Rattle.ifl_base.specs.Space.{advanced}
use Rattle.ifl_base.specs.Word.{IsWithin}
use Rattle.ifl_ring.specs.Law.{HasRoom, moved, Shelf, Lawful}
use Rattle.ifl_ringcore.proofs.Reservations.{cover_le}
use Rattle.ifl_ringcore.proofs.Histories.{state_after-append}
use Rattle.ifl_ring.proofs.Seats.{part_of}
use Rattle.ifl_ring.proofs.Steps.{steps, size_is, made_now, Goes, word_of, look_at}
use Rattle.ifl_ring.proofs.Reserving.{word_is}
use Rattle.std.specs.Global.{Box}
use Rattle.std.proofs.Common.{length-drop}
use Rattle.atomic_table.specs.Table.{chain, takes}
use Rattle.ifl_ring.specs.declared.place.Place.TheVariants.{Item, Post, Told}
use Rattle.ifl_ringcore.specs.Effects.{elected}
use Rattle.ifl_ringcore.specs.State.{consumer_of}
use Rattle.ifl_ringcore.specs.declared.history.Step.TheVariants.{Advance}
use Rattle.atomic_table.specs.Table.{gives, put_back, rest}
use mathlib.Core.Option.{some-injective}
use Rattle.ifl_ring.specs.Acts.{out_all, give_all}
use Rattle.ifl_ring.proofs.Emptied.{back_carried, back_valid, take_after, after_append}
use Rattle.ifl_ring.specs.Tells.{nothing}
use Rattle.ifl_ring.specs.Acts.{laid}
use Rattle.ifl_ring.specs.declared.place.Place.TheVariants.{Parting}
use Rattle.ifl_ringcore.specs.Effects.{went_on}
use Rattle.ifl_ring.specs.Acts.{take_all, value, lying}
use Rattle.ifl_ring.specs.Seats.{entry}
use Rattle.ifl_ring.specs.Tells.{Advances, Leaves, Handed, Parked, MayPart, drain_in, left, went_forth}
use Rattle.ifl_ring.specs.Calls.{parting}
use Rattle.ifl_ring.proofs.Slots.{out_carried, out_else, out_valid}
use Rattle.ifl_ring.proofs.Laid.{collect, gave_carried, gave_valid}
use Rattle.ifl_ring.proofs.Electing.{take-whole, drains_me, shelf_hand}
use Rattle.ifl_ring.proofs.Leaving.{same_drain, some_same}
use Rattle.ifl_ring.proofs.Stalling.{shelf_back}

-- a list's number i, behind the first a of the first k
at_part : {A : Type 0} (a k i : ℕ) (xs : List A) (z : A) → get_elem? (drop a (take k xs)) i ≡ some z → get_elem? xs (a + i) ≡ some z
at_part zero zero i xs z e = absurd (some-ne-none z (sym e))
at_part zero (suc k) i [] z e = absurd (some-ne-none z (sym e))
at_part zero (suc k) zero (x ∷ xs) z e = e
at_part zero (suc k) (suc i) (x ∷ xs) z e = ap (get_elem? (x ∷ xs)) (let f : 0 + suc i ≡ suc (0 + i) = omega arith in f) ∙ at_part zero k i xs z e
at_part (suc a) zero i xs z e = absurd (some-ne-none z (sym e))
at_part (suc a) (suc k) i [] z e = absurd (some-ne-none z (sym e))
at_part (suc a) (suc k) i (x ∷ xs) z e = ap (get_elem? (x ∷ xs)) (let f : suc a + i ≡ suc (a + i) = omega arith in f) ∙ at_part a k i xs z e

leaves_as : (st : RingState) (k n : ℕ) (f : Flag) → f ≢ Busy → effect st k (parting f n) ≡ record st { released = st.released + n; flag = f; consumer = None }
leaves_as st k n Idle ne = refl
leaves_as st k n Busy ne = absurd (ne refl)
leaves_as st k n Stalled ne = refl
leaves_as st k n Abdicated ne = refl

-- what holds of the state and the drain at the step
pub record Stands (size n : ℕ) (st : RingState) (d : Consumer) (w : RingWord) : Type 0 where
  pub same : ring_word size st ≡ w
  pub consumer : st.consumer ≡ Some d
  pub done : d.done ≡ st.released
  pub busy : st.flag ≡ Busy
  pub low : d.done + n ≤ d.known
  pub high : d.known ≤ st.published
  pub open_ : st.published ≤ st.reserved
  pub near : st.reserved + 2 ≤ st.released + size

tail_is : (size n : ℕ) (st : RingState) (d : Consumer) (w : RingWord) → Stands size n st d w → w.tail ≡ advanced size w.cidx n → st.released + n ≡ st.published
tail_is size n st d w t e = let a = t.done in let b = t.low in let c = t.high in let o = t.open_ in let k = t.near in
    one_turn (st.released + n) st.published size (omega arith) (omega arith)
    (sym (mod-add-mod st.released size n) ∙ (ap (λ (z : RingWord). advanced size z.cidx n) t.same ∙ sym e ∙ ap (λ (z : RingWord). z.tail) (sym t.same)))

tail_is_not : (size n : ℕ) (st : RingState) (d : Consumer) (w : RingWord) → Stands size n st d w → w.tail ≢ advanced size w.cidx n → st.released + n < st.published
tail_is_not size n st d w t ne = let a = t.done in let b = t.low in let c = t.high in dite (ℕ_discrete (st.released + n) st.published)
    (λ e. absurd (ne (ap (λ (z : RingWord). z.tail) (sym t.same) ∙ (ap (λ (z : ℕ). z % size) (sym e) ∙ (sym (mod-add-mod st.released size n) ∙ ap (λ (z : RingWord). advanced size z.cidx n) t.same)))))
    (λ x. omega arith)

-- the word allows what the rule's history asks
may_part : (size n j : ℕ) (f : Flag) (st : RingState) (d : Consumer) (w : RingWord) → Stands size n st d w → d.seat ≡ j → MayPart size f n d w → IsAllowed size st j (parting f n)
may_part size n j Idle st d w t seat (one, most, e) = let a = t.done in let b = t.low in let end = tail_is size n st d w t e in (d, t.consumer, seat, (one, most, omega arith, end))
may_part size n j Busy st d w t seat (one, most, upd, ne, quiet) = let a = t.done in let b = t.low in let c = t.high in let o = t.open_ in let k = t.near in (
  d,
  t.consumer,
  seat,
  (
    one,
    most,
    omega arith,
    subst (λ (z : ℕ). (z + n ≡ d.known) ⊎ (64 ≤ n) ⊎ (d.budget ≤ d.total + n)) a upd,
    tail_is_not size n st d w t ne,
    λ over. one_turn st.published st.reserved size o (omega arith) (ap (λ (z : RingWord). z.tail) t.same ∙ quiet over ∙ ap (λ (z : RingWord). z.head) (sym t.same)),
  ),
)
may_part size n j Stalled st d w t seat (most, low, upd) = let a = t.done in (d, t.consumer, seat, (most, omega arith, upd))
may_part size n j Abdicated st d w t seat (one, most, over, ne, open') = let a = t.done in let b = t.low in let o = t.open_ in (
  d,
  t.consumer,
  seat,
  (
    one,
    most,
    omega arith,
    over,
    tail_is_not size n st d w t ne,
    dite (ℕ_discrete st.published st.reserved) (λ e. absurd (open' (ap (λ (z : RingWord). z.tail) (sym t.same) ∙ (ap (λ (z : ℕ). z % size) e ∙ ap (λ (z : RingWord). z.head) t.same)))) (λ x. omega arith),
  ),
)

module _ {I D : Type 0} (size c n : ℕ) (ys : List I) (b : Box (Outlet I D)) where
  -- the slots of a consumer that is about to give all of them back
  abbrev pub packed : List (ℕ × Place I D)
  packed = out_all nothing size c n (laid size (c + n) ys ((size, Post b) ∷ []))

  abbrev pub all_back : Act (Place I D)
  all_back = chain (give_all n) (chain (give_all (length ys)) gives)

  abbrev C0 : List (ℕ × Place I D)
  C0 = (size, Post b) ∷ []

  abbrev C1 : List (ℕ × Place I D)
  C1 = laid size (c + n) ys C0

  pub all_gone : carried_after packed all_back ≡ []
  all_gone = ap (λ (z : List (ℕ × Place I D)). rest (carried_after z (give_all (length ys)))) (back_carried nothing size c n C1) ∙ ap rest (gave_carried size (c + n) ys C0)

  pub all_valid : (hs : List (maybe.Option (Place I D))) → Valid hs packed all_back
  all_valid hs = (back_valid nothing size c n C1 hs, (subst (λ (z : List (ℕ × Place I D)). Valid (homes_after hs packed (give_all n)) z (give_all (length ys))) (sym (back_carried nothing size c n C1)) (gave_valid size (c + n) ys C0 (homes_after hs packed (give_all n))), tt))

  pub all_home : (hs : List (maybe.Option (Place I D))) → homes_after hs packed all_back ≡ set (homes_after (homes_after hs packed (give_all n)) C1 (give_all (length ys))) size (some (Post b))
  all_home hs = let h1 : List (maybe.Option (Place I D)) = homes_after hs packed (give_all n) in
      ap (λ (z : List (ℕ × Place I D)). put_back (homes_after h1 z (give_all (length ys))) (carried_after z (give_all (length ys)))) (back_carried nothing size c n C1)
      ∙ ap (put_back (homes_after h1 C1 (give_all (length ys)))) (gave_carried size (c + n) ys C0)

module _ {I D O : Type 0} (meaning : I → Meaning) (origin : D → O) (settled full : D → Type 0) (stands_for : D → List Meaning → Type 0) where
  abbrev Law : Key O → State (Place I D) (View O) → Type 0
  Law = Lawful meaning origin settled full stands_for

  abbrev Sh : ℕ → O → RingState → List (maybe.Option (Place I D)) → Type 0
  Sh = Shelf meaning origin settled full stands_for

  abbrev Park : ℕ → ℕ → Me (Place I D) (View O) → Type 0
  Park = Parked meaning origin settled full stands_for

  -- what the consumer knows, in the state at the step
  pub record Here (key : Key O) (n : ℕ) (me : Me (Place I D) (View O)) (p : Park key.size n me) (st : RingState) (w : RingWord) : Type 0 where
    pub stands : Stands key.size n st p.consumer w
    pub seat : p.consumer.seat ≡ me.0.known.number
    pub role : role_of me.0.known.number st ≡ (None, Some p.consumer)
    pub lies : me.1 ≡ packed key.size st.released n p.items p.outlet
    pub all : st.released + n + length p.items ≡ reach st
    pub below : reach st ≤ st.published
    pub meant : (i : ℕ) (y : I) → get_elem? p.items i ≡ some y → get_elem? st.items (st.released + n + i) ≡ some (meaning y)
    pub from : origin p.outlet.value.drainer ≡ key.origin
    pub done : stands_for p.outlet.value.drainer (take (st.released + n) st.items)

  here : (key : Key O) (s : State (Place I D) (View O)) (l : Law key s) (id n : ℕ) (me : Me (Place I D) (View O)) (p : Park key.size n me) (w : RingWord) → get_elem? s.views id ≡ some me.0 → ring_word key.size l.now ≡ w → Here key n me p l.now w
  here key s l id n me p w at same = let now : RingState = l.now in let v : View O = me.0 in let j : ℕ = v.known.number in let dr : Consumer = p.consumer in let size : ℕ = key.size in let g = l.good in
      let sits = l.each id v at in let nm = sits.named p.named in
      let role' : role_of j now ≡ (None, Some dr) = ap (λ (z : ℕ). role_of z now) nm.0 ∙ (nm.1 ∙ ap (λ (z : ℕ). role_of z (state_after first_state v.known.seen)) (sym nm.0)) ∙ p.role in
      let mine = same_drain j now.consumer dr (ap (λ (z : Role). z.1) role') in
      let dg : Tends now (Some dr) = subst (Tends now) mine.0 g.tended in
      let c_is : dr.done ≡ now.released = dg.4 in let pr = cover_le now.published now.reservations now.reserved g.covered in
      let all' = p.all in let reach_is : reach now ≡ dr.known = ap (reach_of now.released) mine.0 in let hi = dg.2 in
      let grown : now ≡ state_after (state_after first_state v.known.seen) sits.seen.0 = sym l.is ∙ ap (state_after first_state) (sym sits.seen.1) ∙ after_append first_state v.known.seen sits.seen.0 in
      let old_items : (m : ℕ) → m ≤ dr.known → take m now.items ≡ take m (state_after first_state v.known.seen).items =
      λ m small. ap (λ (z : RingState). take m z.items) grown ∙ take_after m (state_after first_state v.known.seen) sits.seen.0 (let lo = p.long in omega arith) in
      let known_items : take dr.known now.items ≡ take dr.known (state_after first_state v.known.seen).items = old_items dr.known (omega arith) in record {
        stands = record { same = same; consumer = mine.0; done = c_is; busy = dg.0; low = omega arith; high = dg.2; open_ = pr; near = g.within };
        seat = mine.1;
        role = role';
        lies = p.lies ∙ ap (λ (z : ℕ). packed size z n p.items p.outlet) c_is;
        all = omega arith;
        below = omega arith;
        meant = λ i y e. ap (get_elem? now.items) (let f : now.released + n + i ≡ dr.done + n + i = omega arith in f)
            ∙ at_part (dr.done + n) dr.known i now.items (meaning y) (ap (λ (z : List Meaning). get_elem? (drop (dr.done + n) z) i) known_items ∙ (ap (λ (z : List Meaning). get_elem? z i) (sym p.meant) ∙ at_map meaning p.items i y e));
        from = some_same (sym p.origin_is ∙ sits.born (part_of key.origin l.log l.now l.keeper id v sits p.named));
        done = subst (stands_for p.outlet.value.drainer) (sym (ap (λ (z : ℕ). take (z + n) now.items) (sym c_is) ∙ old_items (dr.done + n) (omega arith))) p.stands;
      }

  pub leaves : (key : Key O) (slots id : ℕ) (me : Me (Place I D) (View O)) (old new n : ℕ) (f : Flag) (p : Park key.size n me) (w : RingWord) → f ≢ Busy → MayPart key.size f n p.consumer w → (f ≡ Stalled → full p.outlet.value.drainer)
      → key.size ≤ 65536 → IsWithin key.size w → old ≡ pack w → new ≡ pack record w { cidx = advanced key.size w.cidx n; flag = f }
      → Allows (Law key) slots id me 0 (λ x. either (eqb x old) new x) (left (step slots 0 old new (some (Parting n f))) me)
  leaves key slots id me old new n f p w ne mayp filled small inside was more s l wide at _ =
      let x : ℕ = get_or s.words 0 0 in let v : View O = me.0 in let size : ℕ = key.size in let st : TableStep (Place I D) = step slots 0 old new (some (Parting n f)) in let tells = left st me x in let j : ℕ = v.known.number in
      exchanged x old new (Goes meaning origin settled full stands_for key s id me tells)
      (λ hit. let now : RingState = l.now in let is : x ≡ pack (ring_word size now) = word_of meaning origin settled full stands_for key s l in let g = l.good in
      let same : ring_word size now ≡ w = word_is size now w l.some_size small inside (sym is ∙ hit ∙ was) in
      let h = here key s l id n me p w at same in
      let may : IsAllowed size now j (parting f n) = may_part size n j f now p.consumer w h.stands h.seat mayp in
      let e : Entry = entry j x (parting f n) in let log' : List Entry = l.log ++ e ∷ [] in let w' : View O = moved log' v in
      let next_is = leaves_as now j n f ne in
      let next : new ≡ pack (ring_word size (effect now j (parting f n))) = more ∙ ap (λ (z : RingWord). pack record z { cidx = advanced size z.cidx n; flag = f }) (sym same)
      ∙ ap (λ (z : ℕ). pack record (ring_word size now) { cidx = z; flag = f }) (mod-add-mod now.released size n) ∙ ap (λ (z : RingState). pack (ring_word size z)) (sym next_is) in
      let mn = made_now meaning origin settled full stands_for key s l id v e at p.still p.named refl is may in
      let end' : state_after first_state log' ≡ record now { released = now.released + n; flag = f; consumer = None } = state_after-append first_state l.log e ∙ ap (λ (z : RingState). effect z j (parting f n)) l.is ∙ next_is in
      let got : role_of j (state_after first_state log') ≡ free = ap (role_of j) end' ∙ (λ i. ((h.role i).0, None)) in
      let slots_is = size_is meaning origin settled full stands_for key s l slots wide in
      let P : List (ℕ × Place I D) = packed size now.released n p.items p.outlet in let act : Act (Place I D) = all_back size now.released n p.items p.outlet in
      let sh = shelf_back meaning origin settled full stands_for size key.origin now n f p.outlet p.items s.homes ((size, Post p.outlet) ∷ []) l.some_size g h.all h.below l.shelf h.meant p.settled_is h.from h.done p.batch_is p.room filled in
      let homes_is = all_home size now.released n p.items p.outlet s.homes in
      let law' = steps meaning origin settled full stands_for key s l id v e (homes_after s.homes P act) new at p.named refl is may next (subst (λ (z : RingState × List (maybe.Option (Place I D))). Sh size key.origin z.0 z.1) (λ i. (sym next_is i, sym homes_is i)) sh) in
      let tale : Leaves size f n v.known x w'.known = record { made = mn.0; role = got } in (
        w',
        act,
        subst (λ (z : List (ℕ × Place I D)). Valid s.homes z act) (sym h.lies) (all_valid size now.released n p.items p.outlet s.homes),
        subst (λ (z : List (ℕ × Place I D)). Law key (stepped s 0 new id z w' act)) (sym h.lies) law',
        ((λ _. ((refl, refl), subst (λ (z : ℕ). Leaves z f n v.known x w'.known) slots_is tale, ap (λ (z : List (ℕ × Place I D)). carried_after z act) h.lies ∙ all_gone size now.released n p.items p.outlet)), λ miss. absurd (miss hit)),
      ))
      (λ miss. let t = look_at meaning origin settled full stands_for key s l slots id me st p.still p.named wide at refl in (t.0, t.1, t.2, t.3, ((λ hit. absurd (miss hit)), λ _. t.4)))

  -- only how far the consumer has the slots counts
  other_drain : (size : ℕ) (o : O) (st : RingState) (a b : Consumer) (hs : List (maybe.Option (Place I D))) → a.known ≡ b.known → Sh size o record st { consumer = Some a } hs → Sh size o record st { consumer = Some b } hs
  other_drain size o st a b hs e h = record { wide = h.wide; taken = λ m lo hi. h.taken m lo (omega arith); ready = λ m lo hi. h.ready m (omega arith) hi; held = h.held; vacant = h.vacant; posted = h.posted }

  pub goes_on : (key : Key O) (slots id : ℕ) (me : Me (Place I D) (View O)) (old new n : ℕ) (p : Park key.size n me) (w : RingWord) → MayPart key.size Busy n p.consumer w
      → key.size ≤ 65536 → IsWithin key.size w → w.flag ≡ Busy → old ≡ pack w → new ≡ pack record w { cidx = advanced key.size w.cidx n }
      → Allows (Law key) slots id me 0 (λ x. either (eqb x old) new x) (went_forth meaning origin settled full stands_for (step slots 0 old new (some (Told n))) me)
  goes_on key slots id me old new n p w mayp small inside busy was more s l wide at _ =
      let x : ℕ = get_or s.words 0 0 in let v : View O = me.0 in let size : ℕ = key.size in let st : TableStep (Place I D) = step slots 0 old new (some (Told n)) in let tells = went_forth meaning origin settled full stands_for st me x in let j : ℕ = v.known.number in
      exchanged x old new (Goes meaning origin settled full stands_for key s id me tells)
      (λ hit. let now : RingState = l.now in let is : x ≡ pack (ring_word size now) = word_of meaning origin settled full stands_for key s l in let g = l.good in
      let same : ring_word size now ≡ w = word_is size now w l.some_size small inside (sym is ∙ hit ∙ was) in
      let h = here key s l id n me p w at same in let dr : Consumer = p.consumer in let hst = h.stands in
      let may : IsAllowed size now j (Advance n) = may_part size n j Busy now dr w h.stands h.seat mayp in
      let e : Entry = entry j x (Advance n) in let log' : List Entry = l.log ++ e ∷ [] in let w' : View O = moved log' v in
      let now' : RingState = effect now j (Advance n) in
      let next : new ≡ pack (ring_word size now') = more ∙ ap (λ (z : RingWord). pack record z { cidx = advanced size z.cidx n }) (sym same) ∙ ap (λ (z : ℕ). pack record (ring_word size now) { cidx = z }) (mod-add-mod now.released size n) in
      let mn = made_now meaning origin settled full stands_for key s l id v e at p.still p.named refl is may in
      let end' : state_after first_state log' ≡ now' = state_after-append first_state l.log e ∙ ap (λ (z : RingState). effect z j (Advance n)) l.is in
      let slots_is = size_is meaning origin settled full stands_for key s l slots wide in
      let P : List (ℕ × Place I D) = packed size now.released n p.items p.outlet in let back : Act (Place I D) = all_back size now.released n p.items p.outlet in
      let mid : RingState = record now { released = now.released + n; flag = Idle; consumer = None } in let C : List (ℕ × Place I D) = carried_after P back in
      let hs1 : List (maybe.Option (Place I D)) = homes_after s.homes P back in
      let sh1 = subst (Sh size key.origin mid) (sym (all_home size now.released n p.items p.outlet s.homes))
      (shelf_back meaning origin settled full stands_for size key.origin now n Idle p.outlet p.items s.homes ((size, Post p.outlet) ∷ []) l.some_size g h.all h.below l.shelf h.meant p.settled_is h.from h.done p.batch_is p.room (λ z. absurd cc)) in
      let hall = h.all in let hbelow = h.below in let near = hst.near in
      let k : ℕ = now.published - (now.released + n) in let all : now.released + n + k ≡ now.published = omega arith in
      let f : ℕ → Place I D = value hs1 size in
      let sh2 = shelf_hand meaning origin settled full stands_for size key.origin mid j dr.budget k dr.from hs1 C l.some_size all hst.open_ (omega arith) sh1 (omega arith) in
      let new_drain : Consumer = record dr { known = now.published; total = dr.total + n; done = dr.done + n } in
      let sh3 = other_drain size key.origin record mid { flag = Busy } (elected j now.published dr.budget dr.from (now.released + n)) new_drain (set (homes_after hs1 C (take_all f size (now.released + n) k)) size none) refl sh2 in
      let state_is : now' ≡ record mid { flag = Busy; consumer = Some new_drain } = (λ i. record now { released = now.released + n; flag = hst.busy i; consumer = went_on n now.published (hst.consumer i) }) in
      let act : Act (Place I D) = chain back (chain (take_all f size (now.released + n) k) (takes size (Post sh1.posted.0))) in
      let ready' : (m : ℕ) → now.released + n ≤ m → m < now.released + n + k → (y : I) × (get_elem? hs1 (m % size) ≡ some (some (Item y))) × (get_elem? now.items m ≡ some (meaning y)) = λ m lo hi. sh1.ready m lo (omega arith) in
      let got = collect size meaning now.items hs1 (now.released + n) k C ready' in
      let gone = all_gone size now.released n p.items p.outlet in
      let valid : Valid s.homes P act = (
        all_valid size now.released n p.items p.outlet s.homes,
        (
          out_valid f size (now.released + n) k hs1 C (omega arith) (λ m lo hi. let y = ready' m lo hi in y.1 ∙ sym (ap (λ (z : Place I D). some (some z)) (ap lying y.1))),
          out_else f size (now.released + n) k size hs1 C (λ i lo hi q. let nearer = mod-lt i l.some_size in omega arith) ∙ sh1.posted.1,
        ),
      ) in
      let carried : carried_after P act ≡ (size, Post sh1.posted.0) ∷ laid size (now.released + n) got.0 [] =
      ap (λ (z : List (ℕ × Place I D)). (size, Post sh1.posted.0) ∷ z) (out_carried f size (now.released + n) k C ∙ got.2 ∙ ap (laid size (now.released + n) got.0) gone) in
      let meant' : map meaning got.0 ≡ drop (now.released + n) now.items = got.3 ∙ take-whole (drop (now.released + n) now.items) k (length-drop (now.released + n) now.items ∙ ap (λ (z : ℕ). z - (now.released + n)) g.counted) in
      let law' = steps meaning origin settled full stands_for key s l id v e (set (homes_after hs1 C (take_all f size (now.released + n) k)) size none) new at p.named refl is may next (subst (λ (z : RingState). Sh size key.origin z (set (homes_after hs1 C (take_all f size (now.released + n) k)) size none)) (sym state_is) sh3) in
      let drain_is : drain_in v.known ≡ Some dr = ap (λ (z : Role). z.1) p.role in
      let got' : role_of j (state_after first_state log') ≡ (None, went_on n (state_after first_state log').published (drain_in v.known)) = ap (role_of j) end' ∙ (λ i. ((h.role i).0, (ap (λ (z : Option Consumer). consumer_of j (went_on n now.published z)) hst.consumer ∙ drains_me j new_drain h.seat) i))
      ∙ (λ i. (None, went_on n (sym end' i).published (sym drain_is i))) in
      let tale : Advances size n v.known x w'.known = record { made = mn.0; role = got' } in
      let sits = l.each id v at in
      let handed : Handed meaning origin settled full stands_for size now'.released now'.items w'.origin (carried_after P act) = record {
        outlet = sh1.posted.0;
        taken = got.0;
        has = carried;
        meant = meant';
        settled_is = sh1.posted.2;
        origin_is = sits.born (part_of key.origin l.log l.now l.keeper id v sits p.named) ∙ ap (λ (z : O). Some z) (sym sh1.posted.3);
        stands = sh1.posted.4;
        batch_is = sh1.posted.5;
        room = sh1.posted.6;
      } in (
        w',
        act,
        subst (λ (z : List (ℕ × Place I D)). Valid s.homes z act) (sym h.lies) valid,
        subst (λ (z : List (ℕ × Place I D)). Law key (stepped s 0 new id z w' act)) (sym h.lies) law',
        (
          (λ _. (
            (refl, refl),
            subst (λ (z : ℕ). Advances z n v.known x w'.known) slots_is tale,
            subst (λ (z : ℕ × RingState × List (ℕ × Place I D)). Handed meaning origin settled full stands_for z.0 z.1.released z.1.items w'.origin (carried_after z.2 act)) (λ i. (slots_is i, sym end' i, sym h.lies i)) handed,
          )),
          λ miss. absurd (miss hit),
        ),
      ))
      (λ miss. let t = look_at meaning origin settled full stands_for key s l slots id me st p.still p.named wide at refl in (t.0, t.1, t.2, t.3, ((λ hit. absurd (miss hit)), λ _. t.4)))

  abbrev pub park_sized : (a b n : ℕ) (me : Me (Place I D) (View O)) → a ≡ b → (p : Park a n me) → Park b n me
  park_sized a b n me e p = record {
    consumer = p.consumer;
    outlet = p.outlet;
    items = p.items;
    named = p.named;
    still = p.still;
    role = p.role;
    lies = p.lies ∙ ap (λ (z : ℕ). packed z p.consumer.done n p.items p.outlet) e;
    all = p.all;
    long = p.long;
    meant = p.meant;
    settled_is = p.settled_is;
    origin_is = p.origin_is;
    stands = p.stands;
    batch_is = p.batch_is;
    room = subst (λ (z : ℕ). HasRoom z p.outlet.value.batch) e p.room;
  }

pub may_sized : (a b : ℕ) (f : Flag) (n : ℕ) (d : Consumer) (w : RingWord) → a ≡ b → MayPart a f n d w → MayPart b f n d w
may_sized a b f n d w e m = subst (λ (z : ℕ). MayPart z f n d w) e m
