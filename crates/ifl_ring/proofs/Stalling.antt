-- The slots after a consumer left before all was consumed.
use Rattle.std.proofs.Common.{◌≡◌, ℕ, ◌+◌, ◌-◌, ◌%◌, ◌<◌, ◌≤◌, List, [], length, take, set, ap, ◌∙◌, arith, mod-lt, lt_of_not-le}
use mathlib.Core.Logic.{dite}
use native.Mathlib.Decide.{dec_le}
use Rattle.std.specs.Prelude.{None}
use mathlib.Core.Option.{some, none, some-ne-none}
use mathlib.Core.Option as maybe
use lib.ListN.{get_elem?}
use Rattle.atomic_table.specs.Table.{homes_after}
use Rattle.ifl_base.specs.declared.word.Flag.{Flag}
use Rattle.ifl_base.specs.declared.word.Flag.TheVariants.{Stalled}
use Rattle.ifl_ringcore.specs.declared.history.Meaning.{Meaning}
use Rattle.ifl_ring.specs.declared.place.Place.{Place}
use Rattle.ifl_ring.specs.declared.place.Outlet.{Outlet}
use Rattle.ifl_ringcore.specs.State.{RingState}
use Rattle.ifl_ringcore.specs.Invariant.{RingInvariant, reach}
use Rattle.ifl_ring.specs.Law.{HasRoom, Shelf}
use Rattle.ifl_ringcore.proofs.Reservations.{cover_le}
use Rattle.std.specs.Global.{Box}
use Rattle.std.proofs.Common.{length-set}
use Rattle.atomic_table.proofs.Lists.{set_here, set_else}
use Rattle.ifl_ring.specs.declared.place.Place.TheVariants.{Post}
use Rattle.std.proofs.Math.Nat.{add-mod_right}
use mathlib.Core.Option.{some-injective}
use Rattle.ifl_ring.specs.Acts.{out_all, give_all}
use Rattle.ifl_ring.proofs.Slots.{apart}
use Rattle.ifl_ring.proofs.Emptied.{back_long, back_else, back_here}
use Rattle.ifl_ring.specs.Tells.{nothing}
use Rattle.ifl_ring.specs.Acts.{laid}
use Rattle.ifl_ring.proofs.Laid.{gave_long, gave_else, gave_here}

module _ {I D O : Type 0} (meaning : I → Meaning) (origin : D → O) (settled full : D → Type 0) (stands_for : D → List Meaning → Type 0) where
  abbrev Sh : ℕ → O → RingState → List (maybe.Option (Place I D)) → Type 0
  Sh = Shelf meaning origin settled full stands_for

  pub shelf_back : (size : ℕ) (o : O) (st : RingState) (n : ℕ) (f : Flag) (b : Box (Outlet I D)) (ys : List I) (hs : List (maybe.Option (Place I D))) (C : List (ℕ × Place I D)) → 0 < size → RingInvariant size st → st.released + n + length ys ≡ reach st → reach st ≤ st.published → Sh size o st hs
      → ((i : ℕ) (y : I) → get_elem? ys i ≡ some y → get_elem? st.items (st.released + n + i) ≡ some (meaning y))
      → settled b.value.drainer → origin b.value.drainer ≡ o → stands_for b.value.drainer (take (st.released + n) st.items) → b.value.batch.items ≡ [] → HasRoom size b.value.batch → (f ≡ Stalled → full b.value.drainer)
      → Sh size o record st { released = st.released + n; flag = f; consumer = None }
      (set (homes_after (homes_after hs (out_all nothing size st.released n (laid size (st.released + n) ys C)) (give_all n)) (laid size (st.released + n) ys C) (give_all (length ys))) size (some (Post b)))
  shelf_back size o st n f b ys hs C pos g all below h meant set_ from stands empty room filled =
      let w : st.reserved + 2 ≤ st.released + size = g.within in let pr = cover_le st.published st.reservations st.reserved g.covered in let k : ℕ = reach st in let a : ℕ = st.released + n in
      let C1 : List (ℕ × Place I D) = laid size a ys C in
      let h1 : List (maybe.Option (Place I D)) = homes_after hs (out_all nothing size st.released n C1) (give_all n) in let long1 : length h1 ≡ size + 1 = back_long nothing size st.released n C1 hs ∙ h.wide in
      let h2 : List (maybe.Option (Place I D)) = homes_after h1 C1 (give_all (length ys)) in let long2 : length h2 ≡ size + 1 = gave_long size a ys C h1 ∙ long1 in record {
        wide = length-set h2 size (some (Post b)) ∙ long2;
        taken = λ m lo hi. absurd (omega arith);
        ready = λ m lo hi. dite (dec_le (reach st) m)
            (λ far. let t = h.ready m far hi in (
              t.0,
              set_else h2 size (m % size) (some (Post b)) (λ e. let near = mod-lt m pos in omega arith)
                  ∙ (gave_else size a (m % size) ys C h1 (λ i x y. apart size st.released m i (omega arith) (omega arith) (omega arith) (omega arith) (omega arith))
                  ∙ (back_else nothing size st.released n (m % size) C1 hs (λ i x y. apart size st.released m i (omega arith) (omega arith) (omega arith) (omega arith) (omega arith)) ∙ t.1)),
              t.2,
            ))
            (λ close. let less : m < reach st = lt_of_not-le close in let t = gave_here size a m ys C h1 lo (omega arith) (omega arith) (let near = mod-lt m pos in omega arith) in (
              t.0,
              set_else h2 size (m % size) (some (Post b)) (λ e. let near = mod-lt m pos in omega arith) ∙ t.2,
              ap (get_elem? st.items) (let e : m ≡ st.released + n + (m - (st.released + n)) = omega arith in e) ∙ meant (m - (st.released + n)) t.0 t.1,
            ));
        held = λ m lo hi. set_else h2 size (m % size) (some (Post b)) (λ e. let near = mod-lt m pos in omega arith)
            ∙ (gave_else size a (m % size) ys C h1 (λ i x y. apart size st.released m i (omega arith) (omega arith) (omega arith) (omega arith) (omega arith))
            ∙ (back_else nothing size st.released n (m % size) C1 hs (λ i x y. apart size st.released m i (omega arith) (omega arith) (omega arith) (omega arith) (omega arith)) ∙ h.held m lo hi));
        vacant = λ m lo hi. set_else h2 size (m % size) (some (Post b)) (λ e. let near = mod-lt m pos in omega arith)
            ∙ dite (dec_le (st.released + size) m)
            (λ over. let t : ℕ = m - size in let is : m ≡ t + size = omega arith in
            ap (λ (z : ℕ). get_elem? h2 z) (ap (λ (z : ℕ). z % size) is ∙ add-mod_right t size)
            ∙ (gave_else size a (t % size) ys C h1 (λ i x y. apart size st.released t i (omega arith) (omega arith) (omega arith) (omega arith) (omega arith))
            ∙ back_here nothing size st.released n t C1 hs (omega arith) (omega arith) (omega arith) (let near = mod-lt t pos in let wd = h.wide in omega arith)))
            (λ under. let less : m < st.released + size = lt_of_not-le under in
            gave_else size a (m % size) ys C h1 (λ i x y. apart size st.released m i (omega arith) less (omega arith) (omega arith) (omega arith))
            ∙ (back_else nothing size st.released n (m % size) C1 hs (λ i x y. apart size st.released m i (omega arith) less (omega arith) (omega arith) (omega arith)) ∙ h.vacant m lo less));
        posted = (b, set_here h2 size (some (Post b)) (omega arith), set_, from, stands, empty, room, filled);
      }
