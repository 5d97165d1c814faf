-- A round of the drain: its start, a batch, and the way back into the slots.
use Rattle.std.proofs.Common.{◌≡◌, ℕ, zero, suc, ◌+◌, ◌-◌, ◌%◌, ◌≤◌, List, [], ◌∷◌, ◌++◌, length, map, take, drop, sym, refl, ap, ◌∙◌, subst, arith, append-nil, append_assoc, length-append, length-drop}
use Rattle.std.specs.Prelude.{Some}
use Rattle.std.proofs.Math.Nat.{mod-add-mod}
use Rattle.std.proofs.lemmas.List.{take-append-le}
use Rattle.atomic_table.specs.Table.{Me, rest, turned}
use Rattle.std.specs.declared.alloc.Global.{Global}
use Rattle.std.specs.Global.{Box}
use Rattle.std.specs.declared.collections.VecDeque.{VecDeque}
use Rattle.ifl_ringcore.specs.declared.history.Meaning.{Meaning}
use Rattle.ifl_ring.specs.declared.view.View.{View}
use Rattle.ifl_ring.specs.declared.place.Place.{Place}
use Rattle.ifl_ring.specs.declared.place.Outlet.{Outlet}
use Rattle.ifl_ring.specs.declared.place.Place.TheVariants.{Item, Vacant, Post, Away}
use Rattle.ifl_ringcore.specs.State.{role_of, first_state}
use Rattle.ifl_ringcore.specs.History.{state_after}
use Rattle.ifl_ring.specs.Seats.{Has}
use Rattle.ifl_ring.specs.Law.{HasRoom}
use Rattle.ifl_base.specs.Space.{advanced}
use Rattle.ifl_ring.specs.Acts.{out_all, laid, Gathered, InFront, IsPostFirst}
use Rattle.ifl_ring.specs.Tells.{nothing, Parked}
use Rattle.ifl_ring.specs.Draining.{Drives, Consuming}
use Rattle.ifl_ring.specs.PutBack.{IsBack}
use Rattle.ifl_ring.proofs.Gathering.{nth}
use Rattle.ifl_ring.proofs.Strings.{drop_all, take_all_of, drop_drop, drop_left, take_more, map_drop, map_take, out_append, out_long_is, out_cut, laid_cut, laid_join, laid_long, take_drop}

module _ {A : Type 0} where
  take_whole_le : (k : ℕ) (xs : List A) → length xs ≤ k → take k xs ≡ xs
  take_whole_le zero [] h = refl
  take_whole_le zero (x ∷ xs) h = absurd (omega arith)
  take_whole_le (suc k) [] h = refl
  take_whole_le (suc k) (x ∷ xs) h = ap (λ (z : List A). x ∷ z) (take_whole_le k xs (omega arith))

  pub length_take_le : (k : ℕ) (xs : List A) → k ≤ length xs → length (take k xs) ≡ k
  length_take_le zero xs h = refl
  length_take_le (suc k) [] h = absurd (omega arith)
  length_take_le (suc k) (x ∷ xs) h = ap suc (length_take_le k xs (omega arith))

  same_head : (x y : A) (xs ys : List A) → x ∷ xs ≡ y ∷ ys → x ≡ y
  same_head x y xs ys e = cc

  same_rest : (x y : A) (xs ys : List A) → x ∷ xs ≡ y ∷ ys → xs ≡ ys
  same_rest x y xs ys e = cc

module _ {I D : Type 0} where
  abbrev outlet_of : Box (Outlet I D) → Place I D → Box (Outlet I D)
  outlet_of b (Post c) = c
  outlet_of b _ = b

  abbrev outlet_in : Box (Outlet I D) → List (ℕ × Place I D) → Box (Outlet I D)
  outlet_in b [] = b
  outlet_in b (x ∷ xs) = outlet_of b x.1

  pub back_none : (size a : ℕ) (c : List (ℕ × Place I D)) (all : List I) (at : ℕ) (out : List (ℕ × Place I D)) → at ≡ a % size → out ≡ out_all nothing size a (length all) c → IsBack size a c all all at out
  back_none size a c all at out here is = record {
    k = 0;
    few = omega arith;
    rest = refl;
    here = here ∙ ap (λ (z : ℕ). z % size) (let e : a ≡ a + 0 = omega arith in e);
    is = is ∙ (λ i. out_all nothing size ((let e : a ≡ a + 0 = omega arith in e) i) (length all) ((let e : c ≡ c ++ [] = simp append-nil in e) i));
  }

  pub back_front : (size a : ℕ) (c : List (ℕ × Place I D)) (all left : List I) (at : ℕ) (out : List (ℕ × Place I D)) (x : I) (more : List I) → IsBack size a c all left at out → left ≡ x ∷ more → out ≡ (at, Vacant) ∷ rest out
  back_front size a c all left at out x more b e =
      let is : out ≡ ((a + b.k) % size, Vacant) ∷ out_all nothing size (a + b.k + 1) (length more) (c ++ laid size a (take b.k all) []) = b.is ∙ ap (λ (z : List I). out_all nothing size (a + b.k) (length z) (c ++ laid size a (take b.k all) [])) e in
      is ∙ (λ i. (sym b.here i, Vacant) ∷ rest (sym is i))

  pub back_one : (size a : ℕ) (c : List (ℕ × Place I D)) (all left more : List I) (at at' : ℕ) (out out' : List (ℕ × Place I D)) (x : I) → IsBack size a c all left at out → left ≡ x ∷ more → out' ≡ rest out ++ (at, Item x) ∷ [] → at' ≡ advanced size at 1 → IsBack size a c all more at' out'
  back_one size a c all left more at at' out out' x b e next step =
      let some_left : length left ≡ suc (length more) = ap length e in let lies : length left ≡ length all - b.k = ap length b.rest ∙ length-drop b.k all in
      let n = nth b.k all (let f = b.few in omega arith) in
      let both : x ∷ more ≡ n.0 ∷ drop (suc b.k) all = sym e ∙ b.rest ∙ n.1 in
      let x_is : x ≡ n.0 = same_head x n.0 more (drop (suc b.k) all) both in let more_is : more ≡ drop (suc b.k) all = same_rest x n.0 more (drop (suc b.k) all) both in
      let old : List (ℕ × Place I D) = laid size a (take b.k all) [] in
      let is : out ≡ ((a + b.k) % size, Vacant) ∷ out_all nothing size (a + b.k + 1) (length more) (c ++ old) = b.is ∙ ap (λ (z : List I). out_all nothing size (a + b.k) (length z) (c ++ old)) e in
      let new : laid size a (take (suc b.k) all) [] ≡ old ++ (at, Item x) ∷ [] =
      ap (λ (z : List I). laid size a z []) n.2 ∙ laid_cut size a (take b.k all) (n.0 ∷ []) []
      ∙ (λ i. laid size a (take b.k all) (((ap (λ (z : ℕ). (a + z) % size) (length_take_le b.k all b.few) ∙ sym b.here) i, Item (sym x_is i)) ∷ []))
      ∙ sym (laid_join size a (take b.k all) [] ((at, Item x) ∷ [])) in record {
        k = suc b.k;
        few = let f = b.few in omega arith;
        rest = more_is;
        here = step ∙ ap (λ (z : ℕ). (z + 1) % size) b.here ∙ mod-add-mod (a + b.k) size 1 ∙ ap (λ (z : ℕ). z % size) (let f : a + b.k + 1 ≡ a + suc b.k = omega arith in f);
        is = next ∙ ap (λ (z : List (ℕ × Place I D)). rest z ++ (at, Item x) ∷ []) is ∙ out_append nothing size (a + b.k + 1) (length more) (c ++ old) ((at, Item x) ∷ [])
            ∙ (λ i. out_all nothing size ((let f : a + b.k + 1 ≡ a + suc b.k = omega arith in f) i) (length more) ((append_assoc c old ((at, Item x) ∷ []) ∙ ap (λ (z : List (ℕ × Place I D)). c ++ z) (sym new)) i));
      }

  pub back_all : (size a : ℕ) (c : List (ℕ × Place I D)) (all left : List I) (at : ℕ) (out : List (ℕ × Place I D)) → IsBack size a c all left at out → left ≡ [] → out ≡ c ++ laid size a all []
  back_all size a c all left at out b e =
      let whole : take b.k all ≡ all = take_whole_le b.k all (let f : length all - b.k ≡ 0 = sym (length-drop b.k all) ∙ ap length (sym b.rest ∙ e) in omega arith) in
      b.is ∙ ap (λ (z : List I). out_all nothing size (a + b.k) (length z) (c ++ laid size a (take b.k all) [])) e ∙ ap (λ (z : List I). c ++ laid size a z []) whole

  -- what the turns do on the way back
  module _ (size c n : ℕ) (q ys : List I) where
    abbrev pub X : List (ℕ × Place I D)
    X = laid size (c + n + length q) ys ((size, Away) ∷ out_all nothing size c n [])

    abbrev pub Z : List (ℕ × Place I D)
    Z = out_all nothing size c n (laid size (c + n) q [])

    pub first_turn : (left : ℕ) (out out' : List (ℕ × Place I D)) → length ys ≡ left → out ≡ laid size (c + n + length q) ys ((size, Away) ∷ out_all nothing size c (n + length q) []) → out' ≡ drop (left + 1 + n) out ++ take (left + 1 + n) out
        → (out' ≡ out_all nothing size (c + n) (length q) X) × (left + 1 + n ≤ length out)
    first_turn left out out' count is next =
        let Y : List (ℕ × Place I D) = out_all nothing size (c + n) (length q) [] in
        let cut : out ≡ X ++ Y = is ∙ ap (λ (z : List (ℕ × Place I D)). laid size (c + n + length q) ys ((size, Away) ∷ z)) (out_cut nothing size c n (length q) [] ∙ sym (out_append nothing size c n [] Y)) ∙ sym (laid_join size (c + n + length q) ys ((size, Away) ∷ out_all nothing size c n []) Y) in
        let long : length X ≡ left + 1 + n = laid_long size (c + n + length q) ys ((size, Away) ∷ out_all nothing size c n []) ∙ (let t : length (out_all (nothing {I = I} {D = D}) size c n []) ≡ n + 0 = out_long_is nothing size c n [] in omega arith) in
        let gone : drop (left + 1 + n) out ≡ Y = ap (λ (z : ℕ). drop z out) (sym long) ∙ ap (drop (length X)) cut ∙ drop_all X Y in
        let kept : take (left + 1 + n) out ≡ X = ap (λ (z : ℕ). take z out) (sym long) ∙ ap (take (length X)) cut ∙ take_all_of X Y in
        (next ∙ (λ i. gone i ++ kept i) ∙ out_append nothing size (c + n) (length q) [] X, let t : length out ≡ length (X ++ Y) = ap length cut in let u = length-append X Y in omega arith)

    pub second_turn : (left : ℕ) (out out' : List (ℕ × Place I D)) → length ys ≡ left → out ≡ X ++ laid size (c + n) q [] → out' ≡ drop left out ++ take left out
        → (out' ≡ (size, Away) ∷ (Z ++ laid size (c + n + length q) ys [])) × (left ≤ length out)
    second_turn left out out' count is next =
        let W : List (ℕ × Place I D) = laid size (c + n + length q) ys [] in
        let cut : out ≡ W ++ (size, Away) ∷ Z = is ∙ laid_join size (c + n + length q) ys ((size, Away) ∷ out_all nothing size c n []) (laid size (c + n) q [])
        ∙ ap (λ (z : List (ℕ × Place I D)). laid size (c + n + length q) ys ((size, Away) ∷ z)) (out_append nothing size c n [] (laid size (c + n) q [])) ∙ sym (laid_join size (c + n + length q) ys [] ((size, Away) ∷ Z)) in
        let long : length W ≡ left = laid_long size (c + n + length q) ys [] ∙ (let e : length ys + 0 ≡ left = omega arith in e) in
        let gone : drop left out ≡ (size, Away) ∷ Z = ap (λ (z : ℕ). drop z out) (sym long) ∙ ap (drop (length W)) cut ∙ drop_all W ((size, Away) ∷ Z) in
        let kept : take left out ≡ W = ap (λ (z : ℕ). take z out) (sym long) ∙ ap (take (length W)) cut ∙ take_all_of W ((size, Away) ∷ Z) in
        (next ∙ (λ i. gone i ++ kept i), let t : length out ≡ length (W ++ (size, Away) ∷ Z) = ap length cut in let u = length-append W ((size, Away) ∷ Z) in omega arith)

    pub last_turn : (p : Place I D) → (Z ++ laid size (c + n + length q) ys []) ++ (size, p) ∷ [] ≡ out_all nothing size c n (laid size (c + n) (q ++ ys) ((size, p) ∷ []))
    last_turn p = append_assoc Z (laid size (c + n + length q) ys []) ((size, p) ∷ []) ∙ ap (λ (z : List (ℕ × Place I D)). Z ++ z) (laid_join size (c + n + length q) ys [] ((size, p) ∷ []))
        ∙ out_append nothing size c n (laid size (c + n) q []) (laid size (c + n + length q) ys ((size, p) ∷ []))
        ∙ ap (out_all nothing size c n) (laid_join size (c + n) q [] (laid size (c + n + length q) ys ((size, p) ∷ [])) ∙ sym (laid_cut size (c + n) q ys ((size, p) ∷ [])))

module _ {I D O : Type 0} (meaning : I → Meaning) (origin : D → O) (settled : D → Type 0) (stands_for : D → List Meaning → Type 0) where
  pub post_first : (size left at : ℕ) (m : Me (Place I D) (View O)) → Drives meaning origin settled stands_for size left at m → IsPostFirst size m.1
  post_first size left at m v = (v.outlet, v.lies ∙ (λ i. (size, Post v.outlet) ∷ rest (sym v.lies i)))

  pub begun : (size left at : ℕ) (b : Box (Outlet I D)) (m m' : Me (Place I D) (View O)) → m.1 ≡ (size, Post b) ∷ rest m.1 → m' ≡ (m.0, turned ((size, Away) ∷ rest m.1))
      → (v : Drives meaning origin settled stands_for size left at m) → (c : Consuming meaning origin settled stands_for size 0 left at b.value.drainer b.value.batch m') × (c.consumer ≡ v.consumer) × (b.value.batch.items ≡ [])
  begun size left at b m m' first next v =
      let b_is : v.outlet ≡ b = ap (outlet_in b) (sym v.lies ∙ first) in let q : VecDeque I Global = b.value.batch in
      let d_is : v.outlet.value.drainer ≡ b.value.drainer = ap (λ (z : Box (Outlet I D)). z.value.drainer) b_is in let q_is : v.outlet.value.batch ≡ q = ap (λ (z : Box (Outlet I D)). z.value.batch) b_is in
      let none : q.items ≡ [] = ap (λ (z : VecDeque I Global). z.items) (sym q_is) ∙ v.batch_is in let zero_ : length q.items ≡ 0 = ap length none in
      let at0 : v.consumer.done ≡ v.consumer.done + 0 + length q.items = omega arith in let at1 : v.consumer.done ≡ v.consumer.done + 0 = omega arith in
      let out : m'.1 ≡ laid size v.consumer.done v.items ((size, Away) ∷ []) = ap (λ (z : Me (Place I D) (View O)). z.1) next ∙ ap (λ (z : List (ℕ × Place I D)). rest z ++ (size, Away) ∷ []) v.lies ∙ laid_join size v.consumer.done v.items [] ((size, Away) ∷ []) in
      let view : m.0 ≡ m'.0 = ap (λ (z : Me (Place I D) (View O)). z.0) (sym next) in (
        record {
          consumer = v.consumer;
          items = v.items;
          named = subst (λ (z : View O). Has z.known.number z.known.stands) view v.named;
          still = ap (λ (z : View O). z.told) (sym view) ∙ v.still;
          role = ap (λ (z : View O). role_of z.known.number (state_after first_state z.known.seen)) (sym view) ∙ v.role;
          count = v.count;
          here = v.here ∙ ap (λ (z : ℕ). z % size) at0;
          lies = out ∙ (λ i. laid size (at0 i) v.items ((size, Away) ∷ out_all nothing size v.consumer.done ((let e : 0 ≡ 0 + length q.items = omega arith in e) i) []));
          all = let a = v.all in omega arith;
          long = subst (λ (z : View O). v.consumer.known ≤ length (state_after first_state z.known.seen).items) view v.long;
          meant = ap (λ (z : List I). map meaning (z ++ v.items)) none ∙ v.meant ∙ (λ i. drop (at1 i) (take v.consumer.known (state_after first_state (view i).known.seen).items));
          settled_is = subst settled d_is v.settled_is;
          origin_is = ap (λ (z : View O). z.origin) (sym view) ∙ v.origin_is ∙ ap (λ (z : D). Some (origin z)) d_is;
          stands = subst (λ (z : D × ℕ × View O). stands_for z.0 (take z.1 (state_after first_state z.2.known.seen).items)) (λ i. (d_is i, at1 i, view i)) v.stands;
          room = subst (λ (z : VecDeque I Global). HasRoom size z) q_is v.room;
          few = omega arith;
        },
        refl,
        none,
      )

  abbrev pub front : (size n left at : ℕ) (d : D) (q : VecDeque I Global) (m : Me (Place I D) (View O)) → Consuming meaning origin settled stands_for size n left at d q m → InFront size at left m.1
  front size n left at d q m c = record { start = c.consumer.done + n + length q.items; items = c.items; behind = (size, Away) ∷ out_all nothing size c.consumer.done (n + length q.items) []; count = c.count; here = c.here; is = c.lies }

  pub offered : (size n left at k left' at' : ℕ) (d d' : D) (q q1 q2 : VecDeque I Global) (m m' : Me (Place I D) (View O)) (c : Consuming meaning origin settled stands_for size n left at d q m)
      → Gathered size (c.consumer.done + n + length q.items) c.items ((size, Away) ∷ out_all nothing size c.consumer.done (n + length q.items) []) q.items q1.items at' left' m'.1 → m'.0 ≡ m.0
      → k ≤ length q1.items → q2.items ≡ drop k q1.items → ((ms : List Meaning) → stands_for d ms → stands_for d' (ms ++ map meaning (take k q1.items))) → settled d' → origin d' ≡ origin d → HasRoom size q2 → length q1.items ≤ 32
      → (x : Consuming meaning origin settled stands_for size (n + k) left' at' d' q2 m') × (x.consumer ≡ c.consumer)
  offered size n left at k left' at' d d' q q1 q2 m m' c g view few left_is stands set_ from room small =
      let a : ℕ = c.consumer.done in let b : ℕ = length q.items in let j : ℕ = g.k in
      let long1 : length q1.items ≡ b + j = ap length g.batch ∙ length-append q.items (take j c.items) ∙ ap (λ (z : ℕ). b + z) (length_take_le j c.items g.few) in
      let long2 : length q2.items ≡ b + j - k = ap length left_is ∙ length-drop k q1.items ∙ ap (λ (z : ℕ). z - k) long1 in
      let at_is : a + n + b + j ≡ a + (n + k) + length q2.items = omega arith in let out_is : n + b + j ≡ n + k + length q2.items = omega arith in
      let items0 : List Meaning = (state_after first_state m.0.known.seen).items in
      let split : q1.items ++ drop j c.items ≡ q.items ++ c.items = ap (λ (z : List I). z ++ drop j c.items) g.batch ∙ append_assoc q.items (take j c.items) (drop j c.items) ∙ ap (λ (z : List I). q.items ++ z) (take_drop j c.items) in
      let meant1 : map meaning (q1.items ++ drop j c.items) ≡ drop (a + n) (take c.consumer.known items0) = ap (map meaning) split ∙ c.meant in
      let meant2 : map meaning (q2.items ++ drop j c.items) ≡ drop (a + (n + k)) (take c.consumer.known items0) =
      ap (λ (z : List I). map meaning (z ++ drop j c.items)) left_is ∙ ap (map meaning) (sym (drop_left k q1.items (drop j c.items) few)) ∙ map_drop meaning k (q1.items ++ drop j c.items) ∙ ap (drop k) meant1 ∙ drop_drop (a + n) k (take c.consumer.known items0)
      ∙ ap (λ (z : ℕ). drop z (take c.consumer.known items0)) (let e : a + n + k ≡ a + (n + k) = omega arith in e) in
      let some_taken : map meaning (take k q1.items) ≡ take k (drop (a + n) (take c.consumer.known items0)) =
      ap (map meaning) (sym (take-append-le k q1.items (drop j c.items) few)) ∙ map_take meaning k (q1.items ++ drop j c.items) ∙ ap (take k) meant1 in
      let all' = c.all in let few' = g.left_is in let cnt = c.count in
      let stands2 : stands_for d' (take (a + (n + k)) items0) = subst (stands_for d') (ap (λ (z : List Meaning). take (a + n) items0 ++ z) some_taken ∙ take_more (a + n) k c.consumer.known items0 (omega arith) ∙ ap (λ (z : ℕ). take z items0) (let e : a + n + k ≡ a + (n + k) = omega arith in e))
      (stands (take (a + n) items0) c.stands) in (
        record {
          consumer = c.consumer;
          items = drop j c.items;
          named = subst (λ (z : View O). Has z.known.number z.known.stands) (sym view) c.named;
          still = ap (λ (z : View O). z.told) view ∙ c.still;
          role = ap (λ (z : View O). role_of z.known.number (state_after first_state z.known.seen)) view ∙ c.role;
          count = length-drop j c.items ∙ omega arith;
          here = g.here ∙ ap (λ (z : ℕ). z % size) at_is;
          lies = g.is ∙ ap (λ (z : List (ℕ × Place I D)). laid size (a + n + b + j) (drop j c.items) ((size, Away) ∷ z))
              (out_append nothing size a (n + b) [] (out_all nothing size (a + n + b) j []) ∙ ap (λ (z : ℕ). out_all nothing size a (n + b) (out_all nothing size z j [])) (let e : a + n + b ≡ a + (n + b) = omega arith in e) ∙ sym (out_cut nothing size a (n + b) j []))
              ∙ (λ i. laid size (at_is i) (drop j c.items) ((size, Away) ∷ out_all nothing size a (out_is i) []));
          all = omega arith;
          long = subst (λ (z : View O). c.consumer.known ≤ length (state_after first_state z.known.seen).items) (sym view) c.long;
          meant = meant2 ∙ ap (λ (z : View O). drop (a + (n + k)) (take c.consumer.known (state_after first_state z.known.seen).items)) (sym view);
          settled_is = set_;
          origin_is = ap (λ (z : View O). z.origin) view ∙ c.origin_is ∙ ap (λ (z : O). Some z) (sym from);
          stands = subst (λ (z : View O). stands_for d' (take (a + (n + k)) (state_after first_state z.known.seen).items)) (sym view) stands2;
          room = room;
          few = omega arith;
        },
        refl,
      )

  pub parked : (full : D → Type 0) (size n left at : ℕ) (d : D) (q : VecDeque I Global) (b : Box (Outlet I D)) (m m' : Me (Place I D) (View O)) (c : Consuming meaning origin settled stands_for size n left at d q m) → m'.0 ≡ m.0
      → m'.1 ≡ out_all nothing size c.consumer.done n (laid size (c.consumer.done + n) (q.items ++ c.items) ((size, Post b) ∷ [])) → b.value.drainer ≡ d → b.value.batch.items ≡ [] → HasRoom size b.value.batch
      → (p : Parked meaning origin settled full stands_for size n m') × (p.consumer ≡ c.consumer) × (p.outlet.value.drainer ≡ d)
  parked full size n left at d q b m m' c view lies same none room = let a = c.all in let l = length-append q.items c.items in let cnt = c.count in (
    record {
      consumer = c.consumer;
      outlet = b;
      items = q.items ++ c.items;
      named = subst (λ (z : View O). Has z.known.number z.known.stands) (sym view) c.named;
      still = ap (λ (z : View O). z.told) view ∙ c.still;
      role = ap (λ (z : View O). role_of z.known.number (state_after first_state z.known.seen)) view ∙ c.role;
      lies = lies;
      all = omega arith;
      long = subst (λ (z : View O). c.consumer.known ≤ length (state_after first_state z.known.seen).items) (sym view) c.long;
      meant = c.meant ∙ ap (λ (z : View O). drop (c.consumer.done + n) (take c.consumer.known (state_after first_state z.known.seen).items)) (sym view);
      settled_is = subst settled (sym same) c.settled_is;
      origin_is = ap (λ (z : View O). z.origin) view ∙ c.origin_is ∙ ap (λ (z : D). Some (origin z)) (sym same);
      stands = subst (λ (z : D × View O). stands_for z.0 (take (c.consumer.done + n) (state_after first_state z.1.known.seen).items)) (λ i. (sym same i, sym view i)) c.stands;
      batch_is = none;
      room = room;
    },
    refl,
    same,
  )

pub gathered_long : {I D : Type 0} (size a : ℕ) (ys : List I) (c : List (ℕ × Place I D)) (before now : List I) (at left : ℕ) (out : List (ℕ × Place I D)) → Gathered size a ys c before now at left out → length now + left ≡ length before + length ys
gathered_long size a ys c before now at left out g = let e = g.left_is in let f = g.few in let t = ap length g.batch ∙ length-append before (take g.k ys) in let u = length_take_le g.k ys g.few in omega arith
