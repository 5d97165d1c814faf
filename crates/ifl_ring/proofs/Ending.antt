-- The slots of a table that no seat shares any more are emptied, and what lies in them.
use Rattle.std.proofs.Common.{◌≡◌, ℕ, zero, suc, ◌+◌, ◌-◌, ◌%◌, ◌<◌, ◌≤◌, ◌⊎◌, inr, Bool, false, cond, List, [], ◌∷◌, ◌++◌, length, map, take, drop, set, get_or, sym, refl, ap, ◌∙◌, subst, arith, mod-lt, mod-eq_of_lt, length-append, length-take, length-drop, lt_of_not-le}
use Rattle.std.proofs.Math.Nat.{mod-add-mod, add-mod_left}
use Rattle.std.specs.Prelude.{Option}
use Rattle.std.specs.Global.{Box}
use Rattle.std.specs.VecDeque.{deque_capacity}
use mathlib.Core.Option.{some, some-injective, some-ne-none}
use mathlib.Core.Logic.{dite}
use native.Mathlib.Decide.{dec_le}
use lib.ListN.{get_elem?}
use Rattle.atomic_table.specs.Table.{State, Me, Final, Seen}
use Rattle.ifl_base.specs.declared.limits.TheConstants.{PART}
use Rattle.ifl_base.specs.declared.word.RingWord.{RingWord}
use Rattle.ifl_base.specs.declared.word.Flag.TheVariants.{Stalled}
use Rattle.ifl_base.specs.Word.{pack, IsWithin}
use Rattle.ifl_ringcore.specs.declared.history.Entry.{Entry}
use Rattle.ifl_ringcore.specs.declared.history.Meaning.{Meaning}
use Rattle.ifl_ringcore.specs.Counters.{nothing_counted, plus, rise, counters_among, counters_of}
use Rattle.ifl_ringcore.specs.Effects.{effect}
use Rattle.ifl_ringcore.specs.State.{RingState, Consumer, first_state, ring_word}
use Rattle.ifl_ringcore.specs.History.{state_after, own, IsLegalHistory}
use Rattle.ifl_ringcore.specs.Invariant.{Cover, reach, reach_of, RingInvariant}
use Rattle.ifl_ring.specs.declared.place.Key.{Key}
use Rattle.ifl_ring.specs.declared.place.Place.{Place}
use Rattle.ifl_ring.specs.declared.place.Outlet.{Outlet}
use Rattle.ifl_ring.specs.declared.place.Place.TheVariants.{Item, Vacant, Post, Away, Told, Parting}
use Rattle.ifl_ring.specs.declared.view.View.{View}
use Rattle.ifl_ring.specs.Acts.{item_in}
use Rattle.ifl_ring.specs.Closed.{items_lying, IsEnded, IsClosed, IsHandedBack, left_after, released_after}
use Rattle.ifl_ring.specs.Seats.{AreAmong, has, Has}
use Rattle.ifl_ring.specs.Law.{HasRoom, Posted, Lawful, IsAtRest, Rests}
use Rattle.ifl_ring.proofs.Closing.{closes}
use Rattle.ifl_ring.proofs.Reserving.{word_is}
use Rattle.ifl_ring.proofs.Wholes.{among}

module _ {I D : Type 0} where
  item_in-append : (p : Place I D) (xs ys : List I) → item_in p (xs ++ ys) ≡ item_in p xs ++ ys
  item_in-append (Item y) xs ys = refl
  item_in-append Vacant xs ys = refl
  item_in-append (Post b) xs ys = refl
  item_in-append Away xs ys = refl
  item_in-append (Told n) xs ys = refl
  item_in-append (Parting n f) xs ys = refl

  pub one_item : (p : Place I D) → length (item_in p []) ≤ 1
  one_item (Item y) = omega arith
  one_item Vacant = omega arith
  one_item (Post b) = omega arith
  one_item Away = omega arith
  one_item (Told n) = omega arith
  one_item (Parting n f) = omega arith

  items_lying-snoc : (i : ℕ) (ys : List (Place I D)) (p : Place I D) → get_elem? ys i ≡ some p → items_lying (take (suc i) ys) ≡ items_lying (take i ys) ++ item_in p []
  items_lying-snoc i [] p e = absurd (some-ne-none p (sym e))
  items_lying-snoc zero (y ∷ ys) p e = ap (λ (z : Place I D). item_in z []) (some-injective y p e)
  items_lying-snoc (suc i) (y ∷ ys) p e = ap (item_in y) (items_lying-snoc i ys p e) ∙ item_in-append y (items_lying (take i ys)) (item_in p [])

  items_lying-append : (xs ys : List (Place I D)) → items_lying (xs ++ ys) ≡ items_lying xs ++ items_lying ys
  items_lying-append [] ys = refl
  items_lying-append (x ∷ xs) ys = ap (item_in x) (items_lying-append xs ys) ∙ item_in-append x (items_lying xs) (items_lying ys)

module _ {A : Type 0} where
  get_elem-drop : (n i : ℕ) (xs : List A) → get_elem? (drop n xs) i ≡ get_elem? xs (n + i)
  get_elem-drop zero i xs = ap (get_elem? xs) (let e : i ≡ 0 + i = omega arith in e)
  get_elem-drop (suc n) i [] = refl
  get_elem-drop (suc n) i (x ∷ xs) = get_elem-drop n i xs ∙ ap (get_elem? (x ∷ xs)) (let e : suc (n + i) ≡ suc n + i = omega arith in e)

  get_elem-take : (n i : ℕ) (xs : List A) → i < n → get_elem? (take n xs) i ≡ get_elem? xs i
  get_elem-take zero i xs h = absurd (omega arith)
  get_elem-take (suc n) i [] h = refl
  get_elem-take (suc n) zero (x ∷ xs) h = refl
  get_elem-take (suc n) (suc i) (x ∷ xs) h = get_elem-take n i xs (omega arith)

  get_elem-before : (xs ys : List A) (i : ℕ) → i < length xs → get_elem? (xs ++ ys) i ≡ get_elem? xs i
  get_elem-before [] ys i h = absurd (omega arith)
  get_elem-before (x ∷ xs) ys zero h = refl
  get_elem-before (x ∷ xs) ys (suc i) h = get_elem-before xs ys i (omega arith)

  get_elem-behind : (xs ys : List A) (i : ℕ) → get_elem? (xs ++ ys) (length xs + i) ≡ get_elem? ys i
  get_elem-behind [] ys i = ap (get_elem? ys) (let e : 0 + i ≡ i = omega arith in e)
  get_elem-behind (x ∷ xs) ys i = ap (get_elem? (x ∷ (xs ++ ys))) (let e : suc (length xs) + i ≡ suc (length xs + i) = omega arith in e) ∙ get_elem-behind xs ys i

module _ {I D : Type 0} where
  -- one more slot of the row from a on
  pub items_lying-next : (a k : ℕ) (xs : List (Place I D)) (p : Place I D) → a ≤ k → get_elem? xs k ≡ some p → items_lying (take (k + 1 - a) (drop a xs)) ≡ items_lying (take (k - a) (drop a xs)) ++ item_in p []
  items_lying-next a k xs p le at = let i : ℕ = k - a in
      ap (λ (z : ℕ). items_lying (take z (drop a xs))) (let e : k + 1 - a ≡ suc (k - a) = omega arith in e)
      ∙ items_lying-snoc i (drop a xs) p (get_elem-drop a i xs ∙ ap (get_elem? xs) (let e : a + (k - a) ≡ k = omega arith in e) ∙ at)

  -- a row of items, with nothing behind them
  items_lying-are : (meaning : I → Meaning) (row : List (Place I D)) (ms : List Meaning) → length ms ≤ length row
      → ((j : ℕ) → j < length ms → (x : I) × (get_elem? row j ≡ some (Item x)) × (get_elem? ms j ≡ some (meaning x)))
      → ((j : ℕ) → length ms ≤ j → j < length row → get_elem? row j ≡ some Vacant) → map meaning (items_lying row) ≡ ms
  items_lying-are meaning [] [] short items none_ = refl
  items_lying-are meaning [] (m ∷ ms) short items none_ = absurd (omega arith)
  items_lying-are meaning (p ∷ row) [] short items none_ =
      let is : p ≡ Vacant = some-injective p Vacant (none_ 0 (omega arith) (omega arith)) in
      ap (λ (z : Place I D). map meaning (item_in z (items_lying row))) is ∙ items_lying-are meaning row [] (omega arith) (λ j h. absurd (omega arith)) (λ j l h. none_ (suc j) (omega arith) (omega arith))
  items_lying-are meaning (p ∷ row) (m ∷ ms) short items none_ = let t = items 0 (omega arith) in
      let is : p ≡ Item t.0 = some-injective p (Item t.0) t.1 in let mean : m ≡ meaning t.0 = some-injective m (meaning t.0) t.2 in
      let more = items_lying-are meaning row ms (omega arith) (λ j h. items (suc j) (omega arith)) (λ j l h. none_ (suc j) (omega arith) (omega arith)) in
      ap (λ (z : Place I D). map meaning (item_in z (items_lying row))) is ∙ (λ i. sym mean i ∷ more i)

-- after one more place of the row is emptied
pub emptied_next : (a k : ℕ) (fs : List Bool) → ((j : ℕ) → a ≤ j → j < k → get_or fs j false ≡ false) → (j : ℕ) → a ≤ j → j < k + 1 → get_or (set fs k false) j false ≡ false
emptied_next a k [] h j l u = refl
emptied_next a zero (f ∷ fs) h zero l u = refl
emptied_next a zero (f ∷ fs) h (suc j) l u = absurd (omega arith)
emptied_next a (suc k) (f ∷ fs) h zero l u = h 0 l (omega arith)
emptied_next a (suc k) (f ∷ fs) h (suc j) l u = emptied_next (a - 1) k fs (λ i x y. h (suc i) (omega arith) (omega arith)) j (omega arith) (omega arith)

-- the row of all slots from the number c on: those behind its place, then those before it
module _ {A : Type 0} (size c : ℕ) (xs : List A) where
  abbrev pub row_from : List A
  row_from = take (size - c % size) (drop (c % size) xs) ++ take (c % size) xs

  row_from-length : 0 < size → size ≤ length xs → length row_from ≡ size
  row_from-length pos long = let f : ℕ = c % size in let near = mod-lt c pos in let a = length-append (take (size - f) (drop f xs)) (take f xs) in
      let b = length-take (size - f) (drop f xs) in let d = length-drop f xs in let e = length-take f xs in omega arith

  row_from-at : (j : ℕ) → 0 < size → size ≤ length xs → j < size → get_elem? row_from j ≡ get_elem? xs ((c + j) % size)
  row_from-at j pos long less = let f : ℕ = c % size in let near : c % size < size = mod-lt c pos in let front : List A = take (size - f) (drop f xs) in
      let b = length-take (size - f) (drop f xs) in let d = length-drop f xs in let wide : length front ≡ size - f = omega arith in
      let turn : (f + j) % size ≡ (c + j) % size = mod-add-mod c size j in
      dite (dec_le (size - f) j)
      (λ (past : size - f ≤ j). let i : ℕ = j - (size - f) in let jis : j ≡ length front + i = omega arith in
      let there : (f + j) % size ≡ i = ap (λ (z : ℕ). z % size) (let e : f + j ≡ size + i = omega arith in e) ∙ add-mod_left size i ∙ mod-eq_of_lt (omega arith) in
      ap (get_elem? row_from) jis ∙ get_elem-behind front (take f xs) i ∙ get_elem-take f i xs (omega arith) ∙ ap (get_elem? xs) (sym there ∙ turn))
      (λ before. let h : j < size - f = lt_of_not-le before in
      let there : (f + j) % size ≡ f + j = mod-eq_of_lt (omega arith) in
      get_elem-before front (take f xs) j (omega arith) ∙ get_elem-take (size - f) j (drop f xs) h ∙ get_elem-drop f j xs ∙ ap (get_elem? xs) (sym there ∙ turn))

-- what is left of a table when a ring is closed
pub record Ends {I D O : Type 0} (meaning : I → Meaning) (origin : D → O) (settled full : D → Type 0) (stands_for : D → List Meaning → Type 0) (size : ℕ) (o : O) (history : List Entry) (stands : List ℕ) (words : List ℕ) (slots : List (Place I D)) : Type 0 where
  pub ended : IsEnded size history
  pub all : AreAmong stands history
  pub word : words ≡ pack (ring_word size (state_after first_state history)) ∷ []
  pub outlet : Box (Outlet I D)
  pub post : get_elem? slots size ≡ some (Post outlet)
  pub settled_is : settled outlet.value.drainer
  pub origin_is : origin outlet.value.drainer ≡ o
  pub taken : stands_for outlet.value.drainer (released_after history)
  pub batch_is : outlet.value.batch.items ≡ []
  pub room : HasRoom size outlet.value.batch
  pub stalled : (state_after first_state history).flag ≡ Stalled → full outlet.value.drainer
  pub left_are : map meaning (items_lying (row_from size (state_after first_state history).released slots)) ≡ left_after history

module _ {I D O : Type 0} (meaning : I → Meaning) (origin : D → O) (settled full : D → Type 0) (stands_for : D → List Meaning → Type 0) where
  abbrev Law : Key O → State (Place I D) (View O) → Type 0
  Law = Lawful meaning origin settled full stands_for

  pub ends : (key : Key O) (words : List ℕ) (slots : List (Place I D)) (id : ℕ) (v : View O) → IsAtRest v.known → v.told ≡ [] → v.known.part ≡ PART → Final (Seen (Law key) id v) words slots
      → Ends meaning origin settled full stands_for key.size key.origin v.known.seen v.known.stands words slots
  ends key words slots id v rest still all f =
      let s : State (Place I D) (View O) = f.0 in let l : Law key s = f.1.0 in let size : ℕ = key.size in let pos : 0 < key.size = l.some_size in
      let t = closes meaning origin settled full stands_for key s l id v f.1.1 rest still all in let seen : List Entry = v.known.seen in
      let now : RingState = state_after first_state seen in
      let now_is : l.now ≡ now = sym l.is ∙ ap (state_after first_state) t.0 in
      let sh = l.shelf in let g = l.good in
      let at_home : (k : ℕ) (y : Place I D) → get_elem? s.homes k ≡ some (some y) → get_elem? slots k ≡ some y = f.4 in
      let wide : length slots ≡ size + 1 = sym f.3 ∙ sh.wide in
      let reached : reach l.now ≡ l.now.released = ap (reach_of l.now.released) t.2 in
      let covered : l.now.published ≡ l.now.reserved = subst (λ (z : _). Cover l.now.published z l.now.reserved) t.1 g.covered in
      let within = g.within in let order = g.released in let counted = g.counted in
      let post = subst (λ (z : Option Consumer). Posted meaning origin settled full stands_for size l.now.flag key.origin (take l.now.released l.now.items) z (get_elem? s.homes size)) t.2 sh.posted in
      let ms : List Meaning = drop l.now.released l.now.items in let row : List (Place I D) = row_from size l.now.released slots in
      let row_long : length row ≡ size = row_from-length size l.now.released slots pos (omega arith) in
      let ms_long : length ms ≡ l.now.published - l.now.released = length-drop l.now.released l.now.items ∙ ap (λ (z : ℕ). z - l.now.released) counted in
      let lie = items_lying-are meaning row ms (omega arith)
      (λ j h. let m : ℕ = l.now.released + j in let r = sh.ready m (omega arith) (omega arith) in
      (r.0, row_from-at size l.now.released slots j pos (omega arith) (omega arith) ∙ at_home (m % size) (Item r.0) r.1, get_elem-drop l.now.released j l.now.items ∙ r.2))
      (λ j lo hi. let m : ℕ = l.now.released + j in
      row_from-at size l.now.released slots j pos (omega arith) (omega arith) ∙ at_home (m % size) Vacant (sh.vacant m (omega arith) (omega arith))) in
      record {
        ended = record {
          legal = subst (IsLegalHistory size first_state) t.0 l.legal;
          lawful = subst (RingInvariant size) now_is g;
          reservations = ap (λ (z : RingState). z.reservations) (sym now_is) ∙ t.1;
          consumer = ap (λ (z : RingState). z.consumer) (sym now_is) ∙ t.2;
        };
        all = among v.known.stands seen (λ k. subst (λ (z : List Entry). (own k z ≡ []) ⊎ Has k v.known.stands) t.0 (t.3 k));
        word = sym f.2 ∙ l.word ∙ ap (λ (z : RingState). pack (ring_word size z) ∷ []) now_is;
        outlet = post.0;
        post = at_home size (Post post.0) post.1;
        settled_is = post.2;
        origin_is = post.3;
        taken = subst (λ (z : RingState). stands_for post.0.value.drainer (take z.released z.items)) now_is post.4;
        batch_is = post.5;
        room = post.6;
        stalled = subst (λ (z : RingState). z.flag ≡ Stalled → full post.0.value.drainer) now_is post.7;
        left_are = subst (λ (z : RingState). map meaning (items_lying (row_from size z.released slots)) ≡ drop z.released z.items) now_is lie;
      }

module _ {I D : Type 0} where
  abbrev outlet_in : Place I D → Box (Outlet I D) → Box (Outlet I D)
  outlet_in (Post b) x = b
  outlet_in _ x = x

  -- both sweeps together went over the whole row
  swept : (size c first : ℕ) (slots : List (Place I D)) (batch left1 left2 : List I) → first ≡ c % size → batch ≡ []
      → left1 ≡ batch ++ items_lying (take (size - first) (drop first slots)) → left2 ≡ left1 ++ items_lying (take (first - 0) (drop 0 slots)) → left2 ≡ items_lying (row_from size c slots)
  swept size c first slots batch left1 left2 at none_ one two =
      let front : List (Place I D) = take (size - c % size) (drop (c % size) slots) in let back : List (Place I D) = take (c % size) slots in
      let one' : left1 ≡ items_lying front = one ∙ ap (λ (z : List I). z ++ items_lying (take (size - first) (drop first slots))) none_ ∙ ap (λ (z : ℕ). items_lying (take (size - z) (drop z slots))) at in
      let two' : left2 ≡ left1 ++ items_lying back = two ∙ ap (λ (z : ℕ). left1 ++ items_lying (take z slots)) (let e : first - 0 ≡ first = omega arith in e ∙ at) in
      two' ∙ ap (λ (z : List I). z ++ items_lying back) one' ∙ sym (items_lying-append front back)

module _ {I D O : Type 0} (meaning : I → Meaning) (origin : D → O) (settled full : D → Type 0) (stands_for : D → List Meaning → Type 0) where
  -- the same at the size that the ring keeps
  pub ends_at : (key : Key O) (size : ℕ) (words : List ℕ) (slots : List (Place I D)) (id : ℕ) (m : Me (Place I D) (View O)) → key.size ≡ size → Rests m → m.0.known.part ≡ PART
      → Final (Seen (Lawful meaning origin settled full stands_for key) id m.0) words slots → Ends meaning origin settled full stands_for size key.origin m.0.known.seen m.0.known.stands words slots
  ends_at key size words slots id m sized rests all f = subst (λ (z : ℕ). Ends meaning origin settled full stands_for z key.origin m.0.known.seen m.0.known.stands words slots) sized
      (ends meaning origin settled full stands_for key words slots id m.0 rests.0 rests.1 all f)

module _ {I D O : Type 0} (meaning : I → Meaning) (origin : D → O) (settled full : D → Type 0) (stands_for : D → List Meaning → Type 0) (size : ℕ) (o : O) (history : List Entry) (stands words : List ℕ) (slots : List (Place I D))
    (e : Ends meaning origin settled full stands_for size o history stands words slots) where
  pub word_ends : (n : ℕ) → get_elem? words 0 ≡ some n → n ≡ pack (ring_word size (state_after first_state history))
  word_ends n at = some-injective n (pack (ring_word size (state_after first_state history))) (sym at ∙ ap (λ (z : List ℕ). get_elem? z 0) e.word)

  -- what lies in the last slot
  pub post_ends : (p : Place I D) → get_elem? slots size ≡ some p → p ≡ Post e.outlet
  post_ends p at = some-injective p (Post e.outlet) (sym at ∙ e.post)

  outlet_ends : (b : Box (Outlet I D)) → get_elem? slots size ≡ some (Post b) → e.outlet ≡ b
  outlet_ends b at = sym (ap (λ (z : Place I D). outlet_in z b) (post_ends (Post b) at))

  pub batch_room : (b : Box (Outlet I D)) → get_elem? slots size ≡ some (Post b) → (length b.value.batch.items ≡ 0) × (size ≤ deque_capacity b.value.batch)
  batch_room b at = subst (λ (z : Box (Outlet I D)). (length z.value.batch.items ≡ 0) × (size ≤ deque_capacity z.value.batch)) (outlet_ends b at) (ap length e.batch_is, e.room.1)

  pub closes_with : (n : ℕ) (w : RingWord) (b : Box (Outlet I D)) (left1 left2 : List I) → 0 < size → size ≤ 65536 → get_elem? words 0 ≡ some n → pack w ≡ n → IsWithin size w → get_elem? slots size ≡ some (Post b)
      → left1 ≡ b.value.batch.items ++ items_lying (take (size - w.cidx) (drop w.cidx slots)) → left2 ≡ left1 ++ items_lying (take (w.cidx - 0) (drop 0 slots)) → IsClosed meaning size history w left2 × IsHandedBack origin settled full stands_for o history b.value.drainer
  closes_with n w b left1 left2 pos small at packs within there one two =
      let st : RingState = state_after first_state history in
      let is : ring_word size st ≡ w = word_is size st w pos small within (sym (word_ends n at) ∙ sym packs) in
      let is_b : e.outlet ≡ b = outlet_ends b there in let d_is : e.outlet.value.drainer ≡ b.value.drainer = ap (λ (z : Box (Outlet I D)). z.value.drainer) is_b in
      let none_ : b.value.batch.items ≡ [] = ap (λ (z : Box (Outlet I D)). z.value.batch.items) (sym is_b) ∙ e.batch_is in
      let row = swept size st.released w.cidx slots b.value.batch.items left1 left2 (ap (λ (z : RingWord). z.cidx) (sym is)) none_ one two in (
        record {
          ended = e.ended;
          word = sym is;
          left_are = ap (map meaning) row ∙ e.left_are;
        },
        record {
          settled_is = subst settled d_is e.settled_is;
          origin_is = ap origin (sym d_is) ∙ e.origin_is;
          stands = subst (λ (z : D). stands_for z (released_after history)) d_is e.taken;
          stalled = λ is. subst full d_is (e.stalled is);
        },
      )

-- no slot is left that has a value
pub all_emptied : (size first : ℕ) (f0 f1 f2 f3 : List Bool) → first ≤ size → f1 ≡ set f0 size false
    → ((k : ℕ) → first ≤ k → k < size → get_or f2 k false ≡ false) → ((k : ℕ) → (k < first) ⊎ (size ≤ k) → get_or f2 k false ≡ get_or f1 k false)
    → ((k : ℕ) → 0 ≤ k → k < first → get_or f3 k false ≡ false) → ((k : ℕ) → (k < 0) ⊎ (first ≤ k) → get_or f3 k false ≡ get_or f2 k false) → (k : ℕ) → k < size + 1 → get_or f3 k false ≡ false
all_emptied size first f0 f1 f2 f3 le took one other1 two other2 k h = dite (dec_le first k)
    (λ behind. other2 k (inr behind) ∙ dite (dec_le size k)
    (λ last. let is : k ≡ size = omega arith in other1 k (inr last) ∙ ap (λ (z : List Bool). get_or z k false) took ∙ ap (λ (z : ℕ). get_or (set f0 z false) k false) (sym is)
    ∙ emptied_next k k f0 (λ j a b. absurd (omega arith)) k (omega arith) (omega arith))
    (λ before. one k behind (lt_of_not-le before)))
    (λ before. two k (omega arith) (lt_of_not-le before))

-- where all seats are among some numbers, these count the whole history
pub counters_among-whole : (stands : List ℕ) (st : RingState) (es : List Entry) → AreAmong stands es → counters_among (λ k. has k stands) st es ≡ counters_of st es
counters_among-whole stands st [] h = refl
counters_among-whole stands st (e ∷ es) h = let next : RingState = effect st e.seat e.event in
    ap (λ (b : Bool). plus (cond b (rise st e.event) nothing_counted) (counters_among (λ k. has k stands) next es)) h.0 ∙ ap (plus (rise st e.event)) (counters_among-whole stands next es h.1)
