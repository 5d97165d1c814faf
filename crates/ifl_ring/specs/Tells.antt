-- What each step on the word tells its seat.
use Rattle.std.specs.Prelude.{◌≡◌, ◌≢◌, ℕ, ◌+◌, ◌-◌, ◌%◌, ◌<◌, ◌≤◌, List, [], ◌∷◌, ◌++◌, length, map, take, drop, Option, Some, None, ◌⊎◌}
use Rattle.atomic_table.specs.Table.{Me, Step as TableStep}
use Rattle.ifl_ringcore.specs.declared.history.Step.TheVariants.{Look, Refuse, Reserve, Behind, Elected, Abdicating, Advance, TakeOver}
use Rattle.ifl_base.specs.declared.word.Flag.{Flag}
use Rattle.ifl_base.specs.declared.word.Flag.TheVariants.{Idle, Busy, Stalled, Abdicated}
use Rattle.ifl_ringcore.specs.declared.history.Entry.{Entry}
use Rattle.ifl_ringcore.specs.declared.history.Meaning.{Meaning}
use Rattle.std.specs.Global.{Box}
use Rattle.ifl_ring.specs.declared.view.Known.{Known}
use Rattle.ifl_ring.specs.declared.view.View.{View}
use Rattle.ifl_base.specs.declared.word.RingWord.{RingWord}
use Rattle.ifl_ring.specs.declared.place.Place.{Place}
use Rattle.ifl_ring.specs.declared.place.Outlet.{Outlet}
use Rattle.ifl_ring.specs.declared.place.Place.TheVariants.{Vacant, Post, Told, Parting}
use mathlib.Core.Option.{some, none}
use mathlib.Core.Option as maybe
use Rattle.ifl_ring.specs.Acts.{out_all, laid, items_in}
use Rattle.ifl_ringcore.specs.State.{Reservation, Consumer, consumer_of, reservation, reservation_of, role_of, free, first_state}
use Rattle.ifl_ringcore.specs.Effects.{went_on, elected}
use Rattle.ifl_ringcore.specs.Invariant.{reach_of, RingInvariant}
use Rattle.ifl_ringcore.specs.History.{state_after, IsLegalHistory}
use Rattle.ifl_base.specs.Word.{pack}
use Rattle.ifl_base.specs.Space.{space, advanced}
use Rattle.ifl_ring.specs.Seats.{Has, IsWholeAmong, saw, Begins, Complete, entry, Made, last_word, Names}
use Rattle.ifl_ring.specs.Law.{HasRoom, AreApart}
use Rattle.ifl_base.specs.declared.limits.TheConstants.{PART}
use Rattle.ifl_ring.specs.declared.view.Past.{Past}
use Rattle.ifl_ring.specs.Calls.{parting}

-- the size of a ring, from its table's number of slots
abbrev pub size_of : {S : Type 0} → TableStep S → ℕ
size_of st = st.slots - 1

-- the same, with the word packed
abbrev pub SeesWord : ℕ → Known → ℕ → Known → Type 0
SeesWord size v n w = Made size v (entry v.number n Look) w × (n ≡ pack (last_word size w))

-- the first number of a seat's reservation
abbrev pub start_of : Option Reservation → ℕ
start_of None = 0
start_of (Some h) = h.start

abbrev pub place_of : Known → ℕ
place_of v = start_of (reservation_of v.number (state_after first_state v.seen).reservations)

-- the seat reserved k places
pub record Reserves (size k : ℕ) (v : Known) (n : ℕ) (w : Known) : Type 0 where
  pub made : Made size v (entry v.number n (Reserve k)) w
  pub role : role_of w.number (state_after first_state w.seen) ≡ (Some (reservation w.number (place_of w) k), None)
  pub place : place_of w ≡ (state_after first_state (v.seen ++ made.between)).reserved

module _ {I D : Type 0} where
  -- what the caller says beside the word
  abbrev pub told : maybe.Option (Place I D) → ℕ
  told none = 0
  told (some (Told n)) = n
  told (some _) = 0

  abbrev pub nothing : ℕ → Place I D
  nothing _ = Vacant

-- the seat published items behind others
pub record Behinds (size : ℕ) (xs : List Meaning) (v : Known) (n : ℕ) (w : Known) : Type 0 where
  pub made : Made size v (entry v.number n (Behind xs)) w
  pub role : role_of w.number (state_after first_state w.seen) ≡ free

-- the seat published items, and drains from then on
pub record Electing (size b : ℕ) (xs : List Meaning) (v : Known) (n : ℕ) (w : Known) : Type 0 where
  pub made : Made size v (entry v.number n (Elected b xs)) w
  pub role : role_of w.number (state_after first_state w.seen) ≡ (None, Some (elected w.number (state_after first_state w.seen).published b (state_after first_state (v.seen ++ made.between)).flag (state_after first_state w.seen).released))

-- the rest of the view is as it was
abbrev pub Same : {O : Type 0} → View O → View O → Type 0
Same v w = (w.told ≡ []) × (w.origin ≡ v.origin)

module _ {I D O : Type 0} where
  abbrev pub sees : TableStep (Place I D) → Me (Place I D) (View O) → ℕ → Me (Place I D) (View O) → Type 0
  sees st m n m' = Same m.0 m'.0 × (m'.1 ≡ m.1) × SeesWord (size_of st) m.0.known n m'.0.known

  abbrev pub reserved : TableStep (Place I D) → Me (Place I D) (View O) → ℕ → Me (Place I D) (View O) → Type 0
  reserved st m n m' =
      (n ≡ st.first → Same m.0 m'.0 × Reserves (size_of st) (told st.said) m.0.known n m'.0.known × (m'.1 ≡ out_all nothing (size_of st) (place_of m'.0.known) (told st.said) m.1))
      × (n ≢ st.first → sees st m n m')

  abbrev pub goes_behind : (I → Meaning) → TableStep (Place I D) → Me (Place I D) (View O) → ℕ → Me (Place I D) (View O) → Type 0
  goes_behind meaning st m n m' =
      (n ≡ st.first → Same m.0 m'.0 × Behinds (size_of st) (map meaning (items_in m.1)) m.0.known n m'.0.known × (m'.1 ≡ []))
      × (n ≢ st.first → sees st m n m')

  -- the seat has the drainer, and the items from c to p
  pub record Handed (meaning : I → Meaning) (origin : D → O) (settled full : D → Type 0) (stands_for : D → List Meaning → Type 0) (size c : ℕ) (items : List Meaning) (o : Option O) (out : List (ℕ × Place I D)) : Type 0 where
    pub outlet : Box (Outlet I D)
    pub taken : List I
    pub has : out ≡ (size, Post outlet) ∷ laid size c taken []
    pub meant : map meaning taken ≡ drop c items
    pub settled_is : settled outlet.value.drainer
    pub origin_is : o ≡ Some (origin outlet.value.drainer)
    pub stands : stands_for outlet.value.drainer (take c items)
    pub batch_is : outlet.value.batch.items ≡ []
    pub room : HasRoom size outlet.value.batch

  abbrev pub drains : (I → Meaning) → (D → O) → (D → Type 0) → (D → Type 0) → (D → List Meaning → Type 0) → TableStep (Place I D) → Me (Place I D) (View O) → ℕ → Me (Place I D) (View O) → Type 0
  drains meaning origin settled full stands_for st m n m' =
      (n ≡ st.first → Same m.0 m'.0 × Electing (size_of st) (told st.said) (map meaning (items_in m.1)) m.0.known n m'.0.known
      × Handed meaning origin settled full stands_for (size_of st) (state_after first_state m'.0.known.seen).released (state_after first_state m'.0.known.seen).items m'.0.origin m'.1)
      × (n ≢ st.first → sees st m n m')

-- both histories begin the one that is seen now, and had all entries of their numbers
abbrev pub Recalls : List Entry → List Past → Type 0
Recalls log [] = Unit {0}
Recalls log (x ∷ xs) = Begins log x.seen × Complete log x.stands x.seen × Recalls log xs

pub record Meets (size : ℕ) (told : List Past) (v w : Known) : Type 0 where
  pub is : w ≡ saw w.seen v
  pub recalls : Recalls w.seen told
  pub apart : AreApart told
  pub within : v.part ≤ PART
  pub role : role_of w.number (state_after first_state w.seen) ≡ role_of v.number (state_after first_state v.seen)
  pub whole : IsWholeAmong v w.seen
  pub legal : IsLegalHistory size first_state w.seen
  pub good : RingInvariant size (state_after first_state w.seen)

module _ {I D O : Type 0} where
  abbrev pub christened : TableStep (Place I D) → Me (Place I D) (View O) → ℕ → Me (Place I D) (View O) → Type 0
  christened st m n m' = Same m.0 m'.0 × (m'.1 ≡ m.1) × Names (size_of st) m.0.known m'.0.known

  abbrev pub met : TableStep (Place I D) → Me (Place I D) (View O) → ℕ → Me (Place I D) (View O) → Type 0
  met st m n m' = Same m.0 m'.0 × (m'.1 ≡ m.1) × Meets (size_of st) m.0.told m.0.known m'.0.known

-- the seat has given back n places, and drains no more
pub record Leaves (size : ℕ) (f : Flag) (n : ℕ) (v : Known) (x : ℕ) (w : Known) : Type 0 where
  pub made : Made size v (entry v.number x (parting f n)) w
  pub role : role_of w.number (state_after first_state w.seen) ≡ free

-- the drain that a seat has
abbrev pub drain_in : Known → Option Consumer
drain_in v = consumer_of v.number (state_after first_state v.seen).consumer

abbrev pub known_of : Known → ℕ
known_of v = reach_of 0 (drain_in v)

-- the seat gave back n places, and goes on with all that is published
pub record Advances (size n : ℕ) (v : Known) (x : ℕ) (w : Known) : Type 0 where
  pub made : Made size v (entry v.number x (Advance n)) w
  pub role : role_of w.number (state_after first_state w.seen) ≡ (None, went_on n (state_after first_state w.seen).published (drain_in v))

module _ {I D : Type 0} where
  -- how many are given back, and the flag
  abbrev pub parting_of : maybe.Option (Place I D) → ℕ × Flag
  parting_of (some (Parting n f)) = (n, f)
  parting_of _ = (0, Idle)

module _ {I D O : Type 0} where
  abbrev pub left : TableStep (Place I D) → Me (Place I D) (View O) → ℕ → Me (Place I D) (View O) → Type 0
  left st m x m' =
      (x ≡ st.first → Same m.0 m'.0 × Leaves (size_of st) (parting_of st.said).1 (parting_of st.said).0 m.0.known x m'.0.known × (m'.1 ≡ []))
      × (x ≢ st.first → sees st m x m')

  abbrev pub went_forth : (I → Meaning) → (D → O) → (D → Type 0) → (D → Type 0) → (D → List Meaning → Type 0) → TableStep (Place I D) → Me (Place I D) (View O) → ℕ → Me (Place I D) (View O) → Type 0
  went_forth meaning origin settled full stands_for st m x m' =
      (x ≡ st.first → Same m.0 m'.0 × Advances (size_of st) (told st.said) m.0.known x m'.0.known
      × Handed meaning origin settled full stands_for (size_of st) (state_after first_state m'.0.known.seen).released (state_after first_state m'.0.known.seen).items m'.0.origin m'.1)
      × (x ≢ st.first → sees st m x m')

  -- a consumer that has consumed n items since it moved the visible cidx, with the drainer and all other items back in its slots
  pub record Parked (meaning : I → Meaning) (origin : D → O) (settled full : D → Type 0) (stands_for : D → List Meaning → Type 0) (size n : ℕ) (m : Me (Place I D) (View O)) : Type 0 where
    pub consumer : Consumer
    pub outlet : Box (Outlet I D)
    pub items : List I
    pub named : Has m.0.known.number m.0.known.stands
    pub still : m.0.told ≡ []
    pub role : role_of m.0.known.number (state_after first_state m.0.known.seen) ≡ (None, Some consumer)
    pub lies : m.1 ≡ out_all nothing size consumer.done n (laid size (consumer.done + n) items ((size, Post outlet) ∷ []))
    pub all : consumer.done + n + length items ≡ consumer.known
    pub long : consumer.known ≤ length (state_after first_state m.0.known.seen).items
    pub meant : map meaning items ≡ drop (consumer.done + n) (take consumer.known (state_after first_state m.0.known.seen).items)
    pub settled_is : settled outlet.value.drainer
    pub origin_is : m.0.origin ≡ Some (origin outlet.value.drainer)
    pub stands : stands_for outlet.value.drainer (take (consumer.done + n) (state_after first_state m.0.known.seen).items)
    pub batch_is : outlet.value.batch.items ≡ []
    pub room : HasRoom size outlet.value.batch

-- when a consumer may set this flag in the word w, with n items given back
abbrev pub MayPart : ℕ → Flag → ℕ → Consumer → RingWord → Type 0
MayPart size Idle n d w = (1 ≤ n) × (n ≤ 95) × (w.tail ≡ advanced size w.cidx n)
MayPart size Busy n d w = (1 ≤ n) × (n ≤ 95) × ((d.done + n ≡ d.known) ⊎ (64 ≤ n) ⊎ (d.budget ≤ d.total + n)) × (w.tail ≢ advanced size w.cidx n) × (d.budget ≤ d.total + n → w.tail ≡ w.head)
MayPart size Stalled n d w = (n ≤ 63) × (d.done + n < d.known) × ((n ≡ 0) ⊎ (d.total + n < d.budget))
MayPart size Abdicated n d w = (1 ≤ n) × (n ≤ 95) × (d.budget ≤ d.total + n) × (w.tail ≢ advanced size w.cidx n) × (w.tail ≢ w.head)

-- a seat with a reservation of k places, whose items lie in its slots
pub record Holding {I D O : Type 0} (size k : ℕ) (m : Me (Place I D) (View O)) : Type 0 where
  pub place : ℕ
  pub items : List I
  pub count : length items ≡ k
  pub named : Has m.0.known.number m.0.known.stands
  pub still : m.0.told ≡ []
  pub role : role_of m.0.known.number (state_after first_state m.0.known.seen) ≡ (Some (reservation m.0.known.number place k), None)
  pub lies : m.1 ≡ laid size place items []

-- its turn has come in the word w
abbrev pub HasTurn : {I D O : Type 0} (size k : ℕ) (w : RingWord) (m : Me (Place I D) (View O)) → Type 0
HasTurn size k w m = (h : Holding size k m) × (w.tail ≡ h.place % size)

abbrev pub HoldsAt : {I D O : Type 0} (size k at : ℕ) (m : Me (Place I D) (View O)) → Type 0
HoldsAt size k at m = (h : Holding size k m) × (at ≡ h.place % size)

module _ {I D O : Type 0} where
  -- a step that finds any word: the seat is refused where the word has no room for what it wants, and looks otherwise
  abbrev pub refused : TableStep (Place I D) → Me (Place I D) (View O) → ℕ → Me (Place I D) (View O) → Type 0
  refused st m n m' = Same m.0 m'.0 × (m'.1 ≡ m.1) × (w : RingWord) × (n ≡ pack w) × (w ≡ last_word (size_of st) m'.0.known)
      × (space (size_of st) w ≤ told st.said → Made (size_of st) m.0.known (entry m.0.known.number n (Refuse (told st.said))) m'.0.known)
      × (told st.said < space (size_of st) w → Made (size_of st) m.0.known (entry m.0.known.number n Look) m'.0.known)

-- the seat published items and leaves the drain to others
pub record Abdicates (size : ℕ) (xs : List Meaning) (v : Known) (n : ℕ) (w : Known) : Type 0 where
  pub made : Made size v (entry v.number n (Abdicating xs)) w
  pub role : role_of w.number (state_after first_state w.seen) ≡ free

module _ {I D O : Type 0} where
  abbrev pub abdicated : (I → Meaning) → TableStep (Place I D) → Me (Place I D) (View O) → ℕ → Me (Place I D) (View O) → Type 0
  abdicated meaning st m n m' =
      (n ≡ st.first → Same m.0 m'.0 × Abdicates (size_of st) (map meaning (items_in m.1)) m.0.known n m'.0.known × (m'.1 ≡ []))
      × (n ≢ st.first → sees st m n m')

-- the seat took the drain over
pub record TakesOver (size b : ℕ) (v : Known) (n : ℕ) (w : Known) : Type 0 where
  pub made : Made size v (entry v.number n (TakeOver b)) w
  pub role : role_of w.number (state_after first_state w.seen) ≡ (None, Some (elected w.number (state_after first_state w.seen).published b (state_after first_state (v.seen ++ made.between)).flag (state_after first_state w.seen).released))

module _ {I D O : Type 0} where
  abbrev pub took_over : (I → Meaning) → (D → O) → (D → Type 0) → (D → Type 0) → (D → List Meaning → Type 0) → TableStep (Place I D) → Me (Place I D) (View O) → ℕ → Me (Place I D) (View O) → Type 0
  took_over meaning origin settled full stands_for st m n m' =
      (n ≡ st.first → Same m.0 m'.0 × TakesOver (size_of st) (told st.said) m.0.known n m'.0.known
      × Handed meaning origin settled full stands_for (size_of st) (state_after first_state m'.0.known.seen).released (state_after first_state m'.0.known.seen).items m'.0.origin m'.1)
      × (n ≢ st.first → sees st m n m')
