-- The rule of the ring's table: one legal history, and what lies in the slots.
use Rattle.std.specs.Prelude.{◌≡◌, ℕ, ◌+◌, ◌%◌, ◌<◌, ◌≤◌, List, [], ◌∷◌, length, take, Option, Some, None, ◌⊎◌}
use mathlib.Core.Option.{some, none}
use mathlib.Core.Option as maybe
use lib.ListN.{get_elem?}
use Rattle.std.specs.declared.alloc.Global.{Global}
use Rattle.std.specs.Global.{Box}
use Rattle.std.specs.declared.collections.VecDeque.{VecDeque}
use Rattle.std.specs.VecDeque.{deque_capacity}
use Rattle.ifl_base.specs.declared.word.Flag.{Flag}
use Rattle.ifl_base.specs.declared.word.Flag.TheVariants.{Stalled}
use Rattle.atomic_table.specs.Table.{State, Me}
use Rattle.ifl_ringcore.specs.declared.history.Meaning.{Meaning}
use Rattle.ifl_ringcore.specs.declared.history.Entry.{Entry}
use Rattle.ifl_ring.specs.declared.view.Past.{Past}
use Rattle.ifl_ring.specs.declared.view.Known.{Known}
use Rattle.ifl_ring.specs.declared.view.View.{View}
use Rattle.ifl_ring.specs.declared.place.Place.{Place}
use Rattle.ifl_ring.specs.declared.place.Place.TheVariants.{Item, Vacant, Post}
use Rattle.ifl_ring.specs.declared.place.Outlet.{Outlet}
use Rattle.ifl_ring.specs.declared.place.Key.{Key}
use Rattle.ifl_ring.specs.declared.place.Sheet.{Sheet}
use Rattle.ifl_ringcore.specs.State.{RingState, Consumer, role_of, free, first_state, ring_word}
use Rattle.ifl_ringcore.specs.History.{state_after, IsLegalHistory, own}
use Rattle.ifl_ringcore.specs.Invariant.{RingInvariant, reach}
use Rattle.ifl_base.specs.declared.limits.TheConstants.{PART}
use Rattle.ifl_base.specs.Word.{pack}
use Rattle.ifl_ring.specs.Seats.{Has, Begins, Complete, AreDisjoint, saw, first_known, left_known, right_known, joined_known}

-- what the rule reads of what the table was told
abbrev pub key_of : {D O : Type 0} → (D → O) → Sheet D → Key O
key_of origin k = record { size = k.size; origin = origin k.drainer.value }

abbrev pub AreKeptBy : (ℕ → ℕ) → ℕ → List ℕ → Type 0
AreKeptBy keeper id stands = (k : ℕ) → Has k stands → keeper k ≡ id

abbrev pub Remembers : List Entry → (ℕ → ℕ) → ℕ → List Past → Type 0
Remembers log keeper id [] = Unit {0}
Remembers log keeper id (x ∷ xs) = Begins log x.seen × Complete log x.stands x.seen × AreKeptBy keeper id x.stands × Remembers log keeper id xs

abbrev pub SharesNone : List ℕ → List Past → Type 0
SharesNone stands [] = Unit {0}
SharesNone stands (y ∷ ys) = AreDisjoint stands y.stands × SharesNone stands ys

-- no two of these seats stood for the same number
abbrev pub AreApart : List Past → Type 0
AreApart [] = Unit {0}
AreApart (x ∷ xs) = SharesNone x.stands xs × AreApart xs

-- what holds of the view of the seat id
pub record Sits {O : Type 0} (o : O) (log : List Entry) (now : RingState) (keeper : ℕ → ℕ) (id : ℕ) (v : View O) : Type 0 where
  pub seen : Begins log v.known.seen
  pub complete : v.told ≡ [] → Complete log v.known.stands v.known.seen
  pub rooted : 0 < v.known.part → keeper id ≡ id
  pub kept : AreKeptBy keeper id v.known.stands
  pub named : Has v.known.number v.known.stands → (v.known.number ≡ id) × (role_of id now ≡ role_of id (state_after first_state v.known.seen))
  pub unnamed : v.known.stands ≡ [] → role_of id now ≡ free
  pub silent : 0 < v.known.part → v.known.stands ≡ [] → own id log ≡ []
  pub spent : v.known.part ≡ 0 → v.known.stands ≡ []
  pub born : 0 < v.known.part → v.origin ≡ Some o
  pub told : Remembers log keeper id v.told
  pub apart : AreApart v.told

abbrev pub moved : {O : Type 0} → List Entry → View O → View O
moved log v = record { known = saw log v.known; told = []; origin = v.origin }

abbrev pub parts : {O : Type 0} → List (View O) → ℕ
parts [] = 0
parts (v ∷ vs) = v.known.part + parts vs

-- the drainer's batch has room for a batch, and for all items of a ring
abbrev pub HasRoom : {I : Type 0} → ℕ → VecDeque I Global → Type 0
HasRoom size q = (32 ≤ deque_capacity q) × (size ≤ deque_capacity q)

module _ {I D O : Type 0} (meaning : I → Meaning) (origin : D → O) (settled full : D → Type 0) (stands_for : D → List Meaning → Type 0) where
  -- the drainer is at home exactly where nobody drains
  abbrev pub Posted : ℕ → Flag → O → List Meaning → Option Consumer → maybe.Option (maybe.Option (Place I D)) → Type 0
  Posted size f o done None h = (b : Box (Outlet I D)) × (h ≡ some (some (Post b))) × settled b.value.drainer × (origin b.value.drainer ≡ o) × stands_for b.value.drainer done × (b.value.batch.items ≡ []) × HasRoom size b.value.batch × (f ≡ Stalled → full b.value.drainer)
  Posted size f o done (Some x) h = h ≡ some none

  pub record Shelf (size : ℕ) (o : O) (st : RingState) (homes : List (maybe.Option (Place I D))) : Type 0 where
    pub wide : length homes ≡ size + 1
    pub taken : (m : ℕ) → st.released ≤ m → m < reach st → get_elem? homes (m % size) ≡ some none
    pub ready : (m : ℕ) → reach st ≤ m → m < st.published → (x : I) × (get_elem? homes (m % size) ≡ some (some (Item x))) × (get_elem? st.items m ≡ some (meaning x))
    pub held : (m : ℕ) → st.published ≤ m → m < st.reserved → get_elem? homes (m % size) ≡ some none
    pub vacant : (m : ℕ) → st.reserved ≤ m → m < st.released + size → get_elem? homes (m % size) ≡ some (some Vacant)
    pub posted : Posted size st.flag o (take st.released st.items) st.consumer (get_elem? homes size)

  pub record Lawful (key : Key O) (s : State (Place I D) (View O)) : Type 0 where
    pub log : List Entry
    pub now : RingState
    pub keeper : ℕ → ℕ
    pub some_size : 0 < key.size
    pub is : state_after first_state log ≡ now
    pub legal : IsLegalHistory key.size first_state log
    pub good : RingInvariant key.size now
    pub word : s.words ≡ pack (ring_word key.size now) ∷ []
    pub shelf : Shelf key.size key.origin now s.homes
    pub each : (id : ℕ) (v : View O) → get_elem? s.views id ≡ some v → Sits key.origin log now keeper id v
    pub fresh : (k : ℕ) → length s.views ≤ k → (own k log ≡ []) × (role_of k now ≡ free) × (keeper k ≡ k)
    pub stood : (k : ℕ) → k < length s.views → (own k log ≡ []) ⊎ ((v : View O) × (get_elem? s.views (keeper k) ≡ some v) × Has k v.known.stands)
    pub all_parts : parts s.views ≡ PART

abbrev pub first_view : {O : Type 0} → O → View O
first_view o = record { known = first_known; told = []; origin = Some o }

-- between calls a seat has a number, no reservation and no drain
pub record IsAtRest (v : Known) : Type 0 where
  pub named : Has v.number v.stands
  pub role : role_of v.number (state_after first_state v.seen) ≡ free

-- between calls a seat holds nothing, and remembers no seat that was joined to it
abbrev pub Rests : {S O : Type 0} → Me S (View O) → Type 0
Rests m = IsAtRest m.0.known × (m.0.told ≡ []) × (m.1 ≡ [])

abbrev pub cut_left : {O : Type 0} → View O → View O
cut_left v = record v { known = left_known v.known }

abbrev pub cut_right : {O : Type 0} → View O → View O
cut_right v = record { known = right_known v.known; told = []; origin = v.origin }

abbrev pub past : {O : Type 0} → View O → Past
past v = record { stands = v.known.stands; seen = v.known.seen }

-- a seat takes in another's part and numbers, and remembers what both had seen
abbrev pub both : {O : Type 0} → View O → View O → View O
both v w = record { known = joined_known v.known w.known; told = past v ∷ past w ∷ []; origin = v.origin }

abbrev pub gone : {O : Type 0} → View O
gone = record { known = record { number = 0; part = 0; stands = []; seen = [] }; told = []; origin = None }
