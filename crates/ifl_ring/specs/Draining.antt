-- What a consumer knows, has out of its slots and keeps in its batch.
use Rattle.std.specs.Prelude.{◌≡◌, ◌≢◌, ℕ, ◌+◌, ◌%◌, ◌<◌, ◌≤◌, ◌⊎◌, Bool, true, false, List, [], ◌∷◌, ◌++◌, length, map, take, drop, Some, None}
use Rattle.atomic_table.specs.Table.{Me}
use Rattle.std.specs.declared.alloc.Global.{Global}
use Rattle.std.specs.Global.{Box}
use Rattle.std.specs.declared.collections.VecDeque.{VecDeque}
use Rattle.ifl_base.specs.declared.word.Flag.{Flag}
use Rattle.ifl_base.specs.declared.word.Flag.TheVariants.{Idle, Busy, Stalled, Abdicated}
use Rattle.ifl_ringcore.specs.declared.history.Meaning.{Meaning}
use Rattle.ifl_ring.specs.declared.view.View.{View}
use Rattle.ifl_ring.specs.declared.place.Place.{Place}
use Rattle.ifl_ring.specs.declared.place.Outlet.{Outlet}
use Rattle.ifl_ring.specs.declared.place.Place.TheVariants.{Post, Away}
use Rattle.ifl_ringcore.specs.State.{Consumer, role_of, first_state}
use Rattle.ifl_ringcore.specs.History.{state_after}
use Rattle.ifl_ring.specs.Seats.{Has}
use Rattle.ifl_ring.specs.Law.{HasRoom}
use Rattle.ifl_ring.specs.Acts.{out_all, laid}
use Rattle.ifl_ring.specs.Tells.{nothing}
use Rattle.ifl_base.specs.declared.word.RingWord.{RingWord}
use Rattle.ifl_base.specs.Space.{advanced}

module _ {I D O : Type 0} where
  -- at the start of a round: the drainer and all items from c to the known tail are in the slots
  pub record Drives (meaning : I → Meaning) (origin : D → O) (settled : D → Type 0) (stands_for : D → List Meaning → Type 0) (size left at : ℕ) (m : Me (Place I D) (View O)) : Type 0 where
    pub consumer : Consumer
    pub outlet : Box (Outlet I D)
    pub items : List I
    pub named : Has m.0.known.number m.0.known.stands
    pub still : m.0.told ≡ []
    pub role : role_of m.0.known.number (state_after first_state m.0.known.seen) ≡ (None, Some consumer)
    pub count : length items ≡ left
    pub some : 1 ≤ left
    pub here : at ≡ consumer.done % size
    pub lies : m.1 ≡ (size, Post outlet) ∷ laid size consumer.done items []
    pub all : consumer.done + left ≡ consumer.known
    pub long : consumer.known ≤ length (state_after first_state m.0.known.seen).items
    pub meant : map meaning items ≡ drop consumer.done (take consumer.known (state_after first_state m.0.known.seen).items)
    pub settled_is : settled outlet.value.drainer
    pub origin_is : m.0.origin ≡ Some (origin outlet.value.drainer)
    pub stands : stands_for outlet.value.drainer (take consumer.done (state_after first_state m.0.known.seen).items)
    pub batch_is : outlet.value.batch.items ≡ []
    pub room : HasRoom size outlet.value.batch

  -- in a round: n items are consumed, those of the batch are out of their slots, and left further ones lie in front, from the slot at on
  pub record Consuming (meaning : I → Meaning) (origin : D → O) (settled : D → Type 0) (stands_for : D → List Meaning → Type 0) (size n left at : ℕ) (d : D) (q : VecDeque I Global) (m : Me (Place I D) (View O)) : Type 0 where
    pub consumer : Consumer
    pub items : List I
    pub named : Has m.0.known.number m.0.known.stands
    pub still : m.0.told ≡ []
    pub role : role_of m.0.known.number (state_after first_state m.0.known.seen) ≡ (None, Some consumer)
    pub count : length items ≡ left
    pub here : at ≡ (consumer.done + n + length q.items) % size
    pub lies : m.1 ≡ laid size (consumer.done + n + length q.items) items ((size, Away) ∷ out_all nothing size consumer.done (n + length q.items) [])
    pub all : consumer.done + n + length q.items + left ≡ consumer.known
    pub long : consumer.known ≤ length (state_after first_state m.0.known.seen).items
    pub meant : map meaning (q.items ++ items) ≡ drop (consumer.done + n) (take consumer.known (state_after first_state m.0.known.seen).items)
    pub settled_is : settled d
    pub origin_is : m.0.origin ≡ Some (origin d)
    pub stands : stands_for d (take (consumer.done + n) (state_after first_state m.0.known.seen).items)
    pub room : HasRoom size q
    pub few : length q.items ≤ 32

-- a consumer as its drain begins, with this budget, from this flag
abbrev pub IsFresh : ℕ → Flag → Consumer → Type 0
IsFresh budget from d = (d.total ≡ 0) × (d.budget ≡ budget) × (d.from ≡ from)

-- a round goes on with another batch, or has come to its exchange; more: how many items are left of it
abbrev pub GoesOn : ℕ → ℕ → Consumer → Type 0
GoesOn n more d = (n ≤ 63) × (1 ≤ more) × ((n ≡ 0) ⊎ (d.total + n < d.budget))

abbrev pub Moves : ℕ → ℕ → Consumer → Type 0
Moves n more d = (1 ≤ n) × (n ≤ 95) × ((more ≡ 0) ⊎ (64 ≤ n) ⊎ (d.budget ≤ d.total + n))

abbrev pub EndsRound : Bool → Type 0 → ℕ → ℕ → Consumer → Type 0
EndsRound true full n more d = GoesOn n more d × full
EndsRound false full n more d = Moves n more d

-- what the flag after an update says of the word that was found
abbrev pub FlagAfter : ℕ → ℕ → Bool → RingWord → Flag → Type 0
FlagAfter size n over w Idle = w.tail ≡ advanced size w.cidx n
FlagAfter size n over w Busy = (w.tail ≢ advanced size w.cidx n) × (over ≡ true → w.tail ≡ w.head)
FlagAfter size n over w Stalled = ⊥
FlagAfter size n over w Abdicated = (w.tail ≢ advanced size w.cidx n) × (over ≡ true) × (w.tail ≢ w.head)

-- whether the budget is reached with n more items
abbrev pub IsOver : Bool → ℕ → Consumer → Type 0
IsOver true n d = d.budget ≤ d.total + n
IsOver false n d = d.total + n < d.budget
