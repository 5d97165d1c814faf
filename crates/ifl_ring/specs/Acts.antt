-- Several slots are taken, or given back, at one step.
use Rattle.std.specs.Prelude.{◌≡◌, ℕ, zero, suc, ◌+◌, ◌%◌, List, [], ◌∷◌, ◌++◌, ◌≤◌, length, take, drop, replicate}
use mathlib.Core.Option.{some, none}
use mathlib.Core.Option as maybe
use lib.ListN.{get_elem?}
use Rattle.std.specs.Global.{Box}
use Rattle.std.specs.VecDeque.{deque_capacity}
use Rattle.atomic_table.specs.Table.{rest, Act, keeps, takes, gives, chain}
use Rattle.ifl_ring.specs.declared.place.Place.{Place}
use Rattle.ifl_ring.specs.declared.place.Outlet.{Outlet}
use Rattle.ifl_ring.specs.declared.place.Place.TheVariants.{Item, Vacant, Post}

module _ {S : Type 0} where
  -- the slots of the numbers from a on, n of them; f says what lies there. The first one is taken last, so that it is in front
  abbrev pub take_all : (ℕ → S) → ℕ → ℕ → ℕ → Act S
  take_all f size a zero = keeps
  take_all f size a (suc n) = chain (take_all f size (a + 1) n) (takes (a % size) (f a))

  -- the slots that the seat has then
  abbrev pub out_all : (ℕ → S) → ℕ → ℕ → ℕ → List (ℕ × S) → List (ℕ × S)
  out_all f size a zero c = c
  out_all f size a (suc n) c = (a % size, f a) ∷ out_all f size (a + 1) n c

  abbrev pub give_all : ℕ → Act S
  give_all zero = keeps
  give_all (suc n) = chain gives (give_all n)

module _ {I D : Type 0} where
  -- the items ys, in the slots of the numbers from a on
  abbrev pub laid : ℕ → ℕ → List I → List (ℕ × Place I D) → List (ℕ × Place I D)
  laid size a [] c = c
  laid size a (y ∷ ys) c = (a % size, Item y) ∷ laid size (a + 1) ys c

  abbrev pub item_in : Place I D → List I → List I
  item_in (Item y) ys = y ∷ ys
  item_in _ ys = ys

  abbrev pub items_in : List (ℕ × Place I D) → List I
  items_in [] = []
  items_in (x ∷ xs) = item_in x.1 (items_in xs)

  -- what lies at home in a slot
  abbrev pub lying : maybe.Option (maybe.Option (Place I D)) → Place I D
  lying (some (some y)) = y
  lying _ = Vacant

  abbrev pub value : List (maybe.Option (Place I D)) → ℕ → ℕ → Place I D
  value hs size m = lying (get_elem? hs (m % size))

  abbrev pub IsPostFirst : ℕ → List (ℕ × Place I D) → Type 0
  IsPostFirst size out = (b : Box (Outlet I D)) × (out ≡ (size, Post b) ∷ rest out)

  abbrev pub IsItemFirst : ℕ → List (ℕ × Place I D) → Type 0
  IsItemFirst at out = (x : I) × (out ≡ (at, Item x) ∷ rest out)

  -- the items ys are in front, from the slot at on
  pub record InFront (size at left : ℕ) (out : List (ℕ × Place I D)) : Type 0 where
    pub start : ℕ
    pub items : List I
    pub behind : List (ℕ × Place I D)
    pub count : length items ≡ left
    pub here : at ≡ start % size
    pub is : out ≡ laid size start items behind

  -- the first items of ys are in the batch now, and their slots, empty, behind all others
  pub record Gathered (size a : ℕ) (ys : List I) (c : List (ℕ × Place I D)) (before after_it : List I) (at left : ℕ) (out : List (ℕ × Place I D)) : Type 0 where
    pub k : ℕ
    pub few : k ≤ length ys
    pub left_is : left + k ≡ length ys
    pub here : at ≡ (a + k) % size
    pub batch : after_it ≡ before ++ take k ys
    pub is : out ≡ laid size (a + k) (drop k ys) (c ++ out_all (λ _. Vacant) size a k [])

  -- the slots at the start
  abbrev pub IsOpening : ℕ → D → List (Place I D) → Type 0
  IsOpening size d xs = (b : Box (Outlet I D)) × (xs ≡ replicate size Vacant ++ Post b ∷ []) × (b.value.drainer ≡ d) × (b.value.batch.items ≡ []) × (32 ≤ deque_capacity b.value.batch) × (size ≤ deque_capacity b.value.batch)
