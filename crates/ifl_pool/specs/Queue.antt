-- The rule of the queue: what it holds, and what each pass has moved.
use Rattle.std.specs.Prelude.{◌≡◌, ℕ, ◌+◌, ◌-◌, ◌/◌, ◌<◌, List, length, sum_by}
use mathlib.Core.Option.{some}
use lib.ListN.{get_elem?}
use Rattle.ifl_base.specs.declared.limits.TheConstants.{PART}
use Rattle.ifl_pool.specs.declared.moves.Moved.{Moved}
use Rattle.ifl_pool.specs.declared.word.View.{View}
use Rattle.ifl_pool.specs.Passes.{IsPass}

-- the whole pass at the start
abbrev pub first_moved : Moved
first_moved = record { part = PART; filled = 0; pops = 0; pushes = 0 }

-- a pass that was joined to another
abbrev pub spent_moved : Moved
spent_moved = record { part = 0; filled = 0; pops = 0; pushes = 0 }

-- one cluster more was filled in, popped or pushed
abbrev pub moved_after_fill : Moved → Moved
moved_after_fill m = record m { filled = m.filled + 1 }

abbrev pub moved_after_pop : Moved → Moved
moved_after_pop m = record m { pops = m.pops + 1 }

abbrev pub moved_after_push : Moved → Moved
moved_after_push m = record m { pushes = m.pushes + 1 }

-- a split shares out the part, and nothing else
abbrev pub moved_after_split : Moved → Moved
moved_after_split m = record m { part = m.part - m.part / 2 }

abbrev pub moved_split_off : Moved → Moved
moved_split_off m = record { part = m.part / 2; filled = m.filled; pops = 0; pushes = 0 }

-- a join adds up what both have moved
abbrev pub moved_after_join : Moved → Moved → Moved
moved_after_join m n = record { part = m.part + n.part; filled = m.filled; pops = m.pops + n.pops; pushes = m.pushes + n.pushes }

-- what is added up over all passes
abbrev pub share_of : Moved → ℕ
share_of m = m.part

abbrev pub pops_of : Moved → ℕ
pops_of m = m.pops

abbrev pub pushes_of : Moved → ℕ
pushes_of m = m.pushes

-- what was filled in and pushed is in the queue or was popped, and each pass knows how many were filled in
pub record IsConserved (items : List ℕ) (views : List Moved) : Type 0 where
  pub filled : ℕ
  pub count : length items + sum_by pops_of views ≡ filled + sum_by pushes_of views
  pub known : (id : ℕ) (m : Moved) → get_elem? views id ≡ some m → 0 < m.part → m.filled ≡ filled
  pub parts : sum_by share_of views ≡ PART

-- a pass between calls: it has popped what it took and pushed what it gave, of a queue that was filled with all clusters
pub record IsIdle (v : View) (m : Moved) : Type 0 where
  pub pass : IsPass v.size v.known
  pub part : m.part ≡ v.known.part
  pub filled : m.filled ≡ v.size
  pub pops : m.pops ≡ v.known.counts.taken
  pub pushes : m.pushes ≡ v.known.counts.given
