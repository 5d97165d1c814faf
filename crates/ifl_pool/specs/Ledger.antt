-- One history, and what each pass knows of it.
use Rattle.std.specs.Prelude.{◌≡◌, ℕ, ◌+◌, ◌/◌, ◌%◌, ◌<◌, ◌≤◌, Bool, false, if◌then◌else◌, ◌==◌, List, [], ◌∷◌, sum_by}
use mathlib.Core.Option.{some}
use lib.ListN.{get_elem?}
use Rattle.ifl_base.specs.declared.limits.TheConstants.{PART}
use Rattle.ifl_pool.specs.declared.history.Entry.{Entry}
use Rattle.ifl_pool.specs.declared.known.Known.{Known}
use Rattle.ifl_pool.specs.declared.word.View.{View}
use Rattle.ifl_pool.specs.History.{no_counts, IsPoolHistory, IsPrefix}
use Rattle.ifl_pool.specs.Passes.{is_one_of, own_counts, new_known, known_after_split, known_after_join}

-- a test as a number
abbrev pub one_if : Bool → ℕ
one_if b = if b then 1 else 0

-- 1 where the pass stands for the number
abbrev pub stands_for : ℕ → View → ℕ
stands_for k v = one_if (is_one_of v.known.numbers k)

-- whether the pass may yet name a new pass by the number: the spare numbers leave its own as the remainder by its stride
abbrev pub is_spare : ℕ → View → Bool
is_spare k v = if k == v.known.number then false else (k % v.stride) == v.known.number

-- 1 where the number is the pass's, by either
abbrev pub owns : ℕ → View → ℕ
owns k v = stands_for k v + one_if (is_spare k v)

-- what is added up over all passes
abbrev pub part_of : View → ℕ
part_of v = v.known.part

-- for the number of each entry some pass stands
abbrev pub IsStoodFor : List View → List Entry → Type 0
IsStoodFor views [] = Unit {0}
IsStoodFor views (e ∷ es) = (1 ≤ sum_by (stands_for e.pass) views) × IsStoodFor views es

-- a pass has counted the events that bear its numbers, and has seen a beginning of the history
pub record IsViewOf (size : ℕ) (history : List Entry) (v : View) : Type 0 where
  pub seen : IsPrefix v.known.seen history
  pub heard : IsPrefix v.heard history
  pub counts : own_counts v.known.numbers history ≡ v.known.counts
  pub alive : 0 < v.known.part → (v.size ≡ size) × (v.known.number < v.stride)
  pub spent : v.known.part ≡ 0 → v.known.numbers ≡ []

-- the history is legal, each pass knows its part of it, no two passes have a number in common, and the parts are one whole
pub record IsLedger (size : ℕ) (history : List Entry) (views : List View) : Type 0 where
  pub legal : IsPoolHistory size history
  pub each : (id : ℕ) (v : View) → get_elem? views id ≡ some v → IsViewOf size history v
  pub once : (k : ℕ) → sum_by (owns k) views ≤ 1
  pub stood : IsStoodFor views history
  pub parts : sum_by part_of views ≡ PART

-- the first pass, which may use every number
abbrev pub first_view : ℕ → View
first_view size = record { size = size; known = new_known 0 PART; stride = 1; heard = [] }

-- the pass knows this, and has heard of nothing more
abbrev pub view_knowing : Known → View → View
view_knowing known v = record v { known = known; heard = [] }

-- a split leaves every second spare number
abbrev pub view_after_split : View → View
view_after_split v = record v { known = known_after_split v.known; stride = v.stride + v.stride }

-- and gives the others to the new pass
abbrev pub view_split_off : View → View
view_split_off v = record { size = v.size; known = new_known (v.known.number + v.stride) (v.known.part / 2); stride = v.stride + v.stride; heard = [] }

-- a join tells what the other pass had seen
abbrev pub view_after_join : View → View → View
view_after_join v w = record v { known = known_after_join v.known w.known; heard = w.known.seen }

-- a pass that was joined to another
abbrev pub spent_view : View
spent_view = record { size = 0; known = record { number = 1; part = 0; numbers = []; seen = []; counts = no_counts }; stride = 1; heard = [] }
