-- What contracts see of a pool, of its passes and of a closed pool.
use Rattle.std.specs.Prelude.{◌≡◌, ℕ, ◌+◌, ◌≤◌, List}
use Rattle.atomic_table.specs.Seated.{TableId}
use Rattle.ifl_pool.specs.declared.history.Entry.{Entry}
use Rattle.ifl_pool.specs.declared.known.Known.{Known}
use Rattle.ifl_pool.specs.History.{counts_of, IsPoolHistory}

-- which pool it is, and how many clusters it was made with
pub record PoolId : Type 0 where
  pub word : TableId
  pub queue : TableId
  pub size : ℕ

-- which pool a pass is of, and what it knows
pub record PassState : Type 0 where
  pub pool : PoolId
  pub known : Known

-- the size and the whole history of a closed pool, and the numbers of the clusters in it
pub record ClosedState : Type 0 where
  pub size : ℕ
  pub history : List Entry
  pub clusters : List ℕ

-- a closed pool with this history holds so many clusters
pub record IsClosedPool (size : ℕ) (history : List Entry) (clusters : ℕ) : Type 0 where
  pub legal : IsPoolHistory size history
  pub count : clusters + (counts_of history).taken ≡ size + (counts_of history).given

-- what the whole pass knows of the count that is left
pub record IsLastCount (size : ℕ) (k : Known) (count : ℕ) : Type 0 where
  pub within : count ≤ size
  pub balance : count + k.counts.taken ≡ size + k.counts.given
  pub closed : IsClosedPool size k.seen count
