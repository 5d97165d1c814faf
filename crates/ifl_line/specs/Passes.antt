-- The two passes of a new pool.
use Rattle.std.specs.Prelude.{◌≡◌, ◌*◌}
use Rattle.ifl_base.specs.declared.limits.TheConstants.{PART}
use Rattle.ifl_pool.specs.History.{no_counts}
use Rattle.ifl_pool.specs.Passes.{IsPass}
use Rattle.ifl_pool.specs.Pools.{PoolId, PassState}

-- the queue's pass and the senders': each has half of the whole part and has done nothing
pub record ArePasses (pool : PoolId) (queue senders : PassState) : Type 0 where
  pub queue_of : queue.pool ≡ pool
  pub queue_part : 2 * queue.known.part ≡ PART
  pub queue_none : queue.known.counts ≡ no_counts
  pub queue_lawful : IsPass pool.size queue.known
  pub senders_of : senders.pool ≡ pool
  pub senders_part : 2 * senders.known.part ≡ PART
  pub senders_none : senders.known.counts ≡ no_counts
  pub senders_lawful : IsPass pool.size senders.known
