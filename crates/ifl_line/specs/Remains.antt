-- What is left of a line once its queue and its engine are closed.
use Rattle.std.specs.Prelude.{◌≡◌, ℕ, ◌+◌, List, []}
use Rattle.atomic_table.specs.Seated.{TableId}
use Rattle.ifl_base.specs.declared.limits.TheConstants.{PART}
use Rattle.ifl_desc.specs.Ends.{DriverSees, DeviceSees, posted}
use Rattle.ifl_desc.specs.Port.{ReaderState, WriterSees, all_set}
use Rattle.ifl_device.specs.declared.plan.EnginePlan.{EnginePlan}
use Rattle.ifl_device.specs.Engine.{EngineSees, IsEngine}
use Rattle.ifl_pool.specs.Pools.{PoolId, PassState}
use Rattle.ifl_ringcore.specs.declared.history.Entry.{Entry}
use Rattle.ifl_txq.specs.Log.{LogSees}
use Rattle.ifl_txq.specs.Queue.{QueueSees, IsQueue}
use Rattle.ifl_txq.specs.Standing.{QueueStandsFor}
use Rattle.ifl_line.specs.Runs.{published}

-- these are the parts of a queue that has taken just what the history published, and has all back that it posted
pub record IsDoneQueue (ring : TableId) (max_segs : ℕ) (counts : List ℕ) (history : List Entry) (driver : DriverSees) (reader : ReaderState) (pass : PassState) (log : LogSees) : Type 0 where
  pub queue : QueueSees
  pub lawful : IsQueue queue
  pub of_ring : queue.ring ≡ ring
  pub max_is : queue.max_segs ≡ max_segs
  pub counts_are : queue.log.counts ≡ counts
  pub done : posted queue.driver ≡ queue.driver.back
  pub stands : QueueStandsFor queue (published history)
  pub driver_is : driver ≡ queue.driver
  pub reader_is : reader ≡ queue.reader
  pub pass_is : pass ≡ queue.pass
  pub log_is : log ≡ queue.log

-- these are the parts of an engine with this plan that holds nothing
pub record IsDoneEngine (ring : TableId) (plan : EnginePlan) (device : DeviceSees) (writer : WriterSees) (wire : List ℕ) : Type 0 where
  pub engine : EngineSees
  pub lawful : IsEngine engine
  pub of_ring : engine.ring ≡ ring
  pub plan_is : engine.plan ≡ plan
  pub none : engine.held ≡ []
  pub device_is : device ≡ engine.device
  pub writer_is : all_set writer ≡ engine.writer
  pub wire_is : wire ≡ engine.wire.bytes

-- the queue's pass and the senders' are the whole of the pool's
pub record AreWhole (pool : PoolId) (queue senders : PassState) : Type 0 where
  pub queue_of : queue.pool ≡ pool
  pub senders_of : senders.pool ≡ pool
  pub whole : senders.known.part + queue.known.part ≡ PART
