-- What contracts see of a queue.
use Rattle.std.specs.Prelude.{◌≡◌, ℕ, ◌+◌, ◌≤◌, List, ◌++◌, length, take, Some, ◌⊎◌}
use Rattle.atomic_table.specs.Seated.{TableId}
use Rattle.ifl_desc.specs.declared.desc.Desc.{Desc}
use Rattle.ifl_desc.specs.declared.history.Side.TheVariants.{Driver, Device}
use Rattle.ifl_desc.specs.declared.port.PortState.TheVariants as state
use Rattle.ifl_desc.specs.History.{sent, known}
use Rattle.ifl_desc.specs.Frames.{open_after}
use Rattle.ifl_desc.specs.Ends.{DriverSees, IsDriver, room_of}
use Rattle.ifl_desc.specs.Port.{ReaderState, state_of}
use Rattle.ifl_pool.specs.Pools.{PoolId, PassState}
use Rattle.ifl_txq.specs.Log.{LogSees}

-- the ring, the port and the pool that it is for, its two limits, its end of the ring, its reader of the port, its pass of the pool, and its log
pub record QueueSees : Type 0 where
  pub ring : TableId
  pub port : TableId
  pub pool : PoolId
  pub max_segs : ℕ
  pub doorbell_every : ℕ
  pub driver : DriverSees
  pub reader : ReaderState
  pub pass : PassState
  pub log : LogSees

-- what contracts see of these parts
abbrev pub queue_of : TableId → TableId → PoolId → ℕ → ℕ → DriverSees → ReaderState → PassState → LogSees → QueueSees
queue_of ring port pool max_segs doorbell_every driver reader pass log = record { ring = ring; port = port; pool = pool; max_segs = max_segs; doorbell_every = doorbell_every; driver = driver; reader = reader; pass = pass; log = log }

-- with what a queue was made: the ring, the port and the pool that it belongs to, its part of the pool, its two limits, and how many tickets of each sender its log has
pub record Origin : Type 0 where
  pub ring : TableId
  pub port : TableId
  pub pool : PoolId
  pub part : ℕ
  pub max_segs : ℕ
  pub doorbell_every : ℕ
  pub counts : List ℕ

abbrev pub origin_of : QueueSees → Origin
origin_of q = record { ring = q.ring; port = q.port; pool = q.pool; part = q.pass.known.part; max_segs = q.max_segs; doorbell_every = q.doorbell_every; counts = q.log.counts }

-- what every queue keeps: its parts belong to it, what it posted are whole frames, and its limits are in range
pub record IsQueue (q : QueueSees) : Type 0 where
  pub of_ring : q.driver.ring ≡ q.ring
  pub of_port : q.reader.port ≡ q.port
  pub of_pool : q.pass.pool ≡ q.pool
  pub lawful : IsDriver q.driver
  pub whole : open_after 0 q.driver.pending ≡ 0
  pub some_segs : 1 ≤ q.max_segs
  pub few_segs : q.max_segs ≤ 64
  pub some_every : 1 ≤ q.doorbell_every
  pub few_every : q.doorbell_every ≤ 32
  pub fits : q.max_segs + 4 ≤ q.ring.slots

-- all that it posted, in order, and what it reclaimed of it, as it was returned
abbrev pub posted_list : DriverSees → List Desc
posted_list d = sent Driver d.seen ++ d.pending

abbrev pub reclaimed_list : DriverSees → List Desc
reclaimed_list d = take d.back (sent Device d.seen)

-- the reader has seen that the port is being stopped
abbrev pub SawFlush : ReaderState → Type 0
SawFlush r = state_of r.known ≡ state.Flush

-- nothing that was posted waits for its doorbell
abbrev pub IsRung : DriverSees → Type 0
IsRung d = length d.pending ≡ 0

-- it could take no packet when it was last asked: all that it knows to be returned is reclaimed and there is too little room for a packet, or the port was down
abbrev pub IsFull : QueueSees → Type 0
IsFull q = ((q.driver.back ≡ known Driver q.driver.seen) × (room_of q.driver ≤ q.max_segs + 2)) ⊎ (q.reader.found ≡ Some state.Down)
