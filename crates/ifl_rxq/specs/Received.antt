-- What a receive run leaves.
use Rattle.std.specs.Prelude.{◌≡◌, ℕ, ◌+◌, List, [], length, map}
use Rattle.atomic_table.specs.Seated.{TableId}
use Rattle.ifl_base.specs.declared.limits.TheConstants.{PART}
use Rattle.ifl_pcap.specs.declared.frame.Frame.{Frame}
use Rattle.ifl_pcap.specs.File.{written}
use Rattle.ifl_pool.specs.Pools.{PoolId, PassState, ClosedState as ClosedPool, IsClosedPool}
use Rattle.ifl_desc.specs.declared.desc.Desc.{Desc}
use Rattle.ifl_desc.specs.declared.history.Side.TheVariants.{Driver, Device}
use Rattle.ifl_desc.specs.History.{sent}
use Rattle.ifl_desc.specs.Frames.{frames_of}
use Rattle.ifl_desc.specs.Ends.{DriverSees, DeviceSees}
use Rattle.ifl_desc.specs.Closed.{ClosedSees, IsClosed, left_of}
use Rattle.ifl_device.specs.Adapter.{captured}
use Rattle.ifl_rxq.specs.declared.line.MissedLine.{MissedLine}
use Rattle.ifl_rxq.specs.declared.line.RxCounters.{RxCounters}
use Rattle.ifl_rxq.specs.declared.sizes.RxSizes.{RxSizes}
use Rattle.ifl_rxq.specs.declared.sizes.RxRules.{RxRules}
use Rattle.ifl_rxq.specs.FreeLists.{filled_of, small_of}
use Rattle.ifl_rxq.specs.Receive.{AreReceived, full_of}

-- the frames of a history that were stored: those that the device returned filled
abbrev pub stored_in : List Desc → List (List Desc)
stored_in returned = filled_of (frames_of returned)

-- each arrival is stored or missed, the host capture is that of the stored ones, and the counts are of them; the ring is closed with nothing left in it, and the pool has all its clusters
pub record IsReceived (z : RxSizes) (r : RxRules) (frames : List Frame) (missed : List MissedLine) (host : List ℕ) (counters : RxCounters) (desc : ClosedSees) (pool : ClosedPool) : Type 0 where
  pub arrivals : AreReceived r.burst (full_of z.descriptors z.clusters) 0 0 frames missed (stored_in (sent Device desc.history))
  pub capture : host ≡ written (map captured (stored_in (sent Device desc.history)))
  pub arrived : counters.arrived ≡ length frames
  pub delivered : counters.delivered ≡ length (stored_in (sent Device desc.history))
  pub lost : (counters.missed ≡ length missed) × (counters.delivered + counters.missed ≡ counters.arrived)
  pub copied : counters.copied ≡ small_of r.copy_break (stored_in (sent Device desc.history))
  pub size : desc.size ≡ z.descriptors
  pub closed : IsClosed desc
  pub left : left_of desc ≡ []
  pub clusters : pool.size ≡ z.clusters
  pub pool_closed : IsClosedPool z.clusters pool.history (length pool.clusters)
  pub pool_all : length pool.clusters ≡ z.clusters

-- the list and the engine are taken apart: all that was returned is reclaimed, and all that was taken is given back
pub record IsServed (r : RxRules) (ring : TableId) (pool : PoolId) (frames : List Frame) (driver : DriverSees) (device : DeviceSees) (pass : PassState) (host : List ℕ) (delivered copied : ℕ) (missed : List MissedLine) : Type 0 where
  pub arrivals : AreReceived r.burst (full_of ring.slots pool.size) 0 0 frames missed (stored_in (sent Device device.seen))
  pub capture : host ≡ written (map captured (stored_in (sent Device device.seen)))
  pub delivered_are : delivered ≡ length (stored_in (sent Device device.seen))
  pub copied_are : copied ≡ small_of r.copy_break (stored_in (sent Device device.seen))
  pub rings : (driver.ring ≡ ring) × (device.ring ≡ ring)
  pub ended : (length (sent Device device.seen) ≡ device.fetched) × (device.ready ≡ [])
  pub none : (length (sent Driver driver.seen) ≡ driver.back) × (driver.pending ≡ []) × (length (sent Device device.seen) ≡ driver.back)
  pub own : pass.pool ≡ pool
  pub whole : pass.known.part ≡ PART
  pub given : pass.known.counts.taken ≡ pass.known.counts.given
