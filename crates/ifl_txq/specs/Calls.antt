-- What the calls of a queue do, whatever items it has taken.
use Rattle.std.specs.Prelude.{◌≡◌, ℕ, ◌+◌, ◌<◌, ◌≤◌, ◌⊎◌, cond, List, [], ◌∷◌, length, drop, Some}
use mathlib.Core.List.{IsPrefix}
use Rattle.std.specs.Int.{div_ceil}
use Rattle.ifl_desc.specs.declared.desc.Desc.{Desc}
use Rattle.ifl_desc.specs.declared.history.Side.TheVariants.{Driver, Device}
use Rattle.ifl_desc.specs.declared.port.PortState.TheVariants.{Down}
use Rattle.ifl_desc.specs.History.{sent, known, looks, bells}
use Rattle.ifl_desc.specs.Frames.{frames_of}
use Rattle.ifl_desc.specs.Ends.{room_of}
use Rattle.ifl_pool.specs.Pools.{PassState}
use Rattle.ifl_txq.specs.Frames.{fate_of}
use Rattle.ifl_txq.specs.Log.{LogSees, after_settle}
use Rattle.ifl_txq.specs.Queue.{QueueSees, posted_list, reclaimed_list}

-- so many clusters were given with the pass
pub record Gave (n : ℕ) (a b : PassState) : Type 0 where
  pub pool : b.pool ≡ a.pool
  pub part : b.known.part ≡ a.known.part
  pub taken : b.known.counts.taken ≡ a.known.counts.taken
  pub given : b.known.counts.given ≡ a.known.counts.given + n

-- the entries that were reclaimed between the two, as they were returned
abbrev pub reclaimed_since : QueueSees → QueueSees → List Desc
reclaimed_since a b = drop a.driver.back (reclaimed_list b.driver)

-- the log after these entries were reclaimed: at the last one of each frame, its fate is settled by the status
abbrev pub after_returns : List Desc → LogSees → LogSees
after_returns [] log = log
after_returns (d ∷ ds) log = after_returns ds (cond d.last (after_settle d.ticket (fate_of d.status) log) log)

-- a look was made, and all that is known to be returned after it was reclaimed: its fates are settled, and its clusters were given back
pub record Reclaimed (a b : QueueSees) : Type 0 where
  pub same : b ≡ record a { driver = b.driver; pass = b.pass; log = b.log }
  pub goes_on : IsPrefix a.driver.seen b.driver.seen
  pub pending : b.driver.pending ≡ a.driver.pending
  pub rings_not : sent Driver b.driver.seen ≡ sent Driver a.driver.seen
  pub bells_are : bells b.driver.seen ≡ bells a.driver.seen
  pub looked : looks Driver a.driver.seen < looks Driver b.driver.seen
  pub all : known Driver b.driver.seen ≡ length (sent Device b.driver.seen)
  pub told : b.driver.back ≡ known Driver b.driver.seen
  pub settled : b.log ≡ after_returns (reclaimed_since a b) a.log
  pub gave : Gave (length (reclaimed_since a b)) a.pass b.pass

-- how many frames it has posted
abbrev pub boarded : QueueSees → ℕ
boarded q = length (frames_of (posted_list q.driver))

-- for m packets that were posted, m / doorbell_every doorbell stores were made, rounded up
abbrev pub Rings : QueueSees → QueueSees → Type 0
Rings a b = (m : ℕ) × (boarded b ≡ boarded a + m) × (bells b.driver.seen ≡ bells a.driver.seen + div_ceil m a.doorbell_every)

-- found full in this call: the look at what is returned was made, all that it showed is reclaimed and there is too little room, or the look at the port was made and answered Down
abbrev pub FoundFull : QueueSees → QueueSees → Type 0
FoundFull a b = ((looks Driver a.driver.seen < looks Driver b.driver.seen) × (b.driver.back ≡ known Driver b.driver.seen) × (room_of b.driver ≤ b.max_segs + 2))
    ⊎ ((b.reader.loads ≡ a.reader.loads + 1) × (b.reader.found ≡ Some Down))
