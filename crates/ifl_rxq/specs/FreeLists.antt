-- What contracts see of a free list, and what its calls do.
use Rattle.std.specs.Prelude.{◌≡◌, ℕ, ◌+◌, ◌-◌, ◌<◌, ◌≤◌, ◌⊎◌, min, true, cond, nat_le, List, [], ◌∷◌, ◌++◌, length, map, take}
use mathlib.Core.List.{IsPrefix}
use Rattle.atomic_table.specs.Seated.{TableId}
use Rattle.ifl_base.specs.declared.limits.TheConstants.{PART}
use Rattle.ifl_pcap.specs.File.{written}
use Rattle.ifl_pool.specs.declared.known.Known.{Known}
use Rattle.ifl_pool.specs.Pools.{PoolId}
use Rattle.ifl_desc.specs.declared.desc.Status.TheVariants.{Posted}
use Rattle.ifl_desc.specs.declared.desc.Desc.{Desc}
use Rattle.ifl_desc.specs.declared.history.Side.TheVariants.{Driver, Device}
use Rattle.ifl_desc.specs.declared.history.Event.TheVariants.{Sent}
use Rattle.ifl_desc.specs.History.{sent, known, looks}
use Rattle.ifl_desc.specs.Frames.{bytes_of, open_after, frames_of, IsWholeFrame}
use Rattle.ifl_desc.specs.Ends.{DriverSees, DeviceSees, IsDriver, posted}
use Rattle.ifl_desc.specs.Calls.{Grew, Meets}
use Rattle.ifl_device.specs.Adapter.{captured, record_size}
use Rattle.ifl_device.specs.Wire.{WireSees, left_in}
use Rattle.ifl_device.specs.Engine.{IsHeld}
use Rattle.ifl_device.specs.Receive.{is_filled}
use Rattle.ifl_rxq.specs.declared.tried.Tried.{Tried}
use Rattle.ifl_rxq.specs.declared.tried.Tried.TheVariants.{Delivered, PassedOver, Stopped}

-- a free list: its ring and its pool, up to which length it copies, its end of the ring and its pass, how many clusters it keeps, the frame that it holds, the host capture, and how many frames it delivered and copied
pub record FreeSees : Type 0 where
  pub ring : TableId
  pub pool : PoolId
  pub copy_break : ℕ
  pub driver : DriverSees
  pub pass : Known
  pub kept : ℕ
  pub held : List Desc
  pub host : WireSees
  pub delivered : ℕ
  pub copied : ℕ

-- what contracts see of these parts
abbrev pub free_list_of : TableId → PoolId → ℕ → DriverSees → Known → ℕ → List Desc → WireSees → ℕ → ℕ → FreeSees
free_list_of ring pool copy_break driver pass kept held host delivered copied =
    record { ring = ring; pool = pool; copy_break = copy_break; driver = driver; pass = pass; kept = kept; held = held; host = host; delivered = delivered; copied = copied }

-- how many buffers are posted and not reclaimed, or reclaimed and held
abbrev pub outstanding : FreeSees → ℕ
outstanding f = (posted f.driver - f.driver.back) + length f.held

-- how many more may be posted
abbrev pub avail_of : FreeSees → ℕ
avail_of f = f.ring.slots - 1 - outstanding f

-- how many clusters the list accounts for: given back, kept, or outstanding
abbrev pub accounted : FreeSees → ℕ
accounted f = f.pass.counts.given + (f.kept + outstanding f)

-- the returned entries that the list is done with
abbrev pub settled : FreeSees → List Desc
settled f = take (f.driver.back - length f.held) (sent Device f.driver.seen)

-- the frames of a list that were filled
abbrev pub filled_of : List (List Desc) → List (List Desc)
filled_of [] = []
filled_of (f ∷ fs) = cond (is_filled f) (f ∷ filled_of fs) (filled_of fs)

-- the frames delivered
abbrev pub delivered_of : FreeSees → List (List Desc)
delivered_of f = filled_of (frames_of (settled f))

-- how many of these frames have at most n bytes
abbrev pub small_of : ℕ → List (List Desc) → ℕ
small_of n [] = 0
small_of n (f ∷ fs) = cond (nat_le (length (bytes_of f)) n) 1 0 + small_of n fs

-- how many clusters of a frame are kept, where frames of at most n bytes are copied: all, unless it was filled and is longer
abbrev pub kept_by : ℕ → List Desc → ℕ
kept_by n f = cond (is_filled f) (cond (nat_le (length (bytes_of f)) n) (length f) 0) (length f)

-- how many of these frames' clusters
abbrev pub kept_of : ℕ → List (List Desc) → ℕ
kept_of n [] = 0
kept_of n (f ∷ fs) = kept_by n f + kept_of n fs

-- what every free list keeps: the host capture is that of the frames delivered, it holds nothing or the next frame, and each cluster that it took is accounted for or went out with it
pub record IsFreeList (f : FreeSees) : Type 0 where
  pub own : f.driver.ring ≡ f.ring
  pub lawful : IsDriver f.driver
  pub rung : f.driver.pending ≡ []
  pub held : take f.driver.back (sent Device f.driver.seen) ≡ settled f ++ f.held
  pub within : length f.held ≤ f.driver.back
  pub whole : IsHeld f.held
  pub ends : open_after 0 (settled f) ≡ 0
  pub host : f.host.bytes ≡ written (map captured (delivered_of f))
  pub room : length f.host.bytes ≤ 24 + f.host.room
  pub delivered : f.delivered ≡ length (delivered_of f)
  pub copied : f.copied ≡ small_of f.copy_break (delivered_of f)
  pub few : f.kept + outstanding f < f.ring.slots
  pub small : f.ring.slots ≤ 32768
  pub accounts : accounted f ≤ f.pass.counts.taken

-- what every call leaves: the objects, the length, the host's room, the pass's part, and how many of the clusters taken are not accounted for
pub record GoesOn (a b : FreeSees) : Type 0 where
  pub ring : b.ring ≡ a.ring
  pub pool : b.pool ≡ a.pool
  pub copy_break : b.copy_break ≡ a.copy_break
  pub room : b.host.room ≡ a.host.room
  pub seen : IsPrefix a.driver.seen b.driver.seen
  pub part : b.pass.part ≡ a.pass.part
  pub excess : b.pass.counts.taken + accounted a ≡ a.pass.counts.taken + accounted b

-- each entry is an empty buffer, a frame by itself
abbrev pub AreEmpty : List Desc → Type 0
AreEmpty [] = Unit {0}
AreEmpty (d ∷ ds) = (d.last ≡ true) × (d.status ≡ Posted) × AreEmpty ds

-- n buffers more are rung, by one doorbell step, the kept clusters first; fewer than asked and available only where the pool was found empty
pub record Refills (a : FreeSees) (budget n : ℕ) (b : FreeSees) : Type 0 where
  pub on : GoesOn a b
  pub same : b ≡ record a { driver = b.driver; pass = b.pass; kept = b.kept }
  pub back : b.driver.back ≡ a.driver.back
  pub still : settled b ≡ settled a
  pub more : outstanding b ≡ outstanding a + n
  pub posts : (ds : List Desc) × (length ds ≡ n) × AreEmpty ds × Grew Driver a.driver.seen b.driver.seen (Sent Driver ds)
  pub few : n ≤ min budget (avail_of a)
  pub kept : b.kept + min n a.kept ≡ a.kept
  pub given : b.pass.counts.given ≡ a.pass.counts.given
  pub less : n < min budget (avail_of a) → (a.pass.counts.empty < b.pass.counts.empty) × (b.kept ≡ 0)
  pub all_out : n < min budget (avail_of a) → a.pass.part ≡ PART → b.pool.size + b.pass.counts.given ≡ b.pass.counts.taken

-- all that is returned, as the last look showed it, is settled
abbrev pub IsCaughtUp : FreeSees → Type 0
IsCaughtUp f = (f.held ≡ []) × (f.driver.back ≡ length (sent Device f.driver.seen))

-- the next frame is held, since its record needs more than is left in the host capture
abbrev pub HasNoRoom : FreeSees → Type 0
HasNoRoom f = IsWholeFrame f.held × (is_filled f.held ≡ true) × (left_in f.host < record_size f.held)

-- n frames more are delivered, after a look at what is returned; fewer than asked only where no more is returned, or the next record does not fit
pub record Delivers (a : FreeSees) (budget n : ℕ) (b : FreeSees) : Type 0 where
  pub on : GoesOn a b
  pub rung : sent Driver b.driver.seen ≡ sent Driver a.driver.seen
  pub taken : b.pass.counts.taken ≡ a.pass.counts.taken
  pub looked : looks Driver a.driver.seen < looks Driver b.driver.seen
  pub known_all : known Driver b.driver.seen ≡ length (sent Device b.driver.seen)
  pub next : (more : List Desc) × (settled b ≡ settled a ++ more)
  pub kept : b.kept ≡ a.kept + kept_of a.copy_break (frames_of next.0)
  pub count : b.delivered ≡ a.delivered + n
  pub few : n ≤ budget
  pub less : n < budget → IsCaughtUp b ⊎ HasNoRoom b

-- a look at what is returned
pub record Looks (a b : FreeSees) : Type 0 where
  pub same : b ≡ record a { driver = b.driver }
  pub on : GoesOn a b
  pub rung : sent Driver b.driver.seen ≡ sent Driver a.driver.seen
  pub looked : looks Driver a.driver.seen < looks Driver b.driver.seen
  pub known_all : known Driver b.driver.seen ≡ length (sent Device b.driver.seen)
  pub still : settled b ≡ settled a

-- no step of the ring was made, and no cluster was taken
pub record Rests (a b : FreeSees) : Type 0 where
  pub on : GoesOn a b
  pub seen : b.driver.seen ≡ a.driver.seen
  pub taken : b.pass.counts.taken ≡ a.pass.counts.taken

-- the next frame may be held now, and nothing else is changed
pub record Holds (a b : FreeSees) : Type 0 where
  pub rests : Rests a b
  pub still : settled b ≡ settled a
  pub kept : b.kept ≡ a.kept
  pub count : b.delivered ≡ a.delivered
  pub host : b.host ≡ a.host

-- the held frame is settled: so many frames more are delivered by it
pub record Settles (n : ℕ) (a b : FreeSees) : Type 0 where
  pub rests : Rests a b
  pub next : settled b ≡ settled a ++ a.held
  pub none : b.held ≡ []
  pub kept : b.kept ≡ a.kept + kept_by a.copy_break a.held
  pub count : b.delivered ≡ a.delivered + n

-- so many frames more are delivered by one try, which settled at least one entry
pub record TriesOne (n : ℕ) (a b : FreeSees) : Type 0 where
  pub rests : Rests a b
  pub next : (more : List Desc) × (0 < length more) × (settled b ≡ settled a ++ more)
  pub whole : IsWholeFrame next.0
  pub kept : b.kept ≡ a.kept + kept_by a.copy_break next.0
  pub count : b.delivered ≡ a.delivered + n

-- what a try at one frame did, by its answer
abbrev pub Tries : FreeSees → Tried → FreeSees → Type 0
Tries a Delivered b = TriesOne 1 a b
Tries a PassedOver b = TriesOne 0 a b
Tries a Stopped b = Holds a b × (IsCaughtUp b ⊎ HasNoRoom b)

-- each end heard what the other had seen; the list is as it was
pub record Met (a : FreeSees) (v : DeviceSees) (b : FreeSees) (w : DeviceSees) : Type 0 where
  pub ends : Meets a.driver v b.driver w
  pub same : b ≡ record a { driver = b.driver }
  pub on : GoesOn a b
  pub still : settled b ≡ settled a
