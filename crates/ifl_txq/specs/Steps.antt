-- What each step does of which the calls are made.
use Rattle.std.specs.Prelude.{◌≡◌, ℕ, suc, ◌+◌, ◌*◌, ◌<◌, ◌≤◌, ◌⊎◌, Bool, cond, List, [], ◌∷◌, ◌++◌, length, map, take, drop, Option, Some, None}
use mathlib.Core.List.{IsPrefix}
use Rattle.ifl_base.specs.declared.ticket.Ticket.{Ticket}
use Rattle.ifl_base.specs.declared.fate.Fate.{Fate}
use Rattle.ifl_ringcore.specs.declared.history.Meaning.{Meaning}
use Rattle.ifl_mbuf.specs.declared.packet.Packet.{Packet}
use Rattle.ifl_desc.specs.declared.desc.Desc.{Desc}
use Rattle.ifl_desc.specs.declared.history.Side.TheVariants.{Driver}
use Rattle.ifl_desc.specs.declared.port.PortState.{PortState}
use Rattle.ifl_desc.specs.History.{known, looks, bells}
use Rattle.ifl_desc.specs.Ends.{room_of}
use Rattle.ifl_desc.specs.Calls.{Reclaims, Flushes, Credits}
use Rattle.ifl_desc.specs.Port.{state_of, IsSetting}
use Rattle.ifl_txq.specs.declared.item.Item.{Item}
use Rattle.ifl_txq.specs.declared.item.Item.TheVariants as item
use Rattle.ifl_txq.specs.declared.sent.Sent.{Sent as Went}
use Rattle.ifl_txq.specs.declared.sent.Sent.TheVariants as went
use Rattle.ifl_txq.specs.Items.{meaning_of}
use Rattle.ifl_txq.specs.Frames.{fate_of}
use Rattle.ifl_txq.specs.Log.{FitsIn, after_note, after_settle}
use Rattle.ifl_txq.specs.Queue.{QueueSees, origin_of, IsRung}
use Rattle.ifl_txq.specs.Standing.{QueueStandsFor}
use Rattle.ifl_txq.specs.Calls.{Gave, Rings, boarded}

-- one entry was reclaimed, and its cluster given back; at the last one of a frame its fate is settled
abbrev pub TakesBack : QueueSees → Option Bool → QueueSees → Type 0
TakesBack a None b = (b ≡ a) × (a.driver.back ≡ known Driver a.driver.seen)
TakesBack a (Some last) b = (d : Desc) × (last ≡ d.last) × Reclaims a.driver (Some d) b.driver × Gave 1 a.pass b.pass
    × (b ≡ record a { driver = b.driver; pass = b.pass; log = cond d.last (after_settle d.ticket (fate_of d.status) a.log) a.log })

-- the queue was moved from a to b by nothing but its own steps, and has taken these items beside
pub record Took (items : List Meaning) (a b : QueueSees) : Type 0 where
  pub origin : origin_of b ≡ origin_of a
  pub reader : b.reader ≡ a.reader
  pub goes_on : IsPrefix a.driver.seen b.driver.seen
  pub back : b.driver.back ≡ a.driver.back
  pub knows : known Driver b.driver.seen ≡ known Driver a.driver.seen
  pub looked : looks Driver b.driver.seen ≡ looks Driver a.driver.seen
  pub stands : (ms : List Meaning) → QueueStandsFor a ms → QueueStandsFor b (ms ++ items)

-- the log has a line for a packet that was posted, and what compaction freed was given back
abbrev pub WroteDown : Ticket → ℕ → QueueSees → QueueSees → Type 0
WroteDown t freed a b = FitsIn t × Gave freed a.pass b.pass × (b ≡ record a { pass = b.pass; log = after_note t a.log })

-- the log has a line with this fate for a packet that is not posted, and its clusters were given back
abbrev pub WroteOff : Ticket → Fate → ℕ → QueueSees → QueueSees → Type 0
WroteOff t f freed a b = FitsIn t × Gave freed a.pass b.pass × (b ≡ record a { pass = b.pass; log = after_settle t f (after_note t a.log) })

-- one look at what is returned
abbrev pub LookedBack : QueueSees → QueueSees → Type 0
LookedBack a b = ((n : ℕ) × Credits a.driver n b.driver) × (b ≡ record a { driver = b.driver })

-- one doorbell store
abbrev pub RangOnce : QueueSees → QueueSees → Type 0
RangOnce a b = Flushes a.driver b.driver × (b ≡ record a { driver = b.driver })

-- one look at the port
pub record LookedOnce (a : QueueSees) (found : PortState) (b : QueueSees) : Type 0 where
  pub same : b ≡ record a { reader = b.reader }
  pub reader : b.reader ≡ record (a.reader) { known = b.reader.known; loads = a.reader.loads + 1; found = Some found; seen = b.reader.seen }
  pub is : found ≡ state_of b.reader.known
  pub knows : IsPrefix a.reader.known b.reader.known
  pub lawful : IsSetting b.reader.known

-- all was reclaimed, and then the port was looked at
pub record Begun (a : QueueSees) (found : PortState) (b : QueueSees) : Type 0 where
  pub stands : (ms : List Meaning) → QueueStandsFor a ms → QueueStandsFor b ms
  pub origin : origin_of b ≡ origin_of a
  pub pending : b.driver.pending ≡ a.driver.pending
  pub told : b.driver.back ≡ known Driver b.driver.seen
  pub looked : looks Driver a.driver.seen < looks Driver b.driver.seen
  pub loads : b.reader.loads ≡ a.reader.loads + 1
  pub found_is : b.reader.found ≡ Some found
  pub state : found ≡ state_of b.reader.known
  pub frames : boarded b ≡ boarded a
  pub bells_are : bells b.driver.seen ≡ bells a.driver.seen

-- what became of a packet, by the answer
abbrev pub Boarded : QueueSees → Packet → Went → QueueSees → Type 0
Boarded a p went.Posted b = Took (meaning_of (item.Packet p) ∷ []) a b × (b.driver.seen ≡ a.driver.seen) × (boarded b ≡ suc (boarded a))
Boarded a p went.Gone b = Took (meaning_of (item.Packet p) ∷ []) a b × (b.driver ≡ a.driver)
Boarded a p (went.Full back) b = (back ≡ item.Packet p) × (b ≡ a) × (room_of a.driver ≤ a.max_segs + 2)

-- what became of an item, by the answer
abbrev pub SentOne : QueueSees → Item → Went → QueueSees → Type 0
SentOne a i went.Posted b = Took (meaning_of i ∷ []) a b × (b.driver.seen ≡ a.driver.seen) × (boarded b ≡ suc (boarded a))
SentOne a i went.Gone b = Took (meaning_of i ∷ []) a b × (b.driver ≡ a.driver)
SentOne a i (went.Full back) b = (back ≡ i) × (b ≡ a) × (room_of a.driver ≤ a.max_segs + 2)

-- one more packet waits for its doorbell, or all were rung
pub record Paced (unrung : ℕ) (a : QueueSees) (now : ℕ) (b : QueueSees) : Type 0 where
  pub took : Took [] a b
  pub few : now < a.doorbell_every
  pub rung : now ≡ 0 → IsRung b.driver
  pub frames : boarded b ≡ boarded a
  pub bells_are : bells b.driver.seen * a.doorbell_every + now ≡ bells a.driver.seen * a.doorbell_every + suc unrung

-- the next item of a batch was taken, or none was
abbrev pub SentNext : QueueSees → List Item → ℕ → Option ℕ → QueueSees → List Item → Type 0
SentNext a batch unrung None b left = (b ≡ a) × (left ≡ batch) × ((batch ≡ []) ⊎ (room_of a.driver ≤ a.max_segs + 2))
SentNext a batch unrung (Some now) b left = ((i : Item) × (batch ≡ i ∷ left) × Took (meaning_of i ∷ []) a b)
    × (now < a.doorbell_every) × ((unrung ≡ 0 → IsRung a.driver) → now ≡ 0 → IsRung b.driver)
    × (bells b.driver.seen * a.doorbell_every + now + boarded a ≡ bells a.driver.seen * a.doorbell_every + unrung + boarded b)

-- some items of a batch were taken
pub record SentAll (a : QueueSees) (batch : List Item) (count : ℕ) (b : QueueSees) (left : List Item) : Type 0 where
  pub within : count ≤ length batch
  pub left_is : left ≡ drop count batch
  pub took : Took (map meaning_of (take count batch)) a b
  pub rung : IsRung b.driver
  pub fewer : count < length batch → room_of b.driver ≤ b.max_segs + 2
  pub rings : Rings a b
