-- What each call does to the ends.
use Rattle.std.specs.Prelude.{◌≡◌, ℕ, suc, ◌+◌, ◌<◌, ◌≤◌, List, [], ◌∷◌, ◌++◌, length, cond, Option, Some, None}
use mathlib.Core.List.{IsPrefix}
use mathlib.Core.Option.{some}
use lib.ListN.{get_elem?}
use Rattle.ifl_desc.specs.declared.desc.Desc.{Desc}
use Rattle.ifl_desc.specs.declared.history.Side.{Side}
use Rattle.ifl_desc.specs.declared.history.Side.TheVariants.{Driver, Device}
use Rattle.ifl_desc.specs.declared.history.Event.{Event}
use Rattle.ifl_desc.specs.declared.history.Event.TheVariants.{Sent, Looked}
use Rattle.ifl_desc.specs.History.{sent, known, own, looks, LooksOnly}
use Rattle.ifl_desc.specs.Ends.{DriverSees, DeviceSees}

-- the history h goes on from g with steps of the other side, and then the step e
abbrev pub Grew : Side → List Event → List Event → Event → Type 0
Grew r g h e = (between : List Event) × (h ≡ (g ++ between) ++ e ∷ []) × (own r between ≡ [])

-- one more is posted
abbrev pub Posts : DriverSees → Desc → DriverSees → Type 0
Posts a d b = b ≡ record a { pending = a.pending ++ d ∷ [] }

-- one doorbell step, which rings all that is posted
abbrev pub Flushes : DriverSees → DriverSees → Type 0
Flushes a b = Grew Driver a.seen b.seen (Sent Driver a.pending) × (b ≡ record a { seen = b.seen; pending = [] })

-- loads, one or more, and clears, and no other step: n more are known to be returned, which is all that the last load showed, and each load before the last showed some
pub record Credits (a : DriverSees) (n : ℕ) (b : DriverSees) : Type 0 where
  pub goes_on : IsPrefix a.seen b.seen
  pub same : b ≡ record a { seen = b.seen }
  pub own_steps : LooksOnly Driver a.seen b.seen
  pub rings_not : sent Driver b.seen ≡ sent Driver a.seen
  pub looked : looks Driver a.seen < looks Driver b.seen
  pub few : looks Driver b.seen ≤ looks Driver a.seen + suc n
  pub more : known Driver b.seen ≡ known Driver a.seen + n
  pub all : known Driver b.seen ≡ length (sent Device b.seen)

-- the driver went on with loads and clears alone, and knows n more to be returned
pub record Learns (a : DriverSees) (n : ℕ) (b : DriverSees) : Type 0 where
  pub goes_on : IsPrefix a.seen b.seen
  pub same : b ≡ record a { seen = b.seen }
  pub own_steps : LooksOnly Driver a.seen b.seen
  pub rings_not : sent Driver b.seen ≡ sent Driver a.seen
  pub more : known Driver b.seen ≡ known Driver a.seen + n

-- one look for a frame that is not counted: its n entries are known to be returned now, or none is there
pub record LooksForFrame (a : DriverSees) (n : ℕ) (b : DriverSees) : Type 0 where
  pub learns : Learns a n b
  pub looked : looks Driver b.seen ≡ suc (looks Driver a.seen)
  pub none : n ≡ 0 → known Driver b.seen ≡ length (sent Device b.seen)

-- one load: n more are known to be rung, which is all that it showed
abbrev pub Fetches : DeviceSees → ℕ → DeviceSees → Type 0
Fetches a n b = Grew Device a.seen b.seen (Looked Device n) × (b ≡ record a { seen = b.seen }) × (known Device b.seen ≡ length (sent Driver b.seen))

-- the oldest one that is known to be returned and was not reclaimed, as it was returned
abbrev pub Reclaims : DriverSees → Option Desc → DriverSees → Type 0
Reclaims a None b = (b ≡ a) × (a.back ≡ known Driver a.seen)
Reclaims a (Some d) b = (b ≡ record a { back = suc a.back }) × (a.back < known Driver a.seen) × (get_elem? (sent Device a.seen) a.back ≡ some d)

-- the oldest one that is known to be rung and was not fetched, as it was posted
abbrev pub TakesNext : DeviceSees → Option Desc → DeviceSees → Type 0
TakesNext a None b = (b ≡ a) × (a.fetched ≡ known Device a.seen)
TakesNext a (Some d) b = (b ≡ record a { fetched = suc a.fetched }) × (a.fetched < known Device a.seen) × (get_elem? (sent Driver a.seen) a.fetched ≡ some d)

-- one more is completed, and at a marked one the whole frame is returned
abbrev pub Completes : DeviceSees → Desc → DeviceSees → Type 0
Completes a d b = cond d.last (Grew Device a.seen b.seen (Sent Device (a.ready ++ d ∷ [])) × (b ≡ record a { seen = b.seen; ready = [] })) (b ≡ record a { ready = a.ready ++ d ∷ [] })

-- both ends have seen one history from then on, which goes on from what each had seen; in it each side has made the steps that it had made and no other, and nothing else changes
pub record Meets (d : DriverSees) (v : DeviceSees) (d' : DriverSees) (v' : DeviceSees) : Type 0 where
  pub driver : d' ≡ record d { seen = d'.seen }
  pub device : v' ≡ record v { seen = v'.seen }
  pub of_driver : IsPrefix d.seen d'.seen
  pub of_device : IsPrefix v.seen v'.seen
  pub driver_hears : IsPrefix v.seen d'.seen
  pub device_hears : IsPrefix d.seen v'.seen
  pub driver_own : own Driver d'.seen ≡ own Driver d.seen
  pub device_own : own Device v'.seen ≡ own Device v.seen
  pub one_history : v'.seen ≡ d'.seen
