-- What a call under the turn does to the engine and to the seat.
use Rattle.std.specs.Prelude.{◌≡◌, ℕ, ◌+◌, ◌<◌, Bool, true, false, cond, [], ◌∷◌, Option, Some, None, Result, Ok, Err}
use Rattle.ifl_desc.specs.declared.desc.Status.TheVariants.{Aborted, Flushed}
use Rattle.ifl_desc.specs.declared.port.PortState.TheVariants.{Up, Down}
use Rattle.ifl_desc.specs.declared.turnstile.Taken.{Taken}
use Rattle.ifl_desc.specs.Turns.{TurnState}
use Rattle.ifl_device.specs.declared.plan.Turn.{Turn}
use Rattle.ifl_device.specs.declared.plan.Turn.TheVariants as turn
use Rattle.ifl_device.specs.Engine.{EngineSees, IsEngine, IsStopped}
use Rattle.ifl_device.specs.Turns.{Turned, Resets, Empties, stopped, with_sets}
use Rattle.ifl_device.specs.Origin.{Origin}
use Rattle.ifl_reset.specs.declared.served.Served.{Served}
use Rattle.ifl_reset.specs.declared.served.Served.TheVariants as served

abbrev pub Seat : Type 0
Seat = TurnState EngineSees Origin

-- the plan of the engine that is kept lets it be led by hand
abbrev pub IsByHand : Option Origin → Type 0
IsByHand None = ⊥
IsByHand (Some o) = o.plan.by_hand ≡ true

-- the one exchange took the turn, and the seat gave it back: it found the engine as a and left it as b
abbrev pub Took : Seat → EngineSees → EngineSees → Seat → Type 0
Took v a b w = w ≡ record v { held = false; turns = v.turns + 1; found = Some a; left = Some b }

-- the seat is of the same turnstile, has its part, and does not have the turn
abbrev pub IsBack : Seat → Seat → Type 0
IsBack v w = (w.turnstile ≡ v.turnstile) × (w.part ≡ v.part) × (w.held ≡ false)

-- the one exchange found the turn taken
abbrev pub WasTaken : Seat → Taken → Seat → Type 0
WasTaken v t w = (t.seen ≡ 1) × (w ≡ record v { looks = v.looks + 1 })

-- all that was held, or rung at one look, is aborted, and a hang is over
abbrev pub IsAborted : EngineSees → ℕ → EngineSees → Type 0
IsAborted a k b = ((m : EngineSees) × Resets a m × Empties Aborted k m b) × (k < a.ring.slots) × IsEngine b

-- flush has begun, and all that was held, or rung at one look, is flushed
abbrev pub IsStoppedBy : EngineSees → ℕ → EngineSees → Type 0
IsStoppedBy a k b = ((m : EngineSees) × Resets (stopped a) m × Empties Flushed k m b) × (k < a.ring.slots) × IsEngine b × IsStopped b

-- the link was set, or else flush had begun, and nothing changed
abbrev pub IsLinked : Bool → EngineSees → Bool → EngineSees → Type 0
IsLinked up a true b = (IsStopped a → ⊥) × (b ≡ with_sets (cond up Up Down ∷ []) a)
IsLinked up a false b = IsStopped a × (b ≡ a)

-- the turn was none at which the engine hangs
abbrev pub HangsNot : Turn → Type 0
HangsNot (turn.Moved k) = Unit {0}
HangsNot (turn.Flushed k) = Unit {0}
HangsNot (turn.Idle doorbell) = Unit {0}
HangsNot (turn.Down left) = Unit {0}
HangsNot (turn.Hung emitted) = ⊥
HangsNot (turn.WireFull need room) = Unit {0}

-- one turn, and where the engine hangs its reset
abbrev pub IsTurnedOrReset : ℕ → EngineSees → Served → EngineSees → Type 0
IsTurnedOrReset n a (served.Taken t) b = ⊥
IsTurnedOrReset n a (served.Turned t) b = HangsNot t × Turned a n t b × IsEngine b
IsTurnedOrReset n a (served.Reset k) b = Turned a n (turn.Hung a.emitted) a × IsAborted a k b

-- what one try to serve did, by its answer
abbrev pub IsServed : ℕ → Seat → Served → Seat → Type 0
IsServed n v (served.Taken t) w = WasTaken v t w
IsServed n v (served.Turned t) w = (a : EngineSees) × (b : EngineSees) × Took v a b w × IsTurnedOrReset n a (served.Turned t) b
IsServed n v (served.Reset k) w = (a : EngineSees) × (b : EngineSees) × Took v a b w × IsTurnedOrReset n a (served.Reset k) b

-- what a reset did, by its answer
abbrev pub IsReset : Seat → Result ℕ Taken → Seat → Type 0
IsReset v (Ok k) w = (a : EngineSees) × (b : EngineSees) × Took v a b w × IsAborted a k b
IsReset v (Err t) w = WasTaken v t w

-- what a stop did
abbrev pub IsFlushed : Seat → Result ℕ Taken → Seat → Type 0
IsFlushed v (Ok k) w = (a : EngineSees) × (b : EngineSees) × Took v a b w × IsStoppedBy a k b
IsFlushed v (Err t) w = WasTaken v t w

-- what a setting of the link did
abbrev pub IsSet : Bool → Seat → Result Bool Taken → Seat → Type 0
IsSet up v (Ok set) w = (a : EngineSees) × (b : EngineSees) × Took v a b w × IsLinked up a set b
IsSet up v (Err t) w = WasTaken v t w
