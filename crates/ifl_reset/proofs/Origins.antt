-- What an engine was made with stays.
use Rattle.std.proofs.Common.{◌≡◌, inl, inr, ℕ, List, ap}
use Rattle.ifl_desc.specs.declared.desc.Desc.{Desc}
use Rattle.ifl_desc.specs.declared.desc.Status.{Status}
use Rattle.ifl_device.specs.declared.plan.Turn.{Turn}
use Rattle.ifl_device.specs.declared.plan.Turn.TheVariants as turn
use Rattle.ifl_device.specs.Engine.{EngineSees, Returns}
use Rattle.ifl_device.specs.Origin.{made_with}
use Rattle.ifl_device.specs.Turns.{Turned, Resets, Empties, Moves}

pub returns_origin : (s : Status) (fs : List (List Desc)) (a b : EngineSees) → Returns s fs a b → made_with b ≡ made_with a
returns_origin s fs a b x = λ i. record { plan = x.plan i; room = x.room i; ring = x.ring i; port = x.port i }

moves_origin : (s : Status) (k : ℕ) (a b : EngineSees) → Moves s k a b → made_with b ≡ made_with a
moves_origin s k a b m = returns_origin s m.0.0 a b m.0.2

pub empties_origin : (s : Status) (k : ℕ) (a b : EngineSees) → Empties s k a b → made_with b ≡ made_with a
empties_origin s k a b x = moves_origin s k a b x.0

pub resets_origin : (a m : EngineSees) → Resets a m → made_with m ≡ made_with a
resets_origin a m r = ap made_with r.same

pub turned_origin : (a : EngineSees) (n : ℕ) (t : Turn) (b : EngineSees) → Turned a n t b → made_with b ≡ made_with a
turned_origin a n (turn.Moved k) b x = moves_origin _ k a b x.3
turned_origin a n (turn.Flushed k) b x = empties_origin _ k _ b x.2
turned_origin a n (turn.Idle doorbell) b (f, inl x) = moves_origin _ 0 _ b x.1
turned_origin a n (turn.Idle doorbell) b (f, inr x) = moves_origin _ 0 a b x.1
turned_origin a n (turn.Down left) b x = ap made_with x.2
turned_origin a n (turn.Hung emitted) b x = ap made_with x.1
turned_origin a n (turn.WireFull need room) b x = moves_origin _ 0 a b x.1
