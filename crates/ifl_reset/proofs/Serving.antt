-- What a turn that finds a hanging engine does, from what its steps did.
use Rattle.std.proofs.Common.{ℕ, ◌<◌, subst, sym, refl}
use Rattle.ifl_desc.specs.declared.desc.Status.TheVariants.{Aborted}
use Rattle.ifl_device.specs.declared.plan.Turn.TheVariants as turn
use Rattle.ifl_device.specs.declared.point.Point.TheVariants as at
use Rattle.ifl_device.specs.Engine.{EngineSees, IsEngine}
use Rattle.ifl_device.specs.Turns.{Turned, Resets, Empties, IsAt}
use Rattle.ifl_reset.specs.declared.served.Served.TheVariants as served
use Rattle.ifl_reset.specs.Served.{IsTurnedOrReset}

-- an engine that answered that it hangs hangs
pub hangs : (n e : ℕ) (a b : EngineSees) → Turned a n (turn.Hung e) b → IsAt at.Hanging b
hangs n e a b x = subst (IsAt at.Hanging) (sym x.1) x.0

pub reset_after : (n e k : ℕ) (a b c : EngineSees) → Turned a n (turn.Hung e) b → (m : EngineSees) × Resets b m × Empties Aborted k m c → k < b.ring.slots → IsEngine c → IsTurnedOrReset n a (served.Reset k) c
reset_after n e k a b c x did few lawful =
    ((x.0, refl, refl), (subst (λ (z : EngineSees). (m : EngineSees) × Resets z m × Empties Aborted k m c) x.1 did, subst (λ (z : EngineSees). k < z.ring.slots) x.1 few, lawful))
