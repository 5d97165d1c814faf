-- A count of faults never falls, and a call that answers `Failed` has raised it.
use Rattle.std.specs.Prelude.{ℕ, ◌+◌, ◌-◌, ◌^◌, ◌≤◌, min, Result, IsErrOf}
use Rattle.ifl_outside.specs.declared.fault.HostError.{HostError}
use Rattle.ifl_outside.specs.declared.fault.HostError.TheVariants.{Failed}

-- the count has risen, or stands at the end of its type
abbrev pub Rose : ℕ → ℕ → Type 0
Rose before now = min (before + 1) (2 ^ 64 - 1) ≤ now

pub record HasCause {T : Type 0} (before now : ℕ) (result : Result T HostError) : Type 0 where
  pub later : before ≤ now
  pub failed : IsErrOf result Failed → Rose before now
