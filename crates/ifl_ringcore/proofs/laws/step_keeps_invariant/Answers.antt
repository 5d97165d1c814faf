use Rattle.ifl_ringcore.proofs.Keeping.{invariant-effect}
use Rattle.ifl_ringcore.proofs.laws.step_keeps_invariant.Goals as goal

pub returns : goal.returns
returns c = invariant-effect
