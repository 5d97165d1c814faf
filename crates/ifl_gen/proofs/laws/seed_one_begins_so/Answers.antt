use Rattle.std.proofs.Common.{refl}
use Rattle.ifl_gen.specs.States.{stepped}
use Rattle.ifl_gen.specs.Frames.{length_by}
use Rattle.ifl_gen.proofs.laws.seed_one_begins_so.Goals as goal

pub returns-clause-first : goal.returns-clause-first
unfolding stepped
returns-clause-first c = refl

pub returns-clause-second : goal.returns-clause-second
unfolding stepped
returns-clause-second c = refl

pub returns-clause-lengths : goal.returns-clause-lengths
unfolding length_by
returns-clause-lengths c = (refl, refl)
