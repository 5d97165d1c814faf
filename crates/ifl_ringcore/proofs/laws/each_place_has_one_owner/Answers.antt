use Rattle.ifl_ringcore.proofs.Owning.{one_owner}
use Rattle.ifl_ringcore.proofs.laws.each_place_has_one_owner.Goals as goal

pub returns : goal.returns
returns c = λ size place st g low. one_owner size place st g low
