use Rattle.ifl_desc.proofs.TurnSteps.{home_where_free}
use Rattle.ifl_desc.proofs.laws.value_is_home_where_the_turn_is_free.Goals as goal

pub returns : goal.returns
returns g c = λ o s t. home_where_free g.E.Kept.origin o s t
