use Rattle.ifl_ringcore.specs.Events.{seat_of}
use Rattle.ifl_ringcore.specs.Table.{sight_of, conditions}
use Rattle.ifl_ringcore.proofs.Deciding.{all_hold, none_fails, allowed, holding, is_seat}
use Rattle.ifl_ringcore.proofs.laws.conditions_hold_where_steps_are_allowed.Goals as goal

pub returns : goal.returns
returns c = λ size seats st e items g many. let cs = conditions (sight_of size seats st (seat_of e)) e in (
  λ none. let all = all_hold cs none in (is_seat size seats st e all, allowed size seats st e items g many all),
  λ may. none_fails cs (holding size seats st e items g may.0 may.1),
)
