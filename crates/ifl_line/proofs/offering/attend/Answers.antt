use Rattle.std.proofs.Common.{◌∙◌}
use Rattle.ifl_line.proofs.offering.attend.Goals as goal

pub returns-clause-own : goal.returns-clause-own
returns-clause-own g c = record { ring_is = c.requires.own.ring_is; turn_is = c.serve.ensures.seat.0 ∙ c.requires.own.turn_is; free = c.serve.ensures.seat.2 }
