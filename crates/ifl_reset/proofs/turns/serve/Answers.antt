use Rattle.std.proofs.Common.{◌∙◌, ap, sym, Some}
use Rattle.ifl_reset.proofs.turns.serve.Goals as goal

pub give_turn-requires-clause-origin : goal.give_turn-requires-clause-origin
give_turn-requires-clause-origin g c _ _ = c.in-Ok.ensures.got.0 ∙ ap Some (sym c.turn_or_reset-served.ensures.origin)
