use Rattle.std.proofs.Common.{◌∙◌, ap}
use Rattle.ifl_desc.specs.Turns.{TurnState}
use Rattle.ifl_ring.specs.Seats.{events}
use Rattle.ifl_line.proofs.Fresh.{named_silent}
use Rattle.ifl_line.proofs.hands.Seats.split.Goals as goal

pub returns-clause-left : goal.returns-clause-left
returns-clause-left g c = let turn = c.split-turn.ensures.left in (
  record { ring_is = c.split-ring.ensures.own.0 ∙ c.requires.own.ring_is; turn_is = ap (λ (z : TurnState _ _). z.turnstile) turn ∙ c.requires.own.turn_is; free = ap (λ (z : TurnState _ _). z.held) turn ∙ c.requires.own.free },
  ap events c.split-ring.ensures.left,
)

pub returns-clause-new : goal.returns-clause-new
returns-clause-new g c = let turn = c.split-turn.ensures.new in (
  record { ring_is = c.split-ring.ensures.own.1 ∙ c.requires.own.ring_is; turn_is = ap (λ (z : TurnState _ _). z.turnstile) turn; free = ap (λ (z : TurnState _ _). z.held) turn },
  named_silent _ _ _ c.split-ring.ensures.new,
)
