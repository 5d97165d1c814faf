use Rattle.std.proofs.Common.{◌∙◌, ap, sym, arith}
use Rattle.ifl_desc.specs.Turns.{TurnState, TurnstileId}
use Rattle.ifl_desc.proofs.TurnSteps.{halves}
use Rattle.ifl_desc.proofs.turnstile.Turnstile.split.Goals as goal

pub split_seat-other-requires : goal.split_seat-other-requires
split_seat-other-requires g c = (
  ap (λ (z : TurnState _ _). z.turnstile.table) c.seat.view_is ∙ ap (λ (z : TurnstileId _). z.table) (c.requires.own ∙ sym c.self.view_is),
  (let w = c.self.invariant.0 in omega arith),
  halves _ _ _ _ (ap (λ (z : TurnState _ _). z.held) c.seat.view_is ∙ c.requires.free) (let e = ap (λ (z : TurnState _ _). z.part) c.seat.view_is in let p = c.requires.part in omega arith),
)
