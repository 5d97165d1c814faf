use Rattle.std.proofs.Common.{◌∙◌, ap, sym, arith}
use Rattle.ifl_desc.specs.Turns.{TurnState, TurnstileId, slots_of}
use Rattle.ifl_desc.proofs.TurnSteps.{adds}
use Rattle.ifl_desc.proofs.turnstile.Turnstile.join.Goals as goal

pub join_seat-requires : goal.join_seat-requires
join_seat-requires g c = let f = c.requires.free in let lacks = ap (λ (z : TurnState _ _). z.held) c.other.view_is ∙ f.1 in (
  ap (λ (z : TurnState _ _). z.turnstile.table) c.seat.view_is ∙ ap (λ (z : TurnstileId _). z.table) (c.requires.own.0 ∙ sym c.self.view_is),
  ap (λ (z : TurnState _ _). z.turnstile.table) c.other.view_is ∙ ap (λ (z : TurnstileId _). z.table) (c.requires.own.1 ∙ sym c.self.view_is),
  c.other.invariant.slots ∙ ap slots_of lacks,
  (let w = c.self.invariant.0 in omega arith),
  adds _ _ _ _ _ _ (ap (λ (z : TurnState _ _). z.held) c.seat.view_is ∙ f.0) c.seat.invariant.part lacks,
)
