use Rattle.std.proofs.Common.{◌∙◌, ap, sym, arith, ◌∷◌}
use Rattle.std.specs.Prelude.{Some}
use Rattle.atomic_table.specs.Table.{rest}
use Rattle.ifl_desc.specs.Turns.{TurnState, TurnstileId}
use Rattle.ifl_desc.proofs.TurnSteps.{tries}
use Rattle.ifl_desc.proofs.turnstile.Turnstile.try_turn.Goals as goal

pub compare_exchange-seen-requires : goal.compare_exchange-seen-requires
compare_exchange-seen-requires g c = (
  ap (λ (z : TurnState _ _). z.turnstile.table) c.seat.view_is ∙ ap (λ (z : TurnstileId _). z.table) (c.requires.own ∙ sym c.self.view_is),
  (let w = c.self.invariant.0 in omega arith),
  tries _ _ _ _ _ (ap (λ (z : TurnState _ _). z.held) c.seat.view_is ∙ c.requires.free) c.seat.invariant.part,
)

pub exchange-requires : goal.exchange-requires
exchange-requires g c = let got = c.compare_exchange-seen.ensures.2.0 (omega arith) in (
  c.compare_exchange-seen.ensures.0 ∙ ap (λ (z : TurnState _ _). z.turnstile.table) c.seat.view_is ∙ ap (λ (z : TurnstileId _). z.table) (c.requires.own ∙ sym c.self.view_is),
  (Some got.0, got.2 ∙ ap (λ z. (0, Some got.0) ∷ z) (sym (ap rest got.2))),
)
