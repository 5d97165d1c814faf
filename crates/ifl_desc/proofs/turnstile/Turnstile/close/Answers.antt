use Rattle.std.proofs.Common.{◌∙◌, ap, sym}
use mathlib.Core.Option.{some-injective}
use Rattle.std.specs.Prelude.{Some}
use Rattle.ifl_desc.specs.Turns.{TurnState, TurnstileId}
use Rattle.ifl_desc.proofs.TurnSteps.{is_home, some_same}
use Rattle.ifl_desc.proofs.turnstile.Turnstile.close.Goals as goal

pub unreachable-requires : goal.unreachable-requires
unreachable-requires g c =
    let lacks = ap (λ (z : TurnState _ _). z.held) c.seat.view_is ∙ c.requires.whole.0 in let all = ap (λ (z : TurnState _ _). z.part) c.seat.view_is ∙ c.requires.whole.1 in
    let h = is_home _ _ _ _ _ _ lacks all c.close_with-closed.ensures.values.2 in
    c.in_default.not-Some h.0 (some-injective _ _ (sym c.take.ensures.value ∙ h.1))

pub returns : goal.returns
returns g c =
    let lacks = ap (λ (z : TurnState _ _). z.held) c.seat.view_is ∙ c.requires.whole.0 in let all = ap (λ (z : TurnState _ _). z.part) c.seat.view_is ∙ c.requires.whole.1 in
    let h = is_home _ _ _ _ _ _ lacks all c.close_with-closed.ensures.values.2 in
    sym (ap (λ (z : TurnstileId _). z.origin) c.self.view_is) ∙ ap Some (sym (ap g.E.Kept.origin (some_same _ _ (some-injective _ _ (sym c.in-Some.ensures.value ∙ h.1))) ∙ h.2))
