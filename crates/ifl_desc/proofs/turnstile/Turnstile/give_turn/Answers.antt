use Rattle.std.proofs.Common.{◌≡◌, ◌∙◌, ap, sym, arith, false, ◌∷◌}
use Rattle.std.specs.Prelude.{Some}
use Rattle.atomic_table.specs.Table.{rest}
use Rattle.ifl_desc.specs.Turns.{TurnState, TurnstileId, slots_of}
use Rattle.ifl_desc.specs.Turning.{first_slot}
use Rattle.ifl_desc.proofs.TurnSteps.{gives_turn}
use Rattle.ifl_desc.proofs.turnstile.Turnstile.give_turn.Goals as goal

pub store-requires : goal.store-requires
store-requires g c =
    let own = c.requires.own ∙ sym c.self.view_is in
    let holds = ap (λ (z : TurnState _ _). z.held) c.seat.view_is ∙ c.requires.held in
    let ex = c.exchange.ensures.3 in let v = ap (λ m. m.0) ex in (
      c.exchange.ensures.0 ∙ ap (λ (z : TurnState _ _). z.turnstile.table) c.seat.view_is ∙ ap (λ (z : TurnstileId _). z.table) own,
      (let w = c.self.invariant.0 in omega arith),
      gives_turn _ _ _ _ _ c.args.e c.self.invariant.1 (ap (λ z. z.holds) v ∙ holds) (ap (λ m. m.1) ex ∙ ap (λ z. (0, Some c.args.e) ∷ rest z) (c.seat.invariant.slots ∙ ap slots_of holds))
          (ap (λ z. z.origin) v ∙ ap (λ (z : TurnState _ _). z.turnstile.origin) c.seat.view_is ∙ ap (λ (z : TurnstileId _). z.origin) c.requires.own ∙ c.requires.origin),
    )

pub returns : goal.returns
returns g c =
    let p = c.store.ensures.2.0 ∙ ap (λ m. record (m.0) { holds = false; left = first_slot m.1 }) c.exchange.ensures.3 in let t = c.store.ensures.0 ∙ c.exchange.ensures.0 in
    record {
      gave = (λ i. record { turnstile = record { table = t i; origin = (p i).origin }; part = (p i).part; held = (p i).holds; turns = (p i).turns; looks = (p i).looks; found = (p i).found; left = (p i).left })
          ∙ ap (λ (s : TurnState _ _). record s { held = false; left = Some c.args.e }) c.seat.view_is;
    }
