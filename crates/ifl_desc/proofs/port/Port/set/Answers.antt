use Rattle.std.proofs.Common.{ℕ, ◌≡◌, ◌∙◌, ap, sym, arith, subst, List, [], ◌∷◌, ◌++◌}
use Rattle.atomic_table.specs.Table.{Me, step, Allows}
use mathlib.Core.Option.{none}
use Rattle.ifl_desc.specs.declared.signals.PortView.{PortView}
use Rattle.ifl_desc.specs.declared.signals.PortEvent.{PortEvent}
use Rattle.ifl_desc.specs.declared.port.PortState.{PortState}
use Rattle.ifl_desc.specs.Port.{WriterSees, Ported, stored, MayFollow, state_of}
use Rattle.ifl_desc.proofs.PortSteps.{stores, sets_next}
use Rattle.ifl_desc.proofs.port.Port.set.Goals as goal

pub store-requires : goal.store-requires
store-requires c = (
  ap (λ (z : WriterSees). z.port) c.w.view_is ∙ c.requires.own ∙ sym c.self.view_is,
  (let w = c.self.invariant.0 in omega arith),
  subst (λ (m : Me ℕ PortView). Allows Ported c.self.inside.table.shared.table_id.slots c.w.inside.seat.id m 0 (λ _. c.code.result) (λ _. stored (step c.self.inside.table.shared.table_id.slots 0 c.code.result 0 none) m 0)) (sym c.w.invariant.0)
      (stores _ c.w.inside.seat.id c.code.result c.w.inside.seat.me.0.seen c.args.s (sym c.code.ensures) (subst (λ (z : List PortState). MayFollow (state_of z) c.args.s) (sym (ap (λ (z : WriterSees). z.known) c.w.view_is)) c.requires.legal)),
)

pub returns-clause-set : goal.returns-clause-set
returns-clause-set c = let did = c.store.ensures.2 c.args.s (sym c.code.ensures) in let new : List PortEvent = c.store.new.seat.me.0.seen in
    let port = c.store.ensures.0 ∙ ap (λ (z : WriterSees). z.port) c.w.view_is in
    let known = sets_next c.w.inside.seat.me.0.seen c.args.s new did.0 ∙ ap (λ (z : WriterSees). z.known ++ c.args.s ∷ []) c.w.view_is in
    λ i. record { port = port i; known = known i; seen = new }
