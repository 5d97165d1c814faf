use Rattle.std.proofs.Common.{ℕ, ◌+◌, List, Some, ◌∙◌, ap, sym, arith, subst}
use Rattle.atomic_table.specs.Table.{Me, step, Allows}
use mathlib.Core.Option.{none}
use mathlib.Core.List.{IsPrefix}
use Rattle.ifl_desc.specs.declared.port.PortState.{PortState}
use Rattle.ifl_desc.specs.declared.signals.PortEvent.{PortEvent}
use Rattle.ifl_desc.specs.declared.signals.PortView.{PortView}
use Rattle.ifl_desc.specs.Port.{ReaderState, Ported, found_state, sets_of}
use Rattle.ifl_desc.proofs.PortSteps.{finds, finds_next}
use Rattle.ifl_desc.proofs.port.Port.look.Goals as goal

pub load-requires : goal.load-requires
load-requires c = (
  ap (λ (z : ReaderState). z.port) c.r.view_is ∙ c.requires.own ∙ sym c.self.view_is,
  (let w = c.self.invariant.0 in omega arith),
  subst (λ (m : Me ℕ PortView). Allows Ported c.self.inside.table.shared.table_id.slots c.r.inside.seat.id m 0 (λ n. n) (found_state (step c.self.inside.table.shared.table_id.slots 0 0 0 none) m)) (sym c.r.invariant.0)
      (finds _ c.r.inside.seat.id c.r.inside.seat.me.0.seen),
)

pub returns-clause-found : goal.returns-clause-found
returns-clause-found c = let did = c.load.ensures.2 in c.of_code.ensures did.0 did.1 ∙ (finds_next c.r.inside.seat.me.0.seen did.0 c.load.new.seat.me.0.seen did.2 did.3).0

pub returns-clause-knows : goal.returns-clause-knows
returns-clause-knows c = let did = c.load.ensures.2 in let new : List PortEvent = c.load.new.seat.me.0.seen in
    subst (λ (z : List PortState). IsPrefix z (sets_of new)) (ap (λ (z : ReaderState). z.known) c.r.view_is) (finds_next c.r.inside.seat.me.0.seen did.0 new did.2 did.3).1

pub returns-clause-counts : goal.returns-clause-counts
returns-clause-counts c = let did = c.load.ensures.2 in let new : List PortEvent = c.load.new.seat.me.0.seen in
    let next = finds_next c.r.inside.seat.me.0.seen did.0 new did.2 did.3 in
    let port = c.load.ensures.0 ∙ ap (λ (z : ReaderState). z.port) c.r.view_is in
    let loads = next.2 ∙ ap (λ (z : ReaderState). z.loads + 1) c.r.view_is in
    let found = next.3 ∙ ap Some (sym (c.of_code.ensures did.0 did.1)) in
    λ i. record { port = port i; known = sets_of new; loads = loads i; found = found i; seen = new }
