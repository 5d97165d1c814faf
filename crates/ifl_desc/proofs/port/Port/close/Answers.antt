use Rattle.std.proofs.Common.{List, ◌∙◌, ap, sym, arith, subst, []}
use Rattle.ifl_desc.specs.declared.signals.PortEvent.{PortEvent}
use Rattle.ifl_desc.specs.declared.signals.PortView.{PortView}
use mathlib.Core.List.{IsPrefix}
use Rattle.ifl_desc.specs.Port.{WriterSees, ReaderState, Ported, Mine, code_of, state_of, both_ends, spent_view, IsHistoryOf}
use Rattle.atomic_table.specs.Table.{Joins}
use Rattle.ifl_desc.proofs.PortSteps.{shuts, closed}
use Rattle.ifl_desc.proofs.port.Port.close.Goals as goal

pub join_seat-requires : goal.join_seat-requires
join_seat-requires c = let w = c.w.inside.seat in let r = c.r.inside.seat in (
  ap (λ (z : WriterSees). z.port) c.w.view_is ∙ c.requires.own.0 ∙ sym c.self.view_is,
  ap (λ (z : ReaderState). z.port) c.r.view_is ∙ c.requires.own.1 ∙ sym c.self.view_is,
  ap (λ (m : Mine). m.1) c.r.invariant.0,
  (let one = c.self.invariant.0 in omega arith),
  subst (λ (v : PortView). Joins Ported w.id v r.id r.me.0 (both_ends v r.me.0) spent_view) (sym (ap (λ (m : Mine). m.0) c.w.invariant.0))
      (shuts w.id w.me.0.seen r.id r.me.0 (ap (λ (m : Mine). m.0.role) c.r.invariant.0)),
)

pub returns-clause-last : goal.returns-clause-last
returns-clause-last c =
    let end = closed _ c.w.inside.seat.me.0.seen c.r.inside.seat.me.0.seen _ _ _ _ (ap (λ (m : Mine). m.0) c.join_seat.ensures.2) c.close_with-closed.ensures.values.2 c.word-word.ensures in
    c.of_code.ensures (state_of c.args.w.known) (end.0 ∙ ap (λ (z : WriterSees). code_of (state_of z.known)) c.w.view_is)

pub returns-clause-knew : goal.returns-clause-knew
returns-clause-knew c =
    let end = closed _ c.w.inside.seat.me.0.seen c.r.inside.seat.me.0.seen _ _ _ _ (ap (λ (m : Mine). m.0) c.join_seat.ensures.2) c.close_with-closed.ensures.values.2 c.word-word.ensures in
    subst (λ (x : WriterSees × ReaderState). IsPrefix x.1.known x.0.known) (λ i. (c.w.view_is i, c.r.view_is i)) end.1

pub returns-clause-history : goal.returns-clause-history
returns-clause-history c =
    let end = closed _ c.w.inside.seat.me.0.seen c.r.inside.seat.me.0.seen _ _ _ _ (ap (λ (m : Mine). m.0) c.join_seat.ensures.2) c.close_with-closed.ensures.values.2 c.word-word.ensures in
    subst (λ (x : WriterSees × ReaderState). (log : List PortEvent) × IsHistoryOf x.0.seen x.1.seen log) (λ i. (c.w.view_is i, c.r.view_is i)) end.3
