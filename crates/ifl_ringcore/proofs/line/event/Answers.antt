use Rattle.std.proofs.Common.{◌≡◌, ◌∙◌, sym, ap, true, false}
use Rattle.std.specs.Prelude.{Some, None}
use Rattle.ifl_ringcore.specs.Reading.{is_in_range}
use Rattle.ifl_ringcore.proofs.Wording.{no_numbers, named, in_range, if_none}
use Rattle.ifl_ringcore.proofs.line.event.Goals as goal

pub returns-in_err-seat-clause-none : goal.returns-in_err-seat-clause-none
returns-in_err-seat-clause-none c = if_none c.from_residual-in_err-seat.result _
    (no_numbers c.args.line.now c.in_ok-name.name.now c.in_ok-name.rest.now c.in_ok-name.ensures.some.0 c.in_ok-name.ensures.some.1 c.in_err-seat.ensures.none)

pub returns-in_err-event-clause-none : goal.returns-in_err-event-clause-none
returns-in_err-event-clause-none c = if_none c.from_residual-in_err-event.result _ (λ e h at.
    let is = named c.args.line.now c.in_ok-name.name.now c.in_ok-name.rest.now c.in_ok-seat.seat c.in_ok-seat.n c.in_ok-name.ensures.some.0 c.in_ok-name.ensures.some.1
    c.in_ok-seat.ensures.some c.in_ok-seat.ensures.fits.0 c.in_ok-seat.ensures.fits.1 e h at in
    let f : None ≡ Some e = c.in_err-event.ensures ∙ is in absurd cc)

pub returns-else-is_in_range-clause-none : goal.returns-else-is_in_range-clause-none
returns-else-is_in_range-clause-none c = λ e h at.
    let is = named c.args.line.now c.in_ok-name.name.now c.in_ok-name.rest.now c.in_ok-seat.seat c.in_ok-seat.n c.in_ok-name.ensures.some.0 c.in_ok-name.ensures.some.1
    c.in_ok-seat.ensures.some c.in_ok-seat.ensures.fits.0 c.in_ok-seat.ensures.fits.1 e h at in
    let f : Some c.in_ok-event.event ≡ Some e = c.in_ok-event.ensures ∙ is in let same : c.in_ok-event.event ≡ e = cc in
    let g : false ≡ true = sym c.if-is_in_range.false ∙ (c.is_in_range.ensures ∙ (ap is_in_range same ∙ in_range e h)) in absurd cc
