use Rattle.std.proofs.Common.{◌≡◌, ◌∙◌, sym, true, false}
use Rattle.std.specs.Prelude.{Some, None}
use Rattle.ifl_ringcore.proofs.Wording.{ring-parts, ring-same, if_none, ring-fits}
use Rattle.ifl_ringcore.proofs.line.ring.Goals as goal

pub returns-then-not-is_ring_name-clause-none : goal.returns-then-not-is_ring_name-clause-none
returns-then-not-is_ring_name-clause-none c = λ size seats h at.
    let t = ring-parts c.args.line.now c.in_ok-name.name.now c.in_ok-name.rest.now c.in_ok-name.ensures.some.0 c.in_ok-name.ensures.some.1 size seats at in
    let f : false ≡ true = sym c.if-not-is_ring_name.true ∙ (c.is_ring_name.ensures ∙ t.0) in absurd cc

pub returns-in_err-size-clause-none : goal.returns-in_err-size-clause-none
returns-in_err-size-clause-none c = if_none c.from_residual-in_err-size.result _ (λ size seats h at.
    let t = ring-parts c.args.line.now c.in_ok-name.name.now c.in_ok-name.rest.now c.in_ok-name.ensures.some.0 c.in_ok-name.ensures.some.1 size seats at in
    c.in_err-size.ensures.none size (Some seats) (ring-fits size seats h).0 (ring-fits size seats h).1 t.1)

pub returns-in_err-seats-clause-none : goal.returns-in_err-seats-clause-none
returns-in_err-seats-clause-none c = if_none c.from_residual-in_err-seats.result _ (λ size seats h at.
    let t = ring-same c.args.line.now c.in_ok-name.name.now c.in_ok-name.rest.now c.in_ok-size.size c.in_ok-size.seats c.in_ok-name.ensures.some.0 c.in_ok-name.ensures.some.1
    c.in_ok-size.ensures.some c.in_ok-size.ensures.fits.0 c.in_ok-size.ensures.fits.1 size seats h at in
    let f : None ≡ Some seats = sym c.in_err-seats.was ∙ t.1 in absurd cc)

pub returns-else-is_ring-clause-none : goal.returns-else-is_ring-clause-none
returns-else-is_ring-clause-none c = λ size seats h at.
    let t = ring-same c.args.line.now c.in_ok-name.name.now c.in_ok-name.rest.now c.in_ok-size.size c.in_ok-size.seats c.in_ok-name.ensures.some.0 c.in_ok-name.ensures.some.1
    c.in_ok-size.ensures.some c.in_ok-size.ensures.fits.0 c.in_ok-size.ensures.fits.1 size seats h at in
    let f : Some c.in_ok-seats.seats ≡ Some seats = sym c.in_ok-seats.was ∙ t.1 in let same : c.in_ok-seats.seats ≡ seats = cc in
    c.is_ring.ensures.no c.if-is_ring.false (rw (t.0, same) h)
