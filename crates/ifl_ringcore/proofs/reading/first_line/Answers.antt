use Rattle.ifl_ringcore.specs.Schedule.{ring_line}
use Rattle.ifl_ringcore.proofs.Wording.{no_line, no_ring_line, if_none}
use Rattle.ifl_ringcore.proofs.reading.first_line.Goals as goal

pub returns-in_err-line-clause-none : goal.returns-in_err-line-clause-none
returns-in_err-line-clause-none c = if_none c.from_residual.result _ (λ size seats behind h. no_line c.args.text.now (ring_line size seats) behind c.in_err-line.ensures.none)

pub returns-in_err-size-clause-none : goal.returns-in_err-size-clause-none
returns-in_err-size-clause-none c = if_none c.from_residual-in_err-size.result _
    (no_ring_line c.args.text.now c.in_ok-line.line.now c.in_ok-line.behind.now c.in_ok-line.ensures.some.0 c.in_ok-line.ensures.some.1 c.in_err-size.ensures.none)
