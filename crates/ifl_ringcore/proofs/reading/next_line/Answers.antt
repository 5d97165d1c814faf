use Rattle.ifl_ringcore.specs.Schedule.{event_line}
use Rattle.ifl_ringcore.proofs.Wording.{no_line, no_event_line, if_none}
use Rattle.ifl_ringcore.proofs.reading.next_line.Goals as goal

pub returns-in_err-line-clause-none : goal.returns-in_err-line-clause-none
returns-in_err-line-clause-none c = if_none c.from_residual.result _ (λ e behind h. no_line c.args.text.now (event_line e) behind c.in_err-line.ensures.none)

pub returns-in_err-event-clause-none : goal.returns-in_err-event-clause-none
returns-in_err-event-clause-none c = if_none c.from_residual-in_err-event.result _
    (no_event_line c.args.text.now c.in_ok-line.line.now c.in_ok-line.behind.now c.in_ok-line.ensures.some.0 c.in_ok-line.ensures.some.1 c.in_err-event.ensures.none)
