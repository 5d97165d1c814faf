use Rattle.ifl_ringcore.proofs.Wording.{no_first, no_second, no_single, if_none}
use Rattle.ifl_ringcore.proofs.line.numbers.Goals as goal

pub returns-in_err-number-in-Some-clause-none : goal.returns-in_err-number-in-Some-clause-none
returns-in_err-number-in-Some-clause-none c = if_none c.from_residual.result _
    (no_first c.args.text.now c.in-Some.first.now c.in-Some.second.now c.in-Some.ensures.some.0 c.in-Some.ensures.some.1 c.in_err-number-in-Some.ensures.none)

pub returns-in_err-number-in-Some-2-clause-none : goal.returns-in_err-number-in-Some-2-clause-none
returns-in_err-number-in-Some-2-clause-none c = if_none c.from_residual-in_err-number-in-Some-2.result _
    (no_second c.args.text.now c.in-Some.first.now c.in-Some.second.now c.in-Some.ensures.some.0 c.in-Some.ensures.some.1 c.in_err-number-in-Some-2.ensures.none)

pub returns-in_err-number-in-None-clause-none : goal.returns-in_err-number-in-None-clause-none
returns-in_err-number-in-None-clause-none c = if_none c.from_residual-in_err-number-in-None.result _
    (no_single c.args.text.now c.in-None.ensures.none c.in_err-number-in-None.ensures.none)
