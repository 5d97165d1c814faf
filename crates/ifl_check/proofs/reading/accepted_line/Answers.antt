use Rattle.std.proofs.Common.{◌∙◌, sym}
use Rattle.ifl_check.specs.Text.{fate_text}
use Rattle.ifl_check.proofs.Absent.{if_none}
use Rattle.ifl_check.proofs.Fronts.{not_behind, cut-same}
use Rattle.ifl_check.proofs.OneReading.{lacks-fate, line-behind}
use Rattle.ifl_check.proofs.reading.accepted_line.Goals as goal

pub returns-in_err-name-clause-none : goal.returns-in_err-name-clause-none
returns-in_err-name-clause-none c = if_none c.from_residual-in_err-name.result _ (λ l rest h e.
    let t = line-behind fate_text c.args.text.now c.in_ok-sender.sender c.in_ok-sender.index c.in_ok-sender.behind.now l rest c.in_ok-sender.ensures.some h e in
    not_behind 10 c.in_ok-sender.behind.now (fate_text l.what) rest c.in_err-name.ensures.none t)

pub returns-in_err-what-clause-none : goal.returns-in_err-what-clause-none
returns-in_err-what-clause-none c = if_none c.from_residual-in_err-what.result _ (λ l rest h e.
    let t = line-behind fate_text c.args.text.now c.in_ok-sender.sender c.in_ok-sender.index c.in_ok-sender.behind.now l rest c.in_ok-sender.ensures.some h e in
    let u = cut-same 10 c.in_ok-name.name.now c.in_ok-name.rest.now (fate_text l.what) rest c.in_ok-name.ensures.some.1 (lacks-fate l.what) (sym c.in_ok-name.ensures.some.0 ∙ t) in
    c.in_err-what.ensures.none l.what u.0)
