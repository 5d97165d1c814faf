use Rattle.std.proofs.Common.{◌∙◌, sym}
use Rattle.ifl_check.specs.Text.{away_text}
use Rattle.ifl_check.proofs.Absent.{if_none}
use Rattle.ifl_check.proofs.Fronts.{not_behind, cut-same}
use Rattle.ifl_check.proofs.OneReading.{lacks-away, line-behind}
use Rattle.ifl_check.proofs.reading.away_line.Goals as goal

pub returns-in_err-name-clause-none : goal.returns-in_err-name-clause-none
returns-in_err-name-clause-none c = if_none c.from_residual-in_err-name.result _ (λ l rest h e.
    let t = line-behind away_text c.args.text.now c.in_ok-sender.sender c.in_ok-sender.index c.in_ok-sender.behind.now l rest c.in_ok-sender.ensures.some h.0 e in
    not_behind 10 c.in_ok-sender.behind.now (away_text l.what) rest c.in_err-name.ensures.none t)

pub returns-in_err-what-clause-none : goal.returns-in_err-what-clause-none
returns-in_err-what-clause-none c = if_none c.from_residual-in_err-what.result _ (λ l rest h e.
    let t = line-behind away_text c.args.text.now c.in_ok-sender.sender c.in_ok-sender.index c.in_ok-sender.behind.now l rest c.in_ok-sender.ensures.some h.0 e in
    let u = cut-same 10 c.in_ok-name.name.now c.in_ok-name.rest.now (away_text l.what) rest c.in_ok-name.ensures.some.1 (lacks-away l.what h.1) (sym c.in_ok-name.ensures.some.0 ∙ t) in
    c.in_err-what.ensures.none l.what h.1 u.0)
