use Rattle.std.proofs.Common.{◌∙◌, sym, ap, arith}
use Rattle.ifl_check.specs.Parts.{is_number}
use Rattle.ifl_check.proofs.Numerals.{no_number, number_utf8, parsed, not_parsed}
use Rattle.ifl_check.proofs.parts.number.Goals as goal

pub returns-then-not-is_number-clause-none : goal.returns-then-not-is_number-clause-none
returns-then-not-is_number-clause-none c = λ n h. no_number c.args.word.now n (sym c.is_number.ensures ∙ c.if-not-is_number.true) h

pub returns-in-Ok-parse-clause-some : goal.returns-in-Ok-parse-clause-some
returns-in-Ok-parse-clause-some c = let same = c.in-Ok.ensures.cases.0 in
    let p = c.in-Ok-parse.ensures.value.0 in let small = p.0.1 in let is = p.1 in
    (sym same ∙ parsed c.in-Ok.text.now c.in-Ok-parse.n (ap is_number same ∙ sym c.is_number.ensures ∙ c.if-not-is_number.false) p, omega arith)

pub returns-in-Err-parse-clause-none : goal.returns-in-Err-parse-clause-none
returns-in-Err-parse-clause-none c = λ n h e. not_parsed c.in-Ok.text.now c.in-Err-parse.field-0 n c.in-Err-parse.ensures.value.0 h (c.in-Ok.ensures.cases.0 ∙ e)

pub returns-in-Err-clause-none : goal.returns-in-Err-clause-none
returns-in-Err-clause-none c = λ n h e. c.in-Err.ensures.cases.0 (number_utf8 c.args.word.now (sym c.is_number.ensures ∙ c.if-not-is_number.false))
