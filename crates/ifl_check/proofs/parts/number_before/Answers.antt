use Rattle.std.proofs.Common.{◌∙◌, ◌^◌, ◌<◌, sym, arith}
use Rattle.std.specs.Prelude.{decimal}
use Rattle.std.proofs.lemmas.Fmt.{decimal_injective}
use Rattle.ifl_check.proofs.Absent.{if_none}
use Rattle.ifl_check.proofs.Fronts.{not_behind, cut-decimal}
use Rattle.ifl_check.proofs.parts.number_before.Goals as goal

pub returns-in_err-word-clause-none : goal.returns-in_err-word-clause-none
returns-in_err-word-clause-none c = if_none c.from_residual.result _ (λ n rest h. not_behind c.args.end c.args.text.now (decimal n) rest c.in_err-word.ensures.none)

pub returns-in_err-n-clause-none : goal.returns-in_err-n-clause-none
returns-in_err-n-clause-none c = if_none c.from_residual-in_err-n.result _ (λ n rest h e.
    let fits = c.ranges.most.fits in let small : n < 2 ^ 64 = omega arith in
    c.in_err-n.ensures.none n small
    (cut-decimal c.args.end c.args.text.now c.in_ok-word.word.now c.in_ok-word.rest.now n rest c.in_ok-word.ensures.some.0 c.in_ok-word.ensures.some.1 c.requires small e).0)

pub returns-else-n-most-clause-none : goal.returns-else-n-most-clause-none
returns-else-n-most-clause-none c = λ n rest h e.
    let fits = c.ranges.most.fits in let small : n < 2 ^ 64 = omega arith in
    let t = cut-decimal c.args.end c.args.text.now c.in_ok-word.word.now c.in_ok-word.rest.now n rest c.in_ok-word.ensures.some.0 c.in_ok-word.ensures.some.1 c.requires small e in
    let same = decimal_injective c.in_ok-n.n n c.in_ok-n.ensures.some.1 small (sym c.in_ok-n.ensures.some.0 ∙ t.0) in
    let over = c.if-n-most.false in absurd (omega arith)
