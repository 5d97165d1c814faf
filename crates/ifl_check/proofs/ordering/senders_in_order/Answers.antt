use Rattle.std.proofs.Common.{◌∙◌, ◌<◌, ◌+◌, arith, get_or, length}
use Rattle.std.proofs.lemmas.Grind.{get_or_default_zero}
use Rattle.std.proofs.lemmas.List.{length-set}
use Rattle.ifl_base.specs.declared.fate.Fate.{Fate}
use Rattle.ifl_base.specs.declared.fate.Fate.TheVariants as fate
use Rattle.ifl_check.specs.declared.line.Line.{Line}
use Rattle.std.proofs.lemmas.List.{get_or_default}
use Rattle.ifl_check.proofs.Ascending.{seen-more, seen-fails}
use Rattle.ifl_check.proofs.ordering.senders_in_order.Goals as goal

pub returns-then-index-clause-no : goal.returns-then-index-clause-no
returns-then-index-clause-no c =
    let n = c.loop-line.line-index in let lines = c.args.lines.now in let d : Line Fate = record { sender = 0; index = 0; what = fate.Wire } in
    let l = get_or lines n d in let lt = c.loop-line-test.true in
    let fits : l.sender < length c.loop-line.least.items = (let r = c.requires n d lt in let s = c.loop-line.invariant.0 in omega arith) in
    let least = c.index.ensures ∙ get_or_default_zero c.loop-line.least.items l.sender c.index.result.now fits in let low = c.if-index.true in
    λ _. seen-fails lines c.loop-line.least.items n l c.loop-line.invariant.1 lt (get_or_default lines n d l lt) (omega arith)

pub loop-line-preserved : goal.loop-line-preserved
loop-line-preserved c =
    let n = c.loop-line.line-index in let lines = c.args.lines.now in let d : Line Fate = record { sender = 0; index = 0; what = fate.Wire } in
    let l = get_or lines n d in let lt = c.loop-line-test.true in
    let fits : l.sender < length c.loop-line.least.items = (let r = c.requires n d lt in let s = c.loop-line.invariant.0 in omega arith) in
    let least = c.index.ensures ∙ get_or_default_zero c.loop-line.least.items l.sender c.index.result.now fits in let high = c.if-index.false in (
      length-set c.loop-line.least.items l.sender (l.index + 1) ∙ c.loop-line.invariant.0,
      seen-more lines c.loop-line.least.items n l c.loop-line.invariant.1 lt (get_or_default lines n d l lt) (λ e. get_or_default lines n e d lt) fits (omega arith),
    )
