use Rattle.std.proofs.Common.{◌-◌, arith, get_or, subst}
use Rattle.ifl_base.specs.declared.fate.Away.TheVariants as away
use Rattle.ifl_base.specs.declared.fate.Away.{Away}
use Rattle.ifl_check.specs.declared.line.Line.{Line}
use Rattle.ifl_check.specs.InOrder.{IsSorted}
use Rattle.std.proofs.lemmas.List.{get_or_default}
use Rattle.ifl_check.proofs.Ascending.{sorted-more}
use Rattle.ifl_check.proofs.ordering.away_in_order.Goals as goal

pub loop-i-preserved : goal.loop-i-preserved
loop-i-preserved c =
    let n = c.loop-i.i in let lines = c.args.lines.now in let e : Line Away = record { sender = 0; index = 0; what = away.Runt } in
    let lt = c.loop-i-test.true in let one = c.loop-i.auto.i in
    sorted-more lines n (omega arith) c.loop-i.invariant (λ d.
    let low = get_or_default lines (n - 1) e d (omega arith) in let high = get_or_default lines n e d (omega arith) in
    subst (λ (z : Line Away). IsSorted z (get_or lines n d)) low (subst (λ (z : Line Away). IsSorted (get_or lines (n - 1) e) z) high (c.is_sorted.ensures.yes c.if-not-is_sorted.false)))
