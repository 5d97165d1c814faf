use Rattle.std.proofs.Common.{◌∙◌, sym, arith}
use Rattle.ifl_check.proofs.Absent.{if_none}
use Rattle.ifl_check.proofs.OneReading.{then-same}
use Rattle.ifl_check.proofs.words.word.Goals as goal

pub returns-in_err-tail-clause-none : goal.returns-in_err-tail-clause-none
returns-in_err-tail-clause-none c = if_none c.from_residual-in_err-tail.result _ (λ w h e.
    let h0 = h.0 in let h1 = h.1 in let f0 = c.in_ok-head.ensures.some.1 in
    let t = then-same c.in_ok-head.head w.head c.in_ok-head.rest.now _ (omega arith) (omega arith) (sym c.in_ok-head.ensures.some.0 ∙ e) in
    c.in_err-tail.ensures.none w.tail _ (omega arith) t.1)

pub returns-in_err-cidx-clause-none : goal.returns-in_err-cidx-clause-none
returns-in_err-cidx-clause-none c = if_none c.from_residual-in_err-cidx.result _ (λ w h e.
    let h0 = h.0 in let h1 = h.1 in let h2 = h.2 in let f0 = c.in_ok-head.ensures.some.1 in let f1 = c.in_ok-tail.ensures.some.1 in
    let t = then-same c.in_ok-head.head w.head c.in_ok-head.rest.now _ (omega arith) (omega arith) (sym c.in_ok-head.ensures.some.0 ∙ e) in
    let u = then-same c.in_ok-tail.tail w.tail c.in_ok-tail.rest.now _ (omega arith) (omega arith) (sym c.in_ok-tail.ensures.some.0 ∙ t.1) in
    c.in_err-cidx.ensures.none w.cidx _ (omega arith) u.1)

pub returns-in_err-flag-clause-none : goal.returns-in_err-flag-clause-none
returns-in_err-flag-clause-none c = if_none c.from_residual-in_err-flag.result _ (λ w h e.
    let h0 = h.0 in let h1 = h.1 in let h2 = h.2 in let f0 = c.in_ok-head.ensures.some.1 in let f1 = c.in_ok-tail.ensures.some.1 in let f2 = c.in_ok-cidx.ensures.some.1 in
    let t = then-same c.in_ok-head.head w.head c.in_ok-head.rest.now _ (omega arith) (omega arith) (sym c.in_ok-head.ensures.some.0 ∙ e) in
    let u = then-same c.in_ok-tail.tail w.tail c.in_ok-tail.rest.now _ (omega arith) (omega arith) (sym c.in_ok-tail.ensures.some.0 ∙ t.1) in
    let v = then-same c.in_ok-cidx.cidx w.cidx c.in_ok-cidx.rest.now _ (omega arith) (omega arith) (sym c.in_ok-cidx.ensures.some.0 ∙ u.1) in
    c.in_err-flag.ensures.none w.flag v.1)
