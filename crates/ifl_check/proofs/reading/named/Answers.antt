use Rattle.std.proofs.Common.{◌∙◌, sym, arith}
use Rattle.ifl_check.specs.Text.{number_then}
use Rattle.ifl_check.proofs.Absent.{if_none}
use Rattle.ifl_check.proofs.OneReading.{then-same}
use Rattle.ifl_check.proofs.reading.named.Goals as goal

pub returns-in_err-index-clause-none : goal.returns-in_err-index-clause-none
returns-in_err-index-clause-none c = if_none c.from_residual-in_err-index.result _ (λ s k rest hs hk e.
    let fits = c.in_ok-sender.ensures.some.1 in
    let t = then-same c.in_ok-sender.sender s c.in_ok-sender.rest.now (number_then k rest) (omega arith) (omega arith) (sym c.in_ok-sender.ensures.some.0 ∙ e) in
    c.in_err-index.ensures.none k rest (omega arith) t.1)
