use Rattle.std.proofs.Common.{◌≢◌, ◌∙◌, ◌++◌, ◌∷◌, ◌≤◌, ℕ, List, sym, arith}
use Rattle.std.specs.Prelude.{decimal}
use Rattle.std.proofs.lemmas.List.{append_cancel_left}
use Rattle.ifl_check.proofs.Absent.{none-so}
use Rattle.ifl_check.proofs.reading.count_behind.Goals as goal

pub returns-clause-none : goal.returns-clause-none
returns-clause-none c = none-so c.number_before.result ((n : ℕ) (rest : List ℕ) → n ≤ 18446744073709551615 → c.in_ok-number.number.now ≢ decimal n ++ (10 ∷ rest)) _
    (λ p n rest h e. p n rest (omega arith) (append_cancel_left c.args.name.now c.in_ok-number.number.now (decimal n ++ (10 ∷ rest)) (sym c.in_ok-number.ensures.some ∙ e)))
    c.number_before.ensures.none
