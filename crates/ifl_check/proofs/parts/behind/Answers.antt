use Rattle.std.proofs.Common.{◌∙◌, ap, sym, List, ℕ}
use Rattle.std.specs.Str.{bytes_eq}
use Rattle.ifl_check.proofs.Fronts.{no_front}
use Rattle.ifl_check.proofs.parts.behind.Goals as goal

pub returns-else-eq-clause-none : goal.returns-else-eq-clause-none
returns-else-eq-clause-none c = no_front c.args.text.now c.args.front.now
    (ap (λ (z : List ℕ). bytes_eq z c.args.front.now) (sym c.split_at.ensures.front) ∙ (sym c.eq.ensures ∙ c.if-eq.false))
