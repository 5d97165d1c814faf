use Rattle.std.specs.List.{AllWithin}
use Rattle.ifl_check.specs.Allowed.{MayTurnAway}
use Rattle.ifl_check.proofs.allowed.reasons_are_allowed.Given as goal

abbrev pub invariant-loop-line : goal.invariant-loop-line
invariant-loop-line l = AllWithin (λ x. MayTurnAway l.terms x.what) l.lines 0 l.line-index
