use Rattle.std.specs.List.{AllWithin}
use Rattle.ifl_check.specs.Allowed.{MayBefall}
use Rattle.ifl_check.proofs.allowed.fates_are_allowed.Given as goal

abbrev pub invariant-loop-line : goal.invariant-loop-line
invariant-loop-line l = AllWithin (λ x. MayBefall l.terms x.what) l.lines 0 l.line-index
