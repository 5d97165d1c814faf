use Rattle.std.specs.List.{AllWithin}
use Rattle.ifl_check.specs.FullRing.{IsFullRing}
use Rattle.ifl_check.proofs.full.are_full_rings.Given as goal

abbrev pub invariant-loop-line : goal.invariant-loop-line
invariant-loop-line l = AllWithin (λ x. IsFullRing l.terms x.what) l.lines 0 l.line-index
