use Rattle.std.specs.List.{AllWithin}
use Rattle.ifl_check.specs.Files.{each_frames}
use Rattle.ifl_check.specs.Lengths.{SuitsFate, SuitsFrame}
use Rattle.ifl_check.proofs.lengths.fates_agree.Given as goal

abbrev pub invariant-loop-line : goal.invariant-loop-line
invariant-loop-line l = AllWithin (SuitsFrame SuitsFate l.terms (each_frames l.captures)) l.lines 0 l.line-index
