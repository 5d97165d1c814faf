use Rattle.std.proofs.Common.{◌≡◌, length, take}
use Rattle.std.specs.List.{AllWithin}
use Rattle.ifl_check.specs.Files.{each_frames, IsRecordAt}
use Rattle.ifl_check.specs.Places.{Counts}
use Rattle.ifl_check.proofs.marking.mark.Given as goal

abbrev pub invariant-loop-line : goal.invariant-loop-line
invariant-loop-line g l = (length l.marks ≡ length l.fn.marks) × Counts (each_frames l.captures) l.fn.marks l.marks (take l.line-index l.lines)
    × AllWithin (λ x. IsRecordAt (each_frames l.captures) x.sender x.index) l.lines 0 l.line-index
