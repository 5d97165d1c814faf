use Rattle.std.proofs.Common.{◌≡◌, ◌<◌, ℕ, length, slice_index_or}
use Rattle.ifl_check.specs.Files.{each_frames}
use Rattle.ifl_check.specs.Places.{place}
use Rattle.ifl_check.proofs.marking.starts_of.Given as goal

abbrev pub invariant-loop-capture : goal.invariant-loop-capture
invariant-loop-capture l = ((s : ℕ) → s < l.capture-index → slice_index_or l.starts.items s 0 ≡ place (each_frames l.captures) s 0)
    × (length l.starts.items ≡ l.capture-index) × (l.total ≡ place (each_frames l.captures) l.capture-index 0)
