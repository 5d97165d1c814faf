use Rattle.std.proofs.Common.{◌≡◌, ◌+◌, drop, length, map}
use Rattle.std.specs.Prelude.{sum}
use Rattle.ifl_line.specs.Works.{files_of}
use Rattle.ifl_line.proofs.run.count.Given as goal

abbrev pub invariant-loop-index : goal.invariant-loop-index
invariant-loop-index l = l.total + sum (map length (files_of (drop l.index l.captures))) ≡ sum (map length (files_of l.captures))
