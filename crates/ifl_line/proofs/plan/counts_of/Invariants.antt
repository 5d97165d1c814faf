use Rattle.std.proofs.Common.{◌≡◌, length, map, take}
use Rattle.std.specs.Prelude.{vec_len, vec_capacity}
use Rattle.ifl_line.specs.Works.{files_of}
use Rattle.ifl_line.proofs.plan.counts_of.Given as goal

abbrev pub invariant-loop-capture : goal.invariant-loop-capture
invariant-loop-capture l = (l.counts.items ≡ map length (files_of (take l.capture-index l.captures))) × (vec_capacity l.counts ≡ vec_capacity l.initial.counts) × (vec_len l.counts ≡ l.capture-index)
