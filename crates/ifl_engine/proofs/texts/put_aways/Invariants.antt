use Rattle.std.proofs.Common.{◌≡◌, ◌++◌, take}
use Rattle.std.specs.List.{flat_map}
use Rattle.std.specs.String.{string_bytes}
use Rattle.ifl_engine.specs.Texts.{away_line}
use Rattle.ifl_engine.proofs.texts.put_aways.Given as goal

abbrev pub invariant-loop-l : goal.invariant-loop-l
invariant-loop-l v = string_bytes v.out ≡ string_bytes v.fn.out ++ flat_map away_line (take v.l-index v.lines)
