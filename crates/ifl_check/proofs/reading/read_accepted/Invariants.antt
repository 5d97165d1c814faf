use Rattle.std.proofs.Common.{◌≡◌, ◌++◌, All, length}
use Rattle.std.specs.List.{flat_map}
use Rattle.ifl_check.specs.Text.{fate_text, line_text, HasNumbers}
use Rattle.ifl_check.proofs.reading.read_accepted.Given as goal

abbrev pub invariant-loop : goal.invariant-loop
invariant-loop l = (l.text ≡ flat_map (line_text fate_text) l.lines.items ++ l.rest) × (length l.lines.items ≡ l.counter) × All HasNumbers l.lines.items
