use Rattle.std.proofs.Common.{◌≡◌, ◌++◌, All, length}
use Rattle.std.specs.List.{flat_map}
use Rattle.ifl_check.specs.Text.{away_text, line_text, IsAwayLine}
use Rattle.ifl_check.proofs.reading.read_away.Given as goal

abbrev pub invariant-loop : goal.invariant-loop
invariant-loop l = (l.text ≡ flat_map (line_text away_text) l.lines.items ++ l.rest) × (length l.lines.items ≡ l.counter) × All IsAwayLine l.lines.items
