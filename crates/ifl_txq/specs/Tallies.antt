-- How many packets a log has noted, by their fates.
use Rattle.std.specs.Prelude.{◌≡◌, ◌+◌, List, [], ◌∷◌, Option, Some, None}
use Rattle.ifl_base.specs.declared.fate.Fate.{Fate}
use Rattle.ifl_base.specs.declared.fate.Fate.TheVariants as fate
use Rattle.ifl_txq.specs.declared.line.Line.{Line}
use Rattle.ifl_txq.specs.declared.tally.Tally.{Tally}

-- one packet more, with this fate or none
abbrev pub counted : Tally → Option Fate → Tally
counted t None = record t { packets = t.packets + 1; aboard = t.aboard + 1 }
counted t (Some fate.Wire) = record t { packets = t.packets + 1; wire = t.wire + 1 }
counted t (Some fate.TooManySegments) = record t { packets = t.packets + 1; too_many_segments = t.too_many_segments + 1 }
counted t (Some fate.Reset) = record t { packets = t.packets + 1; reset = t.reset + 1 }
counted t (Some fate.Flush) = record t { packets = t.packets + 1; flush = t.flush + 1 }

abbrev pub tally_after : Tally → List Line → Tally
tally_after t [] = t
tally_after t (l ∷ ls) = tally_after (counted t l.fate) ls

-- the tally of a log's lines
abbrev pub tally_of : List Line → Tally
tally_of ls = tally_after (record { packets = 0; wire = 0; too_many_segments = 0; reset = 0; flush = 0; aboard = 0 }) ls

-- all packets are those with each fate, and those without one
abbrev pub IsBalanced : Tally → Type 0
IsBalanced t = t.packets ≡ t.wire + t.too_many_segments + t.reset + t.flush + t.aboard
