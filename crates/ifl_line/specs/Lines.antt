-- Lines of the order record.
use Rattle.std.specs.Prelude.{◌<◌, ◌^◌, List, [], ◌∷◌}
use Rattle.ifl_txq.specs.declared.line.OrderLine.{OrderLine}

-- the number of each record fits its type
abbrev pub AreSmall : List OrderLine → Type 0
AreSmall [] = Unit {0}
AreSmall (l ∷ ls) = (l.ticket.index < 2 ^ 32) × AreSmall ls
