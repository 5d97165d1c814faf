-- The order of lines: that of the records of one sender, and that of senders and records.
use Rattle.std.specs.Prelude.{◌≡◌, ◌<◌, ◌⊎◌, List}
use Rattle.std.specs.List.{AllPairs}
use Rattle.ifl_base.specs.declared.fate.Fate.{Fate}
use Rattle.ifl_base.specs.declared.fate.Away.{Away}
use Rattle.ifl_check.specs.declared.line.Line.{Line}

-- of two lines of one sender, the first names the earlier record
abbrev pub IsBefore : Line Fate → Line Fate → Type 0
IsBefore a b = a.sender ≡ b.sender → a.index < b.index

-- the first line names an earlier sender, or an earlier record of the same
abbrev pub IsSorted : Line Away → Line Away → Type 0
IsSorted a b = (a.sender < b.sender) ⊎ ((a.sender ≡ b.sender) × (a.index < b.index))

pub record InOrder (accepted : List (Line Fate)) (turned : List (Line Away)) : Type 0 where
  pub senders : AllPairs IsBefore accepted
  pub all : AllPairs IsSorted turned
