-- The places of all records in one row: those of a file stand behind those of the files before it.
use Rattle.std.specs.Prelude.{◌≡◌, ℕ, zero, suc, ◌+◌, List, [], ◌∷◌, length, slice_index_or}
use Rattle.std.specs.List.{count_by}
use Rattle.ifl_pcap.specs.declared.frame.Frame.{Frame}
use Rattle.ifl_check.specs.declared.line.Line.{Line}
use Rattle.ifl_check.specs.Files.{IsRecordAt}
use Rattle.ifl_check.specs.EachOnce.{is_named}

-- the place of a record
unfoldable pub place : List (List Frame) → ℕ → ℕ → ℕ
place [] s k = k
place (fs ∷ files) zero k = k
place (fs ∷ files) (suc s) k = length fs + place files s k

-- each record's mark counts the lines that name it, besides what it was
abbrev pub Counts : {T : Type 0} → List (List Frame) → List ℕ → List ℕ → List (Line T) → Type 0
Counts files old new lines = (s k : ℕ) → IsRecordAt files s k
    → slice_index_or new (place files s k) 0 ≡ slice_index_or old (place files s k) 0 + count_by (is_named s k) lines
