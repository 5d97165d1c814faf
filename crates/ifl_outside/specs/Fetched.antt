-- What a read answers, for what the file holds.
use Rattle.std.specs.Prelude.{◌≡◌, ◌<◌, ◌≤◌, ℕ, List, length, Option, Some, None, IsSomeAnd}
use Rattle.ifl_outside.specs.declared.host.Fetch.{Fetch}
use Rattle.ifl_outside.specs.declared.host.Fetch.TheVariants.{Bytes, Absent, TooLong}

-- the file's bytes within the limit, or that it is not there, or that it is longer
abbrev pub IsFetch : Option (List ℕ) → ℕ → Fetch → Type 0
IsFetch file limit (Bytes bytes) = (file ≡ Some bytes) × (length bytes ≤ limit)
IsFetch file limit Absent = file ≡ None
IsFetch file limit TooLong = IsSomeAnd file (λ bytes. limit < length bytes)

-- never longer than the limit, whether or not the files are told
abbrev pub IsWithin : ℕ → Fetch → Type 0
IsWithin limit (Bytes bytes) = length bytes ≤ limit
IsWithin limit Absent = Unit {0}
IsWithin limit TooLong = Unit {0}
