-- A host in memory: what it holds, which of its calls are to fail, and how many were made.
use Rattle.std.specs.Prelude.{ℕ, ◌+◌, ◌-◌, ◌^◌, ◌++◌, ◌==◌, min, Bool, if◌then◌else◌, List, []}
use Rattle.std.specs.List.{list_any}
use Rattle.ifl_outside.specs.Files.{Files, put}

pub record MemoryState : Type 0 where
  pub files : Files
  -- the numbers of the calls that are to fail
  pub failing : List ℕ
  -- how many calls were made
  pub calls : ℕ
  pub faults : ℕ
  pub printed : List ℕ

-- a host of which nothing was asked yet
abbrev pub fresh : Files → List ℕ → MemoryState
fresh files failing = record { files = files; failing = failing; calls = 0; faults = 0; printed = [] }

-- the next call is to fail
abbrev pub is_failing : MemoryState → Bool
is_failing s = list_any (λ n. n == s.calls) s.failing

-- a count that stands still at the end of its type
abbrev pub counted : ℕ → ℕ
counted n = min (n + 1) (2 ^ 64 - 1)

-- a call was made
abbrev pub after_call : MemoryState → MemoryState
after_call s = record s { calls = counted s.calls }

-- a call was made and has failed: nothing else has changed
abbrev pub after_failure : MemoryState → MemoryState
after_failure s = record s { calls = counted s.calls; faults = counted s.faults }

-- a call of `write` was made: where it succeeded the file holds the bytes, else the files are as before
abbrev pub after_write : Bool → List ℕ → List ℕ → MemoryState → MemoryState
after_write succeeded name bytes s = record s { files = if succeeded then put name bytes s.files else s.files; calls = counted s.calls }

-- a call of `print` was made: where it succeeded the bytes are appended
abbrev pub after_print : Bool → List ℕ → MemoryState → MemoryState
after_print succeeded bytes s = record s { printed = if succeeded then s.printed ++ bytes else s.printed; calls = counted s.calls }

-- a host that never fails
pub record SteadyState : Type 0 where
  pub files : Files
  pub printed : List ℕ
