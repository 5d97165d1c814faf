-- What is seen of a host at a moment.
use Rattle.std.specs.Prelude.{ℕ, List, Option}
use Rattle.ifl_outside.specs.Files.{Files}

-- its count of faults, and the files and the printed bytes where it tells them
pub record Seen : Type 0 where
  pub faults : ℕ
  pub files : Option Files
  pub printed : Option (List ℕ)

abbrev pub seen : {H : Type 0} → (H → ℕ) → (H → Option Files) → (H → Option (List ℕ)) → H → Seen
seen faults files printed h = record { faults = faults h; files = files h; printed = printed h }
