-- Parts of equal size, of which the last may be shorter.
use Rattle.std.specs.Prelude.{ℕ, ◌+◌, ◌-◌, ◌/◌}

-- how many parts of this size something falls into
abbrev pub parts : ℕ → ℕ → ℕ
parts whole part = (whole + part - 1) / part
