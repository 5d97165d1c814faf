-- A count of faults that has risen between two moments has risen between an earlier one and a later one.
use Rattle.std.proofs.Common.{ℕ, ◌≤◌, arith}
use Rattle.ifl_outside.specs.Causes.{Rose}

pub risen : (a b c : ℕ) → Rose a b → b ≤ c → Rose a c
risen a b c h le = omega arith

pub risen_late : (a b c : ℕ) → a ≤ b → Rose b c → Rose a c
risen_late a b c le h = omega arith
