-- What contracts see of a ring and of its seats.
use Rattle.std.specs.Prelude.{◌≡◌, ℕ, ◌<◌, ◌≤◌, ◌⊎◌}
use Rattle.atomic_table.specs.Seated.{TableId}
use Rattle.ifl_ring.specs.declared.answers.RingFault.{RingFault}
use Rattle.ifl_ring.specs.declared.answers.RingFault.TheVariants.{BadSize, Memory}
use Rattle.ifl_ring.specs.declared.view.Known.{Known}

-- which ring it is, how many places it has, and with what its drainer was made
pub record RingSeen (O : Type 0) : Type 0 where
  pub table : TableId
  pub size : ℕ
  pub origin : O

-- of which ring a seat is, and what it knows
pub record SeatState : Type 0 where
  pub table : TableId
  pub known : Known

-- a size out of range is the fault, and memory is none where it is
abbrev pub IsFaultOf : ℕ → RingFault → Type 0
IsFaultOf size (BadSize n) = (n ≡ size) × ((size < 4) ⊎ (65536 < size))
IsFaultOf size Memory = (4 ≤ size) × (size ≤ 65536)
