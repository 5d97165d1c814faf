-- The numbers from which frames are made: a linear congruential generator of 64 bits.
use Rattle.std.specs.Prelude.{ℕ, zero, suc, ◌+◌, ◌*◌, ◌^◌, ◌%◌}

-- one step
unfoldable pub stepped : ℕ → ℕ
stepped x = (6364136223846793005 * x + 1442695040888963407) % 2 ^ 64

-- what so many steps make of a number
abbrev pub after_steps : ℕ → ℕ → ℕ
after_steps zero x = x
after_steps (suc n) x = stepped (after_steps n x)

-- what a sender begins with
abbrev pub first_state : ℕ → ℕ → ℕ
first_state seed sender = (seed + sender) % 2 ^ 64
