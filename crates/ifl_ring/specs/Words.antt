-- Numbers that are words of a ring.
use Rattle.std.specs.Prelude.{◌≡◌, ℕ}
use Rattle.ifl_base.specs.Word.{pack}
use Rattle.ifl_ringcore.specs.State.{RingState, ring_word}

-- the word is that of some state
abbrev pub IsWordOf : ℕ → ℕ → Type 0
IsWordOf size n = (st : RingState) × (n ≡ pack (ring_word size st))
