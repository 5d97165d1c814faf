-- The ring's word as one number.
use Rattle.std.specs.Prelude.{ℕ, ◌+◌, ◌*◌, ◌^◌, ◌<◌, List, codes}
use Rattle.ifl_base.specs.declared.word.RingWord.{RingWord}
use Rattle.ifl_base.specs.declared.word.Flag.{Flag}
use Rattle.ifl_base.specs.declared.word.Flag.TheVariants.{Idle, Busy, Stalled, Abdicated}

-- the number of a flag
abbrev pub number_of : Flag → ℕ
number_of Idle = 0
number_of Busy = 1
number_of Stalled = 2
number_of Abdicated = 3

-- the name of a flag in texts
abbrev pub name_of : Flag → List ℕ
name_of Idle = codes "idle"
name_of Busy = codes "busy"
name_of Stalled = codes "stalled"
name_of Abdicated = codes "abdicated"

-- head, tail and cidx in 16 bits each, lowest first, and then the flag
unfoldable pub pack : RingWord → ℕ
pack w = w.head + w.tail * 2 ^ 16 + w.cidx * 2 ^ 32 + number_of w.flag * 2 ^ 48

-- the word's places are places of a ring of this size
abbrev pub IsWithin : ℕ → RingWord → Type 0
IsWithin size w = (w.head < size) × (w.tail < size) × (w.cidx < size)
