-- Places of a ring, counted modulo its size.
use Rattle.std.specs.Prelude.{ℕ, ◌+◌, ◌-◌, ◌%◌, eqb, ltb, cond}
use Rattle.ifl_base.specs.declared.word.RingWord.{RingWord}

-- how many more items may be reserved, and one
abbrev pub space : ℕ → RingWord → ℕ
space size w = cond (eqb w.cidx w.head) (size - 1) (cond (ltb w.head w.cidx) (w.cidx - w.head - 1) (size - 1 - w.head + w.cidx))

-- the place n places on
abbrev pub advanced : ℕ → ℕ → ℕ → ℕ
advanced size place n = (place + n) % size
