-- The flag that a consumer sets where it shows how far it has come.
use Rattle.std.specs.Prelude.{Bool, ◌&&◌, eqb, cond, not}
use Rattle.ifl_base.specs.declared.word.RingWord.{RingWord}
use Rattle.ifl_base.specs.declared.word.Flag.{Flag}
use Rattle.ifl_base.specs.declared.word.Flag.TheVariants.{Idle, Busy, Abdicated}

-- idle where all that was published is released; abdicated where the budget is spent and others are about to publish; else busy
abbrev pub flag_after : RingWord → Bool → Flag
flag_after w over = cond (eqb w.cidx w.tail) Idle (cond (over && not (eqb w.tail w.head)) Abdicated Busy)
