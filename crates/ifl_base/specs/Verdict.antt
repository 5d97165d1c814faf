-- What a frame of a length is: a runt below 14 bytes, oversize above the largest frame, else fit.
use Rattle.std.specs.Prelude.{ℕ, if◌then◌else◌, nat_lt}
use Rattle.ifl_base.specs.declared.judged.Judged.{Judged}
use Rattle.ifl_base.specs.declared.judged.Judged.TheVariants.{Runt, Oversize, Fit}

abbrev pub verdict_of : ℕ → ℕ → Judged
verdict_of len max_frame = if nat_lt len 14 then Runt else (if nat_lt max_frame len then Oversize else Fit)
