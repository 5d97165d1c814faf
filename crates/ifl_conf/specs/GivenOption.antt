-- What an option of the code is.
use Rattle.std.specs.Prelude.{string_bytes}
use Rattle.ifl_conf.specs.Front.{Given}
use Rattle.ifl_conf.specs.declared.front.GivenOption.{GivenOption}

-- an option that was written, without where it lies in memory
abbrev pub given : GivenOption → Given
given g = (g.name, string_bytes g.value)
