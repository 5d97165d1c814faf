use Rattle.std.proofs.Common.{◌+◌, ◌-◌, ◌%◌, ap, suc, ℕ, ◌∙◌}
use Rattle.ifl_desc.specs.declared.history.Side.TheVariants.{Driver}
use Rattle.ifl_desc.specs.History.{known, uncounted}
use Rattle.ifl_generation.specs.Generation.{entries, read}
use Rattle.ifl_generation.proofs.Laps.{bit_of}
use Rattle.ifl_generation.proofs.laws.an_entry_bears_the_generation_of_a_returned_frame.Goals as goal

pub returns : goal.returns
returns c = λ S words h j t small. (
  λ there. ap (λ (w : ℕ). w % 2) (t.returned j there) ∙ bit_of S (read h + j) (((known Driver h + entries (suc j) (uncounted h)) - 1) % S),
  λ past. t.others j past small,
)
