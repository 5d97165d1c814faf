use Rattle.std.proofs.Common.{◌+◌, length, refl}
use Rattle.ifl_line.proofs.Joining.{sent_join}
use Rattle.ifl_line.proofs.laws.two_parts_are_one.Goals as goal

pub returns : goal.returns
returns c = λ size r s files others turned away xs ys zs n m a b merged. sent_join size r s (s + length files) files others turned away xs ys zs n m refl a b merged
