use Rattle.ifl_desc.proofs.Lengths.{lengths_in_order}
use Rattle.ifl_desc.proofs.laws.the_five_lengths_are_in_order.Goals as goal

pub returns : goal.returns
returns c = λ size h d v e k w. lengths_in_order size h d v e k w
