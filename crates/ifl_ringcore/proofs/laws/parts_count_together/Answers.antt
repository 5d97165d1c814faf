use Rattle.ifl_ringcore.proofs.Counting.{counters_among-others}
use Rattle.ifl_ringcore.proofs.laws.parts_count_together.Goals as goal

pub returns : goal.returns
returns c = counters_among-others
