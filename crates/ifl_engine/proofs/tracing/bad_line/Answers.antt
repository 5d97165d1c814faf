use Rattle.std.proofs.Common.{rules}
use Rattle.ifl_ringcore.specs.Texts.{fault_line}
use Rattle.ifl_engine.proofs.tracing.bad_line.Goals as goal

pub returns : goal.returns
unfolding fault_line
returns c = search rules
