use Rattle.std.proofs.Common.{arith}
use Rattle.ifl_engine.proofs.Schedules.{length-events}
use Rattle.ifl_engine.proofs.tracing.replay_of.Goals as goal

pub replay-requires-clause-lines : goal.replay-requires-clause-lines
replay-requires-clause-lines c = omega (arith, length-events c.args.file.now c.in-Ok.schedule c.in-Ok.ensures.ok, c.requires)
