use Rattle.ifl_ringcore.proofs.Wording.{no_name}
use Rattle.ifl_ringcore.proofs.line.event_named.Goals as goal

pub returns-in-Err : goal.returns-in-Err
returns-in-Err c = no_name c.args.name.now c.args.seat c.args.n c.in-Err.ensures.cases.0
