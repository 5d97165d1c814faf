use Rattle.std.proofs.Common.{length}
use Rattle.ifl_ringcore.specs.Reading.{HasRead}
use Rattle.ifl_ringcore.proofs.reading.read_schedule.Given as goal

abbrev pub invariant-loop-rest : goal.invariant-loop-rest
invariant-loop-rest l = HasRead l.text l.size l.seats l.events l.rest l.line

abbrev pub decreases-loop-rest : goal.decreases-loop-rest
decreases-loop-rest l = length l.rest
