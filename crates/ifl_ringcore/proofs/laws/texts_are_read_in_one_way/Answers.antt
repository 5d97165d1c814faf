use Rattle.ifl_ringcore.proofs.OneReading.{one-schedule, one-line, schedule-or-line}
use Rattle.ifl_ringcore.proofs.laws.texts_are_read_in_one_way.Goals as goal

pub returns-clause-schedule : goal.returns-clause-schedule
returns-clause-schedule c = one-schedule

pub returns-clause-line : goal.returns-clause-line
returns-clause-line c = one-line

pub returns-clause-either : goal.returns-clause-either
returns-clause-either c = schedule-or-line
