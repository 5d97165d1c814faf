use Rattle.ifl_gen.proofs.Records.{length_by-least, length_by-most, length_by-each}
use Rattle.ifl_gen.proofs.laws.lengths_are_60_to_1514.Goals as goal

pub returns-clause-least : goal.returns-clause-least
returns-clause-least c = length_by-least

pub returns-clause-most : goal.returns-clause-most
returns-clause-most c = length_by-most

pub returns-clause-each : goal.returns-clause-each
returns-clause-each c = length_by-each
