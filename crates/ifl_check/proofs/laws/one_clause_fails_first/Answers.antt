use Rattle.ifl_check.proofs.Verdicts.{verdict-once, verdict-never}
use Rattle.ifl_check.proofs.laws.one_clause_fails_first.Goals as goal

pub returns-clause-one : goal.returns-clause-one
returns-clause-one c = verdict-once

pub returns-clause-never_both : goal.returns-clause-never_both
returns-clause-never_both c = verdict-never
