use Rattle.ifl_check.proofs.Cutting.{cut-at, cut-none}
use Rattle.ifl_check.proofs.parts.cut.Goals as goal

pub returns-in-Some-clause-some : goal.returns-in-Some-clause-some
returns-in-Some-clause-some c = let t = cut-at c.args.at c.in-Some.i c.args.text.now c.in-Some.ensures in (t.1, t.2)

pub returns-in-None-clause-none : goal.returns-in-None-clause-none
returns-in-None-clause-none c = cut-none c.args.at c.args.text.now c.in-None.ensures
