use Rattle.std.proofs.Common.{◌∙◌, ◌++◌, [], refl, arith}
use Rattle.ifl_line.proofs.Stepping.{kicks-more, stepped_more, stepped_none}
use Rattle.ifl_line.proofs.working.work.Goals as goal

pub loop-init : goal.loop-init
loop-init g c = (c.requires.own, refl, ([], stepped_none _, tt), c.requires.ready.0, c.requires.ready.1, omega arith)

pub loop-preserved : goal.loop-preserved
loop-preserved g c = let i = c.loop.invariant in let t = c.tend-moved.ensures.only in (
  c.tend-moved.ensures.own,
  c.tend-moved.ensures.part ∙ i.1,
  (i.2.0 ++ t.0, stepped_more _ _ _ i.2.0 t.0 i.2.1 t.1, kicks-more i.2.0 t.0 i.2.2 t.2),
  c.tend-moved.ensures.ready.0,
  c.tend-moved.ensures.ready.1,
  omega arith,
)

pub returns-then-line-clause-only : goal.returns-then-line-clause-only
returns-then-line-clause-only g c = ([], stepped_none _, tt)
