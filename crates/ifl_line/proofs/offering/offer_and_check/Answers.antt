use Rattle.std.proofs.Common.{◌++◌}
use Rattle.ifl_line.proofs.Stepping.{stepped_more, turned-before, went_stepped}
use Rattle.ifl_line.proofs.offering.offer_and_check.Goals as goal

pub returns-clause-offered : goal.returns-clause-offered
returns-clause-offered g c = let a = c.in_ok-seen.ensures.offered in let b = c.check_drainage.ensures.answer in (
  a.0 ++ b.0,
  stepped_more _ _ _ a.0 b.0 a.1 (went_stepped _ _ _ _ b.1),
  turned-before _ c.in_ok-seen.seen a.0 b.0 a.2 b.3,
)
