use Rattle.std.proofs.Common.{subst}
use Rattle.ifl_base.specs.declared.word.Flag.{Flag}
use Rattle.ifl_ring.specs.Tells.{MayPart}
use Rattle.ifl_ring.proofs.bare.BareRing.give.Goals as goal

pub go_on-requires-clause-parked : goal.go_on-requires-clause-parked
go_on-requires-clause-parked g c κs within = let p = c.requires.parked in (p.0, subst (λ (z : Flag). MayPart c.args.self.now.size z c.args.n p.0.consumer c.args.w.now) (c.is_busy.ensures.yes c.if-is_busy.true) p.1)
