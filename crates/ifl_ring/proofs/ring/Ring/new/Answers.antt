use Rattle.std.proofs.Common.{sym, ap}
use Rattle.ifl_ring.proofs.Opens.{opens_with}
use Rattle.ifl_ring.proofs.ring.Ring.new.Goals as goal

pub new-requires : goal.new-requires
new-requires g c =
    opens_with g.D.Item.RingItem.meaning g.D.Drainer.origin g.D.Drainer.settled g.D.Drainer.full g.D.Drainer.stands_for record { size = c.args.size; origin = g.D.Drainer.origin c.of.result.value } c.args.drainer c.in-Ok.slots.items c.if-size-lt-RING_MIN.false c.in-Ok.ensures.ok c.requires.0 c.requires.1 (ap g.D.Drainer.origin (sym c.of.ensures))

pub drainer_of-requires : goal.drainer_of-requires
drainer_of-requires g c = (c.args.size, c.args.drainer, rw c.in-Err-new.ensures.err c.in-Ok.ensures.ok)

pub returns-clause-drainer : goal.returns-clause-drainer
returns-clause-drainer g c = c.drainer_of.ensures c.args.size c.args.drainer (rw c.in-Err-new.ensures.err c.in-Ok.ensures.ok)
