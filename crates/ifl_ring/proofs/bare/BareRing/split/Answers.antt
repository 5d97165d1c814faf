use Rattle.std.proofs.Common.{rules, ap}
use Rattle.ifl_ring.proofs.Seats.{splits, names_cut}
use Rattle.ifl_ring.proofs.bare.BareRing.split.Goals as goal

pub split_seat-new-requires : goal.split_seat-new-requires
split_seat-new-requires g c = (c.requires.table, search rules, splits g.D.Item.RingItem.meaning g.D.Drainer.origin g.D.Drainer.settled g.D.Drainer.full g.D.Drainer.stands_for _ _ _ c.requires.part c.requires.rest.1)

pub load-requires : goal.load-requires
load-requires g c = let e = c.split_seat-new.ensures.4 in (search rules, search rules, names_cut g.D.Item.RingItem.meaning g.D.Drainer.origin g.D.Drainer.settled g.D.Drainer.full g.D.Drainer.stands_for _ _ _ _ c.args.seat.now.me.0 (ap (λ z. z.0) e) c.requires.part)
