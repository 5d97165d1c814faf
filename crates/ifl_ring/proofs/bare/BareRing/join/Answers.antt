use Rattle.std.proofs.Common.{rules, ap, ◌∙◌, subst, ℕ}
use Rattle.ifl_ring.specs.Seats.{Joined}
use Rattle.ifl_ring.proofs.Bridge.{sized}
use Rattle.ifl_ring.proofs.Seats.{joins, meets_both, met_joined, met_rests}
use Rattle.ifl_ring.proofs.bare.BareRing.join.Goals as goal

pub join_seat-requires : goal.join_seat-requires
join_seat-requires g c = (
  c.requires.table.0,
  c.requires.table.1,
  c.requires.rest.1.2,
  search rules,
  joins g.D.Item.RingItem.meaning g.D.Drainer.origin g.D.Drainer.settled g.D.Drainer.full g.D.Drainer.stands_for _ _ _ _ _ c.requires.rest.0.0 c.requires.rest.0.1 c.requires.rest.1.0 c.requires.rest.1.1,
)

pub load-requires : goal.load-requires
load-requires g c = (search rules, search rules, meets_both g.D.Item.RingItem.meaning g.D.Drainer.origin g.D.Drainer.settled g.D.Drainer.full g.D.Drainer.stands_for _ _ _ _ c.args.seat.now.me.0 c.args.other.me.0 (ap (λ z. z.0) c.join_seat.ensures.2) c.requires.rest.0.0)

pub returns-clause-rest : goal.returns-clause-rest
returns-clause-rest g c = (met_rests _ c.args.seat.now.me.0 c.args.other.me.0 _ _ (ap (λ z. z.0) c.join_seat.ensures.2) c.load.ensures.2.2 c.requires.rest.0.0, c.load.ensures.2.0.0, c.load.ensures.2.1 ∙ ap (λ z. z.1) c.join_seat.ensures.2 ∙ c.requires.rest.0.2)

pub returns-clause-both : goal.returns-clause-both
returns-clause-both g c = subst (λ (z : ℕ). Joined z c.args.seat.now.me.0.known c.args.other.me.0.known c.load.new.seat.me.0.known) (sized _ _ c.args.self.now.sized.1) (met_joined _ c.args.seat.now.me.0 c.args.other.me.0 _ _ (ap (λ z. z.0) c.join_seat.ensures.2) c.load.ensures.2.2)
