use Rattle.std.proofs.Common.{◌∙◌}
use Rattle.atomic_table.specs.Table.{turned}
use Rattle.ifl_ring.proofs.Offering.{post_first, begun}
use Rattle.ifl_ring.proofs.bare.BareRing.begin.Goals as goal

pub take_post-out-requires-clause-slot : goal.take_post-out-requires-clause-slot
take_post-out-requires-clause-slot g c κs within = post_first g.D.Item.RingItem.meaning g.D.Drainer.origin g.D.Drainer.settled g.D.Drainer.stands_for _ _ _ _ c.requires.drives

pub returns-clause-consuming : goal.returns-clause-consuming
returns-clause-consuming g c = begun g.D.Item.RingItem.meaning g.D.Drainer.origin g.D.Drainer.settled g.D.Drainer.stands_for _ _ _ _ _ _ c.take_post-out.ensures.result (c.turn.ensures.2 ∙ (λ i. ((c.take_post-out.ensures.away i).0, turned (c.take_post-out.ensures.away i).1)))
