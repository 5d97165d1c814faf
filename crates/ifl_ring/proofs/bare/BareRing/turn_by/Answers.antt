use Rattle.std.proofs.Common.{arith, ap, ◌∙◌, ◌<◌, length}
use Rattle.atomic_table.specs.Table.{turned}
use Rattle.ifl_ring.proofs.Strings.{turned_once}
use Rattle.ifl_ring.proofs.bare.BareRing.turn_by.Goals as goal

pub loop-preserved : goal.loop-preserved
loop-preserved g c = let i = c.loop.invariant in let e = c.turn.ensures.2 in let most = c.requires.count in let f : c.loop.counter < length c.args.seat.now.me.1 = omega arith in
    (c.turn.ensures.0 ∙ i.0, c.turn.ensures.1 ∙ i.1, ap (λ z. z.0) e ∙ i.2, ap (λ z. z.1) e ∙ (ap turned i.3 ∙ turned_once c.loop.counter c.args.seat.now.me.1 f))
