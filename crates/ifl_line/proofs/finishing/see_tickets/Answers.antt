use Rattle.ifl_line.proofs.Listing.{small_next}
use Rattle.ifl_line.proofs.finishing.see_tickets.Goals as goal

pub loop-index-preserved : goal.loop-index-preserved
loop-index-preserved c = small_next c.args.order.now c.loop-index.index _ c.loop-index-test.true c.loop-index.invariant c.see_ticket.ensures
