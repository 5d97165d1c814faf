use Rattle.ifl_txq.proofs.Boarding.{next_posted}
use Rattle.ifl_txq.proofs.queue.Txq.send_next.Goals as goal

pub returns-in-Posted-clause-sent : goal.returns-in-Posted-clause-sent
returns-in-Posted-clause-sent g c =
    next_posted c.args.self.now c.send.new.self c.pace.new.self c.args.batch.now.items c.pop_front.new.self.items c.in_ok-item.item c.args.unrung c.pace.result c.in_ok-item.ensures.items c.in-Posted.ensures.sent c.pace.ensures.paced
