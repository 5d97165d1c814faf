use Rattle.ifl_txq.proofs.Draining.{begun}
use Rattle.ifl_txq.proofs.queue.Txq.begin.Goals as goal

pub returns-clause-begun : goal.returns-clause-begun
returns-clause-begun g c = begun c.args.self.now c.reclaim.new.self c.look.new.self c.look.result c.reclaim.ensures.origin c.reclaim.ensures.stands c.reclaim.ensures.did c.look.ensures.looked
