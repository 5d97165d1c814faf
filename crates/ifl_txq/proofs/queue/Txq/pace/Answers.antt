use Rattle.std.proofs.Common.{◌+◌, ◌≤◌, ◌<◌, refl, subst}
use Rattle.ifl_txq.specs.Queue.{QueueSees, IsQueue}
use Rattle.ifl_txq.specs.Steps.{RangOnce}
use Rattle.ifl_txq.proofs.Boarding.{paced_on, paced_off}
use Rattle.ifl_txq.proofs.queue.Txq.pace.Goals as goal

pub returns-then-now-every-clause-paced : goal.returns-then-now-every-clause-paced
returns-then-now-every-clause-paced g c =
    paced_on c.args.self.now c.args.unrung (c.args.unrung + 1) refl (subst (λ (z : QueueSees). c.args.unrung + 1 < z.doorbell_every) c.self.view_is c.if-now-every.true)

pub returns-clause-paced : goal.returns-clause-paced
returns-clause-paced g c =
    let r : RangOnce c.args.self.now c.ring_bell.new.self = c.ring_bell.ensures.rang in
    paced_off c.args.self.now c.ring_bell.new.self c.args.unrung (subst IsQueue c.self.view_is c.self.invariant) c.requires
    (subst (λ (z : QueueSees). z.doorbell_every ≤ c.args.unrung + 1) c.self.view_is c.if-now-every.false) r
