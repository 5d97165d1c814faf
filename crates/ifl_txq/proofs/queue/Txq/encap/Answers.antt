use Rattle.ifl_txq.specs.Queue.{QueueSees, queue_of}
use Rattle.ifl_txq.proofs.Chains.{has_segments}
use Rattle.ifl_txq.proofs.Encapping.{few_clusters, posts_queue}
use Rattle.ifl_txq.proofs.queue.Txq.encap.Goals as goal

pub cat-requires : goal.cat-requires
cat-requires g c = few_clusters c.compact-freed.result c.clusters_of.result c.compact-freed.new.chain c.into_parts-chain.result.2 c.compact-freed.ensures.clusters c.compact-freed.ensures.short c.clusters_of.ensures

pub invariant_of-self : goal.invariant_of-self
invariant_of-self g c =
    let a : QueueSees = queue_of (g.R.DriverSide.ring c.self.inside.ring.now) c.self.inside.port.now c.self.inside.pool.now c.self.inside.max_segs c.self.inside.doorbell_every (g.R.DriverSide.driver_sees c.self.inside.driver) c.self.inside.reader c.self.inside.pass c.self.inside.log in
    let p = c.post_chain-count.ensures.posted in
    posts_queue a c.self.invariant c.into_parts-chain.result.0 c.into_parts-chain.result.1 c.compact-freed.new.chain p.0 (g.R.DriverSide.driver_sees c.post_chain-count.new.driver) p.2 (has_segments c.compact-freed.new.chain c.into_parts-chain.result.2 c.compact-freed.ensures.bytes c.into_parts-chain.ensures.some) p.3 c.post_chain-count.ensures.lawful

pub returns-clause-lawful : goal.returns-clause-lawful
returns-clause-lawful g c = invariant_of-self g c
