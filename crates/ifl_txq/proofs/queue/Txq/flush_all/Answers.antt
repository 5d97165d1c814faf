use Rattle.std.proofs.Common.{subst, arith}
use Rattle.ifl_txq.specs.Queue.{IsQueue}
use Rattle.ifl_txq.proofs.Loops.{flushing_new, flushing_more}
use Rattle.ifl_txq.proofs.queue.Txq.flush_all.Goals as goal

pub loop-item-init : goal.loop-item-init
loop-item-init g c = (flushing_new c.args.self.now c.args.batch.now.items (subst IsQueue c.self.view_is c.self.invariant), (omega arith))

pub loop-item-preserved : goal.loop-item-preserved
loop-item-preserved g c = let i = c.loop-item.invariant in let e = c.in-Some.ensures.capacity in let r = i.1 in (
  flushing_more c.args.self.now c.loop-item.self c.flush_one.new.self c.args.batch.now.items c.loop-item.batch.items c.pop_front.new.self.items c.in-Some.item c.loop-item.count i.0 c.in-Some.ensures.items c.flush_one.ensures.took c.flush_one.ensures.driver c.flush_one.ensures.lawful,
  (omega arith),
)
