use Rattle.std.proofs.Common.{subst, sym, arith, ◌≤◌, ◌≡◌, ◌⊎◌, ◌+◌, List, []}
use Rattle.ifl_desc.specs.Ends.{room_of}
use Rattle.ifl_txq.specs.declared.item.Item.{Item}
use Rattle.ifl_txq.specs.Queue.{QueueSees, IsQueue}
use Rattle.ifl_txq.proofs.Loops.{sending_new, sending_more, sending_still, ends_rung, ends_quiet}
use Rattle.ifl_txq.proofs.queue.Txq.send_all.Goals as goal

pub loop-now-init : goal.loop-now-init
loop-now-init g c = (sending_new c.args.self.now c.args.batch.now.items (subst IsQueue c.self.view_is c.self.invariant) c.requires.settled, (omega arith))

pub loop-now-preserved : goal.loop-now-preserved
loop-now-preserved g c = let i = c.loop-now.invariant in let r = i.1 in let e = c.send_next.ensures.room in (
  sending_more c.args.self.now c.loop-now.self c.send_next.new.self c.args.batch.now.items c.loop-now.batch.items c.send_next.new.batch.items c.loop-now.count c.loop-now.unrung c.in-Some.now i.0 c.in-Some.ensures.sent c.send_next.ensures.lawful,
  (omega arith),
)

pub returns-then-unrung-gt0-clause-sent : goal.returns-then-unrung-gt0-clause-sent
returns-then-unrung-gt0-clause-sent g c = let n = c.in_default.ensures.sent in
    let s = sending_still c.args.self.now c.loop-now.self c.send_next.new.self c.args.batch.now.items c.loop-now.batch.items c.send_next.new.batch.items c.loop-now.count c.loop-now.unrung c.loop-now.invariant.0 n.0 n.1 in
    let stops : (c.send_next.new.batch.items ≡ []) ⊎ (room_of c.send_next.new.self.driver ≤ c.send_next.new.self.max_segs + 2) = subst (λ (z : QueueSees × List Item). (z.1 ≡ []) ⊎ (room_of z.0.driver ≤ z.0.max_segs + 2)) (λ i. (sym n.0 i, sym n.1 i)) n.2 in
    ends_rung c.args.self.now c.send_next.new.self c.ring_bell.new.self c.args.batch.now.items c.send_next.new.batch.items c.loop-now.count c.loop-now.unrung (subst IsQueue c.self.view_is c.self.invariant) s stops c.if-unrung-gt0.true c.ring_bell.ensures.rang

pub returns-else-unrung-gt0-clause-sent : goal.returns-else-unrung-gt0-clause-sent
returns-else-unrung-gt0-clause-sent g c = let n = c.in_default.ensures.sent in
    let s = sending_still c.args.self.now c.loop-now.self c.send_next.new.self c.args.batch.now.items c.loop-now.batch.items c.send_next.new.batch.items c.loop-now.count c.loop-now.unrung c.loop-now.invariant.0 n.0 n.1 in
    let stops : (c.send_next.new.batch.items ≡ []) ⊎ (room_of c.send_next.new.self.driver ≤ c.send_next.new.self.max_segs + 2) = subst (λ (z : QueueSees × List Item). (z.1 ≡ []) ⊎ (room_of z.0.driver ≤ z.0.max_segs + 2)) (λ i. (sym n.0 i, sym n.1 i)) n.2 in
    let none = c.if-unrung-gt0.false in
    ends_quiet c.args.self.now c.send_next.new.self c.send_next.new.self c.args.batch.now.items c.send_next.new.batch.items c.loop-now.count c.loop-now.unrung (subst IsQueue c.self.view_is c.self.invariant) s stops (omega arith)
