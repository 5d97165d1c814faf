use Rattle.std.proofs.Common.{rules, ap, sym, ◌∙◌, subst, length, map, ℕ}
use Rattle.ifl_ring.specs.Calls.{IsEnqueued}
use Rattle.ifl_ring.specs.declared.view.Known.{Known}
use Rattle.ifl_ring.proofs.Tallying.{tally-risen}
use Rattle.ifl_ring.proofs.ring.Ring.enqueue.Goals as goal

pub enqueue-requires-clause-rest : goal.enqueue-requires-clause-rest
enqueue-requires-clause-rest g c κs within = c.seat.invariant.0

pub returns-clause-answer : goal.returns-clause-answer
returns-clause-answer g c = let t = c.enqueue.ensures.went in (
  t.0,
  search rules,
  subst (λ (z : ℕ). IsEnqueued z c.args.budget c.args.abdicate (length c.args.items.now.items) (map g.D.Item.RingItem.meaning c.args.items.now.items) c.enqueue.result t.0) (ap (λ z. z.size) c.self.view_is) t.2,
)

pub invariant_of-seat : goal.invariant_of-seat
invariant_of-seat g c = let t = c.enqueue.ensures.went in (c.enqueue.ensures.rest, c.seat.invariant.1 ∙ ap (λ (z : Known). z.part) (sym t.3.0.is), c.seat.invariant.2, tally-risen _ _ _ _ _ _ t.0 c.seat.invariant.3 t.3 t.4)
