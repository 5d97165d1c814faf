use Rattle.std.specs.VecDeque.{deque_capacity}
use Rattle.ifl_ring.specs.declared.place.Place.TheVariants.{Vacant, Post}
use Rattle.std.proofs.Common.{ℕ, ◌≡◌, arith, ap, ◌∙◌, ◌+◌, ◌≤◌, ◌++◌, ◌∷◌, [], replicate}
use Rattle.ifl_ring.proofs.Opens.{replicate_snoc}
use Rattle.ifl_ring.proofs.bare.slots.make_slots.Goals as goal

pub loop-preserved : goal.loop-preserved
loop-preserved g c = (rw c.push_reserved.ensures.items (rw c.loop.invariant.0 (replicate_snoc _ _)), c.push_reserved.ensures.len ∙ ap (λ z. z + 1) c.loop.invariant.1, rw c.push_reserved.ensures.capacity c.loop.invariant.2)

pub returns-clause-ok : goal.returns-clause-ok
returns-clause-ok g c = let many = c.in-Ok-with_capacity.ensures.capacity in let room = c.batch_room.ensures in let all : c.loop.counter ≡ c.args.size = omega arith in (
  c.in-Ok-new.outlet,
  c.push_reserved-2.ensures.items ∙ ap (λ z. z ++ Post c.in-Ok-new.outlet ∷ []) (c.loop.invariant.0 ∙ ap (λ (k : ℕ). replicate k Vacant) all),
  ap (λ z. z.drainer) c.in-Ok-new.ensures.ok,
  ap (λ z. z.batch.items) c.in-Ok-new.ensures.ok ∙ c.in-Ok-with_capacity.ensures.items,
  rw c.in-Ok-new.ensures.ok (let f : 32 ≤ deque_capacity c.in-Ok-with_capacity.batch = omega arith in f),
  rw c.in-Ok-new.ensures.ok (let f : c.args.size ≤ deque_capacity c.in-Ok-with_capacity.batch = omega arith in f),
)
