use Rattle.std.proofs.Common.{arith, sym, subst, length, ◌+◌, ◌≡◌, ◌≤◌, ◌⊎◌, ℕ}
use Rattle.ifl_ring.specs.Calls.{IsTotal}
use Rattle.ifl_ring.proofs.Settling.{total_more, continues, ends}
use Rattle.ifl_ring.proofs.bare.BareRing.take_turn.Goals as goal

pub offer-k-requires-clause-some : goal.offer-k-requires-clause-some
offer-k-requires-clause-some g c κs within = c.requires.going.1.1

pub offer-k-requires-clause-consuming : goal.offer-k-requires-clause-consuming
offer-k-requires-clause-consuming g c κs within = c.requires.going.0

pub returns-clause-less : goal.returns-clause-less
returns-clause-less g c = λ go. let some = (c.goes_on.ensures.yes go).0 in let less = c.offer-k.ensures.less in omega arith

pub returns-clause-turn : goal.returns-clause-turn
returns-clause-turn g c = λ x total is goes. let o = c.offer-k.ensures.consuming x in let n : ℕ = c.args.round.now.count in let k : ℕ = c.offer-k.result.0 in
    let few = c.offer-k.ensures.count in let less = c.offer-k.ensures.less in
    let t : IsTotal c.saturating_add-total.result (x.consumer.total + (n + k)) = subst (λ (z : ℕ × ℕ). IsTotal z.0 z.1) (λ i. (sym c.saturating_add-total.ensures i, (let e : x.consumer.total + n + k ≡ x.consumer.total + (n + k) = omega arith in e) i)) (total_more c.args.round.now.total (x.consumer.total + n) k total) in
    let long : c.len.result ≡ length c.offer-k.new.batch.items = omega arith in (
      o.0,
      o.1,
      t,
      (λ go. let y = c.goes_on.ensures.yes go in continues k n (c.offer-k.result.2 + length c.offer-k.new.batch.items) c.saturating_add-total.result c.args.budget x.consumer few (omega arith) y.2 y.3 c.requires.at.1 t is),
      (λ stop. ends c.is_none-stalled.result (g.D.Drainer.full c.offer-k.new.drainer) k n (c.args.round.now.left + length c.args.batch.now.items) (c.offer-k.result.2 + length c.offer-k.new.batch.items) c.saturating_add-total.result c.args.budget x.consumer
          c.is_none-stalled.ensures.yes c.is_none-stalled.ensures.no c.offer-k.ensures.full few goes (omega arith) (subst (λ (z : ℕ). (k ≡ 0) ⊎ (c.offer-k.result.2 + z ≡ 0) ⊎ (64 ≤ n + k) ⊎ (c.args.budget ≤ c.saturating_add-total.result)) long (c.goes_on.ensures.no stop)) t is),
    )
