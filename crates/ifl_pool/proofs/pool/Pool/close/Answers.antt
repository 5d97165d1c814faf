use Rattle.std.proofs.Common.{ℕ, ◌+◌, ◌≡◌, ◌∙◌, ap, sym, subst, arith}
use Rattle.ifl_pool.specs.declared.known.Known.{Known}
use Rattle.ifl_pool.specs.Pools.{PoolId, PassState, IsClosedPool}
use Rattle.ifl_pool.proofs.pool.Pool.close.Goals as goal

pub close-count-requires-clause-own : goal.close-count-requires-clause-own
close-count-requires-clause-own g c = let same = ap (λ (z : PassState). z.pool) c.pass.view_is ∙ c.requires.own ∙ sym c.self.view_is in (ap (λ (z : PoolId). z.word) same, ap (λ (z : PoolId). z.size) same)

pub gather-requires-clause-room : goal.gather-requires-clause-room
gather-requires-clause-room g c = let within = c.close-count.ensures.within in let room = c.self.invariant.1 in (c.self.invariant.0, omega arith)

pub returns-clause-lawful : goal.returns-clause-lawful
returns-clause-lawful g c = let last = ap (λ (z : PassState). z.known) (c.pass.view_is ∙ sym c.of-last.ensures) in
    subst (λ (z : ℕ × Known × ℕ). IsClosedPool z.0 z.1.seen z.2) (λ i. (sym c.size-size.ensures i, last i, sym c.gather.ensures.count i)) c.close-count.ensures.closed

pub invariant_of-result : goal.invariant_of-result
invariant_of-result g c = let within = c.close-count.ensures.within in let size = c.size-size.ensures in let count = c.gather.ensures.count in let fits = c.size-size.type_inv in
    (omega arith, omega arith, returns-clause-lawful g c)

pub returns-clause-count : goal.returns-clause-count
returns-clause-count g c = let known = ap (λ (z : PassState). z.known) c.pass.view_is in let size = ap (λ (z : PoolId). z.size) c.self.view_is in
    subst (λ (z : ℕ × Known × ℕ). z.2 + z.1.counts.taken ≡ z.0 + z.1.counts.given) (λ i. (size i, known i, sym c.gather.ensures.count i)) c.close-count.ensures.balance
