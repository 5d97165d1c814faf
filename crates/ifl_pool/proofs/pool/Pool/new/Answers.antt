use Rattle.std.proofs.Common.{◌≡◌, ◌+◌, ℕ, length, arith, sym, ap, refl, subst, ◌∙◌}
use Rattle.std.proofs.lemmas.List.{length-reverse}
use Rattle.std.proofs.lemmas.List.FromFn.{length-range_with_len}
use Rattle.ifl_pool.specs.declared.moves.Moved.{Moved}
use Rattle.ifl_pool.specs.declared.word.View.{View}
use Rattle.ifl_pool.specs.Ledger.{first_view}
use Rattle.ifl_pool.specs.Queue.{first_moved, IsIdle}
use Rattle.ifl_pool.proofs.Knowing.{first_pass}
use Rattle.ifl_pool.proofs.pool.Pool.new.Goals as goal

-- the first pass of a pool whose queue was filled
idle_first : (size : ℕ) (v : View) (m : Moved) → v ≡ first_view size → m ≡ record first_moved { filled = 0 + size } → IsIdle v m
idle_first size v m is moved = subst (λ (z : View × Moved). IsIdle z.0 z.1) (λ i. (sym is i, sym moved i))
    (let first : IsIdle (first_view size) (record first_moved { filled = 0 + size }) = record { pass = first_pass size; part = refl; filled = omega arith; pops = refl; pushes = refl } in first)

pub invariant_of-pool : goal.invariant_of-pool
invariant_of-pool g c = let all : length c.in_ok-clusters.clusters.items ≡ c.args.n = ap length c.in_ok-clusters.ensures ∙ length-range_with_len 0 c.args.n in
    let ok = c.in_ok-clusters.clusters.ok in let size = c.in_ok-word.ensures.word in let same = c.fill.ensures.clusters.1 in let kept = c.reverse.ensures.capacity in
    (c.fill.ensures.clusters.0, omega arith)

pub invariant_of-result : goal.invariant_of-result
invariant_of-result g c = let all : length c.in_ok-clusters.clusters.items ≡ c.args.n = ap length c.in_ok-clusters.ensures ∙ length-range_with_len 0 c.args.n in
    let first = c.in_ok-queue.ensures.3 in
    let reversed : length c.reverse.new.self.items ≡ c.args.n = ap length c.reverse.ensures.items ∙ length-reverse c.in_ok-clusters.clusters.items ∙ all in
    (idle_first c.args.n _ _ (ap (λ z. z.0) c.in_ok-word.ensures.seat.1) (c.fill.ensures.filled ∙ (λ i. record (first i) { filled = (first i).filled + reversed i })), ap (λ z. z.1) c.in_ok-word.ensures.seat.1, c.fill.ensures.pass.2 ∙ c.in_ok-queue.ensures.1.1)
