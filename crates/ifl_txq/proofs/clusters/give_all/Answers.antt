use Rattle.std.proofs.Common.{◌≡◌, ℕ, ap, subst, arith, length, ◌+◌}
use Rattle.ifl_txq.specs.Calls.{Gave}
use Rattle.ifl_txq.proofs.Loops.{gave_none, gave_both}
use Rattle.ifl_txq.proofs.clusters.give_all.Goals as goal

pub loop-cluster-init : goal.loop-cluster-init
loop-cluster-init g c = (0, (omega arith), gave_none c.args.pass.now)

pub loop-cluster-preserved : goal.loop-cluster-preserved
loop-cluster-preserved g c = let i = c.loop-cluster.invariant in let n = i.1 in let l = ap length c.in-Some.ensures in
    (i.0 + 1, (omega arith), gave_both i.0 1 c.args.pass.now c.loop-cluster.pass c.give_one.new.pass i.2 c.give_one.ensures)

pub returns : goal.returns
returns g c = let i = c.loop-cluster.invariant in let n = i.1 in let l = ap length c.in_default.ensures.0 in
    let e : i.0 ≡ length c.args.freed = omega arith in subst (λ (z : ℕ). Gave z c.args.pass.now c.loop-cluster.pass) e i.2
