use Rattle.std.proofs.Common.{◌≡◌, ◌+◌, length}
use Rattle.std.specs.Prelude.{vec_capacity}
use Rattle.crossbeam_queue.specs.Passes.{view, IsSamePass}
use Rattle.ifl_pool.proofs.queue.fill.Given as goal

abbrev pub invariant-loop-cluster : goal.invariant-loop-cluster
invariant-loop-cluster g l = IsSamePass l.initial.pass l.pass × (vec_capacity l.clusters ≡ vec_capacity l.initial.clusters)
    × ((view l.pass).filled + length l.clusters.items ≡ (view l.initial.pass).filled + length l.initial.clusters.items) × (view l.pass ≡ record (view l.initial.pass) { filled = (view l.pass).filled })

abbrev pub decreases-loop-cluster : goal.decreases-loop-cluster
decreases-loop-cluster g l = length l.clusters.items
