use Rattle.std.proofs.Common.{◌≡◌, ◌≤◌, ◌*◌, length, take}
use Rattle.std.specs.Prelude.{sum_by}
use Rattle.ifl_engine.proofs.gathering.frame_count.Given as goal

abbrev pub invariant-loop-capture : goal.invariant-loop-capture
invariant-loop-capture l = record { counted : l.count ≡ sum_by (λ c. length c.frames) (take l.capture-index l.captures); few : l.count ≤ 4194304 * l.capture-index }
