use Rattle.std.proofs.Common.{◌≡◌, ◌≤◌, ◌*◌, length, take}
use Rattle.std.specs.Prelude.{sum_by}
use Rattle.ifl_engine.proofs.gathering.byte_count.Given as goal

abbrev pub invariant-loop-file : goal.invariant-loop-file
invariant-loop-file l = record { counted : l.count ≡ sum_by (λ f. length f.items) (take l.file-index l.files); few : l.count ≤ 67108864 * l.file-index }
