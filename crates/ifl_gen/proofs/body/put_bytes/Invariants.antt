use Rattle.std.proofs.Common.{◌≡◌, ◌*◌, ◌++◌}
use Rattle.ifl_gen.specs.Frames.{bytes_by}
use Rattle.ifl_gen.proofs.body.put_bytes.Given as goal

abbrev pub invariant-loop-turn : goal.invariant-loop-turn
invariant-loop-turn l = l.out.items ≡ l.initial.out.items ++ bytes_by l.x (256 * l._turn)
