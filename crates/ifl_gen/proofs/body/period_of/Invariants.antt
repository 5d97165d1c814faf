use Rattle.std.proofs.Common.{◌≡◌, ℕ, ◌<◌, length, get_or}
use Rattle.ifl_gen.specs.Frames.{byte_by}
use Rattle.ifl_gen.proofs.body.period_of.Given as goal

abbrev pub invariant-loop-i : goal.invariant-loop-i
invariant-loop-i l = (length l.period ≡ 256) × ((k : ℕ) → k < l.i → get_or l.period k 0 ≡ byte_by l.x k)
