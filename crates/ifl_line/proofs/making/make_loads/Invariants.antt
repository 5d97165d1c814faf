use Rattle.std.proofs.Common.{◌≡◌, ◌+◌, ◌≤◌, ◌++◌, length}
use Rattle.std.specs.Prelude.{vec_len, vec_capacity}
use Rattle.std.specs.Vec.Iter.{into_iter_items, into_iter_len}
use Rattle.ifl_line.specs.Loads.{AreLoads, loaded}
use Rattle.ifl_line.specs.Works.{AreFew}
use Rattle.ifl_line.proofs.making.make_loads.Given as goal

abbrev pub invariant-loop-capture : goal.invariant-loop-capture
invariant-loop-capture l = (l.yielded ++ into_iter_items l.capture-iterator ≡ into_iter_items l.initial.capture-iterator)
    × (into_iter_len l.capture-iterator ≡ length (into_iter_items l.capture-iterator))
    × AreFew (into_iter_items l.capture-iterator)
    × AreLoads 0 l.loads.items
    × (loaded l.loads.items ≡ l.yielded)
    × (l.number ≡ length l.loads.items)
    × (l.number + length (into_iter_items l.capture-iterator) ≤ 16)
    × (vec_len l.loads + length (into_iter_items l.capture-iterator) ≤ vec_capacity l.loads)
