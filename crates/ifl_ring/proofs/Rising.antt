-- How a tally rises.
use Rattle.std.proofs.Common.{sym, ap, ◌∙◌}
use Rattle.ifl_ringcore.specs.declared.counters.Counters.{Counters}
use Rattle.ifl_ringcore.specs.Counters.{nothing_counted, plus, capped}
use Rattle.ifl_ringcore.proofs.Counting.{plus-assoc, plus-nothing}
use Rattle.ifl_ring.specs.Tally.{TallyRises}

-- a tally that is left alone
pub rises-nothing : (a : Counters) → TallyRises nothing_counted a a
rises-nothing a counted is = is ∙ ap capped (sym (plus-nothing counted))

-- one rise after another
pub rises-plus : (x y a b c : Counters) → TallyRises x a b → TallyRises y b c → TallyRises (plus x y) a c
rises-plus x y a b c first second counted is = second (plus counted x) (first counted is) ∙ ap capped (plus-assoc counted x y)
