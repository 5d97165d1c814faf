use Rattle.std.proofs.Common.{◌≡◌, ◌≤◌, [], ◌∷◌, List, Option, Some, None, refl, sym, ap, subst, arith}
use Rattle.ifl_base.specs.declared.fate.Fate.{Fate}
use Rattle.ifl_base.specs.declared.fate.Fate.TheVariants as fate
use Rattle.ifl_txq.specs.declared.line.Line.{Line}
use Rattle.ifl_txq.specs.declared.tally.Tally.{Tally}
use Rattle.ifl_txq.specs.Log.{LogSees, AreTold}
use Rattle.ifl_txq.specs.Tallies.{counted, tally_after, tally_of}
use Rattle.ifl_reset.proofs.tests.leave.Goals as goal

aboard-counted : (t : Tally) (f : Option Fate) → t.aboard ≤ (counted t f).aboard
aboard-counted t None = omega arith
aboard-counted t (Some fate.Wire) = omega arith
aboard-counted t (Some fate.TooManySegments) = omega arith
aboard-counted t (Some fate.Reset) = omega arith
aboard-counted t (Some fate.Flush) = omega arith

aboard-tally_after : (t : Tally) (ls : List Line) → t.aboard ≤ (tally_after t ls).aboard
aboard-tally_after t [] = omega arith
aboard-tally_after t (l ∷ ls) = omega (arith, aboard-counted t l.fate, aboard-tally_after (counted t l.fate) ls)

told-counted : (t : Tally) (f : Option Fate) → (counted t f).aboard ≤ 0 → (x : Fate) × (f ≡ Some x)
told-counted t None h = absurd (omega arith)
told-counted t (Some x) h = (x, refl)

-- where no packet is aboard, each has its fate
told-tally_after : (t : Tally) (ls : List Line) → (tally_after t ls).aboard ≤ 0 → AreTold ls
told-tally_after t [] h = tt
told-tally_after t (l ∷ ls) h = (told-counted t l.fate (omega (arith, aboard-tally_after (counted t l.fate) ls)), told-tally_after (counted t l.fate) ls h)

told-tally_of : (ls : List Line) → (tally_of ls).aboard ≤ 0 → AreTold ls
told-tally_of ls h = told-tally_after (record { packets = 0; wire = 0; too_many_segments = 0; reset = 0; flush = 0; aboard = 0 }) ls h

pub into_lines-requires : goal.into_lines-requires
into_lines-requires g c = subst AreTold (ap (λ (z : LogSees). z.lines) (sym c.close-pass.ensures.log)) (told-tally_of c.args.queue.log.lines (omega (arith, ap (λ (t : Tally). t.aboard) c.tally.ensures.value)))
