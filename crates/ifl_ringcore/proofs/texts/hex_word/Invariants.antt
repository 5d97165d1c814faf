use Rattle.std.proofs.Common.{◌≡◌, ◌≤◌, ◌++◌, length, drop}
use Rattle.ifl_ringcore.specs.Texts.{hex_digits}
use Rattle.ifl_ringcore.proofs.texts.hex_word.Given as goal

-- the digits behind i are those of the number, and the rest makes those before
abbrev pub invariant-loop-i : goal.invariant-loop-i
invariant-loop-i l = (l.i ≤ 16) × (length l.digits ≡ 16) × (hex_digits 16 l.fn.word ≡ hex_digits l.i l.rest ++ drop l.i l.digits)

abbrev pub decreases-loop-i : goal.decreases-loop-i
decreases-loop-i l = l.i
