-- The words by which frames were refused.
use Rattle.std.specs.Prelude.{◌≤◌, List}
use Rattle.std.specs.List.{All}
use Rattle.ifl_base.specs.declared.fate.Away.{Away}
use Rattle.ifl_base.specs.declared.fate.Away.TheVariants as away
use Rattle.ifl_base.specs.Space.{space}
use Rattle.ifl_base.specs.Word.{IsWithin}
use Rattle.ifl_check.specs.declared.line.Line.{Line}
use Rattle.ifl_check.specs.declared.terms.Terms.{Terms}

-- the word is that of a ring of this size, and leaves no room for one frame
abbrev pub IsFullRing : Terms → Away → Type 0
IsFullRing terms away.Runt = Unit {0}
IsFullRing terms away.Oversize = Unit {0}
IsFullRing terms away.NoClusters = Unit {0}
IsFullRing terms (away.NoBuffers w) = IsWithin terms.ring_size w × (space terms.ring_size w ≤ 1)

abbrev pub AreFullRings : Terms → List (Line Away) → Type 0
AreFullRings terms turned = All (λ l. IsFullRing terms l.what) turned
