-- What may stand in a line under the settings.
use Rattle.std.specs.Prelude.{◌≡◌, true, List}
use Rattle.std.specs.List.{All}
use Rattle.ifl_base.specs.declared.fate.Fate.{Fate}
use Rattle.ifl_base.specs.declared.fate.Fate.TheVariants as fate
use Rattle.ifl_base.specs.declared.fate.Away.{Away}
use Rattle.ifl_base.specs.declared.fate.Away.TheVariants as away
use Rattle.ifl_check.specs.declared.line.Line.{Line}
use Rattle.ifl_check.specs.declared.terms.Terms.{Terms}

-- reset only where the adapter hangs, flush only where the stop flushes
abbrev pub MayBefall : Terms → Fate → Type 0
MayBefall terms fate.Wire = Unit {0}
MayBefall terms fate.TooManySegments = Unit {0}
MayBefall terms fate.Reset = terms.hangs ≡ true
MayBefall terms fate.Flush = terms.flushes ≡ true

-- a want of clusters or of buffers only where such frames are dropped
abbrev pub MayTurnAway : Terms → Away → Type 0
MayTurnAway terms away.Runt = Unit {0}
MayTurnAway terms away.Oversize = Unit {0}
MayTurnAway terms away.NoClusters = terms.drops ≡ true
MayTurnAway terms (away.NoBuffers w) = terms.drops ≡ true

pub record AreAllowed (terms : Terms) (accepted : List (Line Fate)) (turned : List (Line Away)) : Type 0 where
  pub fates : All (λ l. MayBefall terms l.what) accepted
  pub reasons : All (λ l. MayTurnAway terms l.what) turned
