-- What stands in the files that a run writes.
use Rattle.std.specs.Prelude.{◌≡◌, ◌≢◌, ◌⊎◌, ℕ, List, Some}
use Rattle.ifl_outside.specs.Files.{Files, held, SameBut}
use Rattle.ifl_engine.specs.declared.report.Report.{Report}
use Rattle.ifl_engine.specs.declared.stop.Stop.{Stop}
use Rattle.ifl_engine.specs.declared.stop.Stop.TheVariants as stop
use Rattle.ifl_engine.specs.Words.{Named}
use Rattle.ifl_engine.specs.Texts.{order_text_of}

-- the wire file and the order file hold exactly these bytes, and every other file is as before
pub record IsWritten (names : Named) (r : Report) (old new : Files) : Type 0 where
  pub wire : held new names.wire ≡ Some r.wire
  pub order : held new names.order ≡ Some (order_text_of r.order r.away)
  pub others : (q : List ℕ) → q ≢ names.wire → q ≢ names.order → held new q ≡ held old q

-- after a stop of writing: the wire file stands whole, or the order file was not touched; and no other file has changed
pub record IsStanding (names : Named) (r : Report) (old new : Files) : Type 0 where
  pub in_turn : (held new names.wire ≡ Some r.wire) ⊎ (held new names.order ≡ held old names.order)
  pub others : (q : List ℕ) → q ≢ names.wire → q ≢ names.order → held new q ≡ held old q

-- what a stop of writing left: the earlier writes stand whole, no later one was made, and no other file has changed
abbrev pub IsLeft : Named → Report → Stop → Files → Files → Type 0
IsLeft names r stop.WireFailed old new = SameBut names.wire old new
IsLeft names r stop.OrderFailed old new = (names.wire ≢ names.order → held new names.wire ≡ Some r.wire) × ((q : List ℕ) → q ≢ names.wire → q ≢ names.order → held new q ≡ held old q)
IsLeft names r stop.PrintFailed old new = IsWritten names r old new
IsLeft names r stop.Memory old new = (q : List ℕ) → q ≢ names.wire → q ≢ names.order → held new q ≡ held old q
IsLeft names r e old new = ⊥
