-- How the program ends.
use Rattle.std.specs.Prelude.{ℕ, List, Option}
use Rattle.ifl_outside.specs.Causes.{Rose}
use Rattle.ifl_engine.specs.declared.report.Report.{Report}
use Rattle.ifl_engine.specs.Seen.{Seen}
use Rattle.ifl_engine.specs.Account.{ForAccount}
use Rattle.ifl_engine.specs.Wanted.{wanted}
use Rattle.ifl_engine.specs.FaultLines.{names_in}
use Rattle.ifl_engine.specs.Answer.{IsAnswer}

-- the program ends with this status: it is that of the answer to these words, whatever the report
abbrev pub EndsWith : List (List ℕ) → Seen → Seen → ℕ → Type 0
EndsWith words before after status = (report : Option Report)
    × ForAccount before.files (Rose before.faults after.faults) (λ source. IsAnswer (names_in words) (wanted words source) before after (record { status = status; report = report }))
