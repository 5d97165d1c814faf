-- A run that was cut short: what stopped it, and what was printed by then.
use Rattle.std.specs.Prelude.{◌≡◌, ◌+◌, ◌-◌, ◌^◌, ◌≤◌, ◌⊎◌, ℕ, min, List, [], ◌++◌, take, Option, Result, Ok, Err, IfSome, IsSome, IsSomeAnd}
use Rattle.ifl_outside.specs.Told.{BothTold}
use Rattle.ifl_engine.specs.declared.report.Report.{Report}
use Rattle.ifl_engine.specs.declared.report.Finished.{Finished}
use Rattle.ifl_engine.specs.declared.stop.Stop.{Stop}
use Rattle.ifl_engine.specs.declared.stop.Stop.TheVariants as stop
use Rattle.ifl_engine.specs.Words.{Named}
use Rattle.ifl_engine.specs.Seen.{Seen}
use Rattle.ifl_engine.specs.Left.{IsLeft}
use Rattle.ifl_engine.specs.Texts.{counter_text_of}
use Rattle.ifl_engine.specs.Tracing.{IsReplay, IsLegalSchedule}
use Rattle.ifl_engine.specs.Wanted.{Work, sending, tracing}
use Rattle.ifl_engine.specs.Status.{status_of}
use Rattle.ifl_engine.specs.FaultLines.{line_of}

-- the count of faults has risen twice, or stands at the end of its type
abbrev pub RoseTwice : ℕ → ℕ → Type 0
RoseTwice before now = min (before + 2) (2 ^ 64 - 1) ≤ now

-- what a run prints at its end: its counters, or the replay of its schedule
abbrev pub IsEnding : Result Work Stop → Option Report → List ℕ → Type 0
IsEnding (Ok (sending names settings captures)) report text = IsSomeAnd report (λ r. text ≡ counter_text_of names.ring r.plain r.ring)
IsEnding (Ok (tracing schedule)) report text = (status : ℕ) × IsReplay schedule text status
IsEnding (Err why) report text = ⊥

-- what a run puts out at its end can fail: the files and counters of frames that were sent, and the print of a replay
-- whose every event is legal; a bad schedule keeps its own status
abbrev pub HasOutput : Result Work Stop → Type 0
HasOutput (Ok (sending names settings captures)) = Unit {0}
HasOutput (Ok (tracing schedule)) = IsLegalSchedule schedule
HasOutput (Err why) = ⊥

-- a write or a print failed
abbrev pub IsOfOutput : Stop → Type 0
IsOfOutput stop.WireFailed = Unit {0}
IsOfOutput stop.OrderFailed = Unit {0}
IsOfOutput stop.PrintFailed = Unit {0}
IsOfOutput e = ⊥

-- an output of the run failed: without a report nothing was written, and only a replay was printed
abbrev pub IsOutputStop : Result Work Stop → Option Report → Stop → Type 0
IsOutputStop (Ok (sending names settings captures)) report why = IsSome report × IsOfOutput why
IsOutputStop (Ok (tracing schedule)) report why = IsLegalSchedule schedule × (why ≡ stop.PrintFailed)
IsOutputStop (Err e) report why = ⊥

-- what stopped the run: what is called for, or want of memory, or an output of its own
abbrev pub IsStopOf : Result Work Stop → Option Report → Stop → Type 0
IsStopOf work report why = (work ≡ Err why) ⊎ ((why ≡ stop.Memory) ⊎ IsOutputStop work report why)

-- a stop that a print may give
abbrev pub IsOfPrint : Stop → Type 0
IsOfPrint why = (why ≡ stop.PrintFailed) ⊎ (why ≡ stop.Memory)

-- the beginning of a text, which was printed if its print was the call that did not succeed
abbrev pub IsBegun : Stop → (List ℕ → Type 0) → List ℕ → Type 0
IsBegun why Text part = (part ≡ []) ⊎ (IsOfPrint why × (text : List ℕ) × Text text × (k : ℕ) × (part ≡ take k text))

-- the beginning of what was to be printed at the end, and behind it the beginning of the fault line, or all of it
pub record IsBroken (names : Named) (Ending : List ℕ → Type 0) (why : Stop) (Whole : Type 0) (was now : List ℕ) : Type 0 where
  pub part : List ℕ
  pub begun : IsBegun why Ending part
  pub line : List ℕ
  pub begins : (k : ℕ) × (line ≡ take k (line_of names why))
  pub whole : Whole → line ≡ line_of names why
  pub printed : now ≡ was ++ (part ++ line)

-- some stop ended the run, or there was no memory to tell of it
pub record IsCutShort (names : Named) (work : Result Work Stop) (before after : Seen) (result : Finished) : Type 0 where
  pub why : Stop
  pub status : (result.status ≡ status_of why) ⊎ (result.status ≡ 6)
  pub here : IsStopOf work result.report why
  -- what stands in the files is what that stop leaves
  pub left : IfSome result.report (λ r. BothTold before.files after.files (IsLeft names r why))
  -- where the host failed once only, the fault line was printed whole
  pub printed : BothTold before.printed after.printed (IsBroken names (IsEnding work result.report) why ((result.status ≡ 5) × ¬ RoseTwice before.faults after.faults))
