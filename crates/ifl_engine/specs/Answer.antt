-- What a run answers, and what it does to its host.
use Rattle.std.specs.Prelude.{◌≡◌, ◌≢◌, ◌≤◌, ◌⊎◌, ℕ, List, ◌++◌, take, Option, Result, Ok, Err, IfSome, IsSome, IsNone}
use Rattle.ifl_outside.specs.Told.{BothTold}
use Rattle.ifl_outside.specs.Causes.{Rose}
use Rattle.ifl_pcap.specs.declared.frame.Frame.{Frame}
use Rattle.ifl_engine.specs.declared.report.Report.{Report}
use Rattle.ifl_engine.specs.declared.report.Finished.{Finished}
use Rattle.ifl_engine.specs.declared.stop.Stop.{Stop}
use Rattle.ifl_engine.specs.declared.stop.WordsWhy.{WordsWhy}
use Rattle.ifl_engine.specs.Words.{Named, Asked}
use Rattle.ifl_engine.specs.Loading.{Chosen}
use Rattle.ifl_engine.specs.Report.{IsGood}
use Rattle.ifl_engine.specs.Left.{IsWritten, IsStanding}
use Rattle.ifl_engine.specs.Seen.{Seen}
use Rattle.ifl_engine.specs.CutShort.{HasOutput, IsCutShort}
use Rattle.ifl_engine.specs.Texts.{counter_text_of}
use Rattle.ifl_engine.specs.Tracing.{IsReplay}
use Rattle.ifl_engine.specs.Wanted.{Work, sending, tracing}
use Rattle.ifl_engine.specs.Status.{status_of}
use Rattle.ifl_engine.specs.FaultLines.{line_of}

-- where frames are to be sent, P of the settings and of their captures; and they are
abbrev pub IfSending : Result Work Stop → (Chosen → List (List Frame) → Type 0) → Type 0
IfSending (Ok (sending names settings captures)) P = P settings captures
IfSending (Ok (tracing schedule)) P = ⊥
IfSending (Err why) P = ⊥

-- a run that sends has a report at its end, one that replays a schedule has none, and nothing else ends well
abbrev pub IsReported : Result Work Stop → Option Report → Type 0
IsReported (Ok (sending names settings captures)) report = IsSome report
IsReported (Ok (tracing schedule)) report = IsNone report
IsReported (Err why) report = ⊥

-- the words and the files call for this status
abbrev pub CallsFor : Result Work Stop → ℕ → Type 0
CallsFor (Ok (sending names settings captures)) status = status ≡ 0
CallsFor (Ok (tracing schedule)) status = (text : List ℕ) × IsReplay schedule text status
CallsFor (Err why) status = status ≡ status_of why

-- the status that is called for, unless memory ran out or an output of the run failed
abbrev pub IsStatus : Result Work Stop → ℕ → Type 0
IsStatus work status = CallsFor work status ⊎ ((status ≡ 6) ⊎ ((status ≡ 5) × HasOutput work))

-- a refusal: the words, the files or the schedule are at fault, and neither the host nor memory
pub record IsRefusal (status : ℕ) : Type 0 where
  pub no_success : status ≢ 0
  pub no_failure : status ≢ 5
  pub no_want : status ≢ 6

-- words that are refused have status 1, and no others do
abbrev pub IsByWords : Result Asked WordsWhy → ℕ → Type 0
IsByWords (Ok command) status = status ≢ 1
IsByWords (Err e) status = (status ≡ 1) ⊎ (status ≡ 6)

pub record IsDone (names : Named) (r : Report) (before after : Seen) : Type 0 where
  pub files : BothTold before.files after.files (IsWritten names r)
  pub printed : BothTold before.printed after.printed (λ was now. now ≡ was ++ counter_text_of names.ring r.plain r.ring)

-- what is printed besides the counters: the fault line that is called for, or the replay of that status
abbrev pub Tells : Named → Result Work Stop → ℕ → Option (List ℕ) → Option (List ℕ) → Type 0
Tells names (Ok (sending _ settings captures)) status was now = Unit {0}
Tells names (Ok (tracing schedule)) status was now = BothTold was now (λ was now. (text : List ℕ) × IsReplay schedule text status × (now ≡ was ++ text))
Tells names (Err why) status was now = BothTold was now (λ was now. now ≡ was ++ line_of names why)

-- what a replay of that status printed, whether or not the host failed: all of it at status 0, and else its beginning
abbrev pub IsReplayed : Result Work Stop → ℕ → Option (List ℕ) → Option (List ℕ) → Type 0
IsReplayed (Ok (sending names settings captures)) status was now = Unit {0}
IsReplayed (Ok (tracing schedule)) status was now = (text : List ℕ) × IsReplay schedule text status
    × (status ≡ 0 → BothTold was now (λ was now. now ≡ was ++ text))
    × BothTold was now (λ was now. (k : ℕ) × (now ≡ was ++ take k text))
IsReplayed (Err why) status was now = Unit {0}

-- the answer to what is wanted, under these names
pub record IsAnswer (names : Named) (work : Result Work Stop) (before after : Seen) (result : Finished) : Type 0 where
  -- each status has its cause
  pub status : IsStatus work result.status
  pub later : before.faults ≤ after.faults
  pub failed : result.status ≡ 5 → Rose before.faults after.faults
  -- a report is good, wherever there is one, and at status 0 there is one where frames were to be sent
  pub good : IfSome result.report (λ r. IfSending work (λ settings captures. IsGood settings captures r))
  pub there : result.status ≡ 0 → IsReported work result.report
  -- what stands in the files and what was printed
  pub done : result.status ≡ 0 → IfSome result.report (λ r. IsDone names r before after)
  -- what a stop of writing left
  pub left : IfSome result.report (λ r. BothTold before.files after.files (IsStanding names r))
  -- without a report no file was written
  pub untouched : IsNone result.report → after.files ≡ before.files
  -- a fault line is printed
  pub told : result.status ≢ 5 → result.status ≢ 6 → Rose before.faults after.faults ⊎ Tells names work result.status before.printed after.printed
  -- a replay that was not cut short was printed
  pub replayed : result.status ≢ 5 → result.status ≢ 6 → IsReplayed work result.status before.printed after.printed
  -- what was printed by a run that was cut short
  pub stopped : result.status ≢ 0 → result.status ≢ 9 → IsCutShort names work before after result
