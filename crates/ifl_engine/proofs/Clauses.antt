-- What holds of an answer whichever account it goes by.
use Rattle.std.proofs.Common.{◌≡◌, ◌≢◌, ◌⊎◌, ℕ, Bool, true, false, cond, List, Option, Some, None, Result, Ok, Err, refl, arith, inl, inr}
use Rattle.std.specs.Prelude.{IfSome, IsNone}
use Rattle.ifl_outside.specs.Causes.{Rose}
use Rattle.ifl_pcap.specs.declared.frame.Frame.{Frame}
use Rattle.ifl_engine.specs.declared.report.Report.{Report}
use Rattle.ifl_engine.specs.declared.report.Finished.{Finished}
use Rattle.ifl_engine.specs.declared.stop.Stop.{Stop}
use Rattle.ifl_engine.specs.Words.{Named}
use Rattle.ifl_engine.specs.Loading.{Chosen}
use Rattle.ifl_engine.specs.Wanted.{Work, sending, tracing}
use Rattle.ifl_engine.specs.Report.{IsGood}
use Rattle.ifl_engine.specs.Seen.{Seen}
use Rattle.ifl_engine.specs.Account.{Source, IsAccount, gave}
use Rattle.ifl_engine.specs.Tracing.{IsReplay, IsLegalSchedule}
use Rattle.ifl_ringcore.specs.Trace.{is_legal}
use Rattle.ifl_outside.specs.Files.{Files, held}
use Rattle.ifl_engine.specs.declared.stop.Input.{Input}
use Rattle.ifl_engine.specs.Answer.{IfSending, CallsFor, IsStatus, IsRefusal, IsAnswer}

sending_refused : (w : Result Work Stop) (status : ℕ) (P : Chosen → List (List Frame) → Type 0) → IfSending w P → IsStatus w status → IsRefusal status → ⊥
sending_refused (Ok (sending names settings captures)) status P h is refusal = elim is [ inl zero ↦ refusal.no_success zero | inr other ↦ elim other [ inl six ↦ refusal.no_want six | inr five ↦ refusal.no_failure five.0 ] ]
sending_refused (Ok (tracing schedule)) status P h is refusal = h
sending_refused (Err why) status P h is refusal = h

no_report : (w : Result Work Stop) (status : ℕ) (report : Option Report) → IfSome report (λ r. IfSending w (λ settings captures. IsGood settings captures r)) → IsStatus w status → IsRefusal status → report ≡ None
no_report w status None good is refusal = refl
no_report w status (Some r) good is refusal = absurd (sending_refused w status (λ settings captures. IsGood settings captures r) good is refusal)

-- after a refusal there is no report, and no file was written
pub refused : (names : Named) (w : Result Work Stop) (before after : Seen) (result : Finished) → IsAnswer names w before after result → IsRefusal result.status → (result.report ≡ None) × (after.files ≡ before.files)
refused names w before after result h refusal =
    let none = no_report w result.status result.report h.good h.status refusal in
    (none, h.untouched (rw none refl))

pub failed : (names : Named) (w : Result Work Stop) (before after : Seen) (result : Finished) → IsAnswer names w before after result → result.status ≡ 5 → Rose before.faults after.faults
failed names w before after result h = h.failed

pub untouched : (names : Named) (w : Result Work Stop) (before after : Seen) (result : Finished) → IsAnswer names w before after result → IsNone result.report → after.files ≡ before.files
untouched names w before after result h = h.untouched

-- without a fault an account is what the host tells
pub told_files : (fs : Files) (source : Source) (before after : ℕ) → ¬ Rose before after → IsAccount (Some fs) (Rose before after) source → (which : Input) (name : List ℕ) → source which name ≡ gave (held fs name)
told_files fs source before after steady h which name = elim (h.told which name) [ inl is ↦ absurd (steady (h.blamed which name is)) | inr is ↦ is ]

-- without a fault the status is the one that is called for, or that of memory
pub complete : (names : Named) (w : Result Work Stop) (before after : Seen) (result : Finished) → IsAnswer names w before after result → ¬ Rose before.faults after.faults → CallsFor w result.status ⊎ (result.status ≡ 6)
complete names w before after result h steady = elim h.status [ inl is ↦ inl is | inr other ↦ elim other [ inl six ↦ inr six | inr five ↦ absurd (steady (h.failed five.0)) ] ]

unreported_by : (why : Stop) (report : Option Report) → IfSome report (λ r. IfSending (Err why) (λ settings captures. IsGood settings captures r)) → report ≡ None
unreported_by why None good = refl
unreported_by why (Some r) good = absurd good

-- what stops a run before its frames are sent leaves no report
pub unreported : (names : Named) (why : Stop) (before after : Seen) (result : Finished) → IsAnswer names (Err why) before after result → result.report ≡ None
unreported names why before after result h = unreported_by why result.report h.good

-- a replay ends with 0 or 9
traced : (b : Bool) (status : ℕ) → status ≡ cond b 0 9 → status ≢ 5
traced true status is = λ five. absurd (omega (arith, is, five))
traced false status is = λ five. absurd (omega (arith, is, five))

no_five : (schedule text : List ℕ) (status : ℕ) → IsReplay schedule text status → status ≢ 5
no_five schedule text status h = elim h [ inl t ↦ traced (is_legal t.schedule) status t.ends | inr b ↦ λ five. absurd (omega (arith, b.ends, five)) ]

-- a schedule's status is 5 only where it is legal
pub legal_at_five : (names : Named) (schedule : List ℕ) (before after : Seen) (result : Finished) → IsAnswer names (Ok (tracing schedule)) before after result → result.status ≡ 5 → IsLegalSchedule schedule
legal_at_five names schedule before after result h five = elim h.status [ inl is ↦ absurd (no_five schedule is.0 result.status is.1 five) | inr other ↦ elim other [ inl six ↦ absurd (omega (arith, five, six)) | inr output ↦ output.1 ] ]
