-- What a call does to its host is what it does from an earlier moment on, if the host was only read since.
use Rattle.std.proofs.Common.{◌≡◌, ℕ, ◌≤◌, List, Option, Some, None, Result, Ok, sym, ap, subst, ◌∙◌, arith, inl, inr}
use Rattle.std.specs.Prelude.{IfSome}
use Rattle.ifl_engine.specs.declared.stop.Input.TheVariants as input
use Rattle.ifl_engine.specs.declared.report.Report.{Report}
use Rattle.ifl_engine.specs.declared.report.Finished.{Finished}
use Rattle.ifl_engine.specs.declared.stop.Stop.{Stop}
use Rattle.ifl_engine.specs.Words.{Named, send, trace}
use Rattle.ifl_engine.specs.Account.{Source}
use Rattle.ifl_engine.specs.Loading.{Load, file_at, read_of}
use Rattle.ifl_engine.specs.Wanted.{Work, sending, tracing, work_of}
use Rattle.ifl_engine.specs.FaultLines.{names_asked}
use Rattle.ifl_engine.specs.Seen.{Seen}
use Rattle.ifl_engine.specs.Answer.{IsDone, Tells, IsReplayed, IsAnswer}
use Rattle.ifl_engine.proofs.CutShort.{moved}
use Rattle.ifl_engine.proofs.Risen.{risen_late}
use Rattle.ifl_engine.proofs.Stopping.{as_work, as_replay}

done_since : (names : Named) (before mid after : Seen) (o : Option Report) → mid.files ≡ before.files → mid.printed ≡ before.printed → IfSome o (λ r. IsDone names r mid after) → IfSome o (λ r. IsDone names r before after)
done_since names before mid after None files printed h = tt
done_since names before mid after (Some r) files printed h = record { files = rw files at h.files; printed = rw printed at h.printed }

pub since : (names : Named) (w : Result Work Stop) (before mid after : Seen) (result : Finished) → mid.files ≡ before.files → mid.printed ≡ before.printed → before.faults ≤ mid.faults → IsAnswer names w mid after result → IsAnswer names w before after result
since names w before mid after result files printed later h = record {
  status = h.status;
  later = omega (arith, h.later);
  failed = λ five. risen_late before.faults mid.faults after.faults later (h.failed five);
  good = h.good;
  there = h.there;
  done = λ zero. done_since names before mid after result.report files printed (h.done zero);
  left = rw files at h.left;
  untouched = λ none. h.untouched none ∙ files;
  told = λ b c. elim (h.told b c) [
    | inl rose ↦ inl (risen_late before.faults mid.faults after.faults later rose)
    | inr line ↦ inr (subst (λ (p : Option (List ℕ)). Tells names w result.status p after.printed) printed line)
  ];
  replayed = λ b c. subst (λ (p : Option (List ℕ)). IsReplayed w result.status p after.printed) printed (h.replayed b c);
  stopped = λ bad legal. moved names w before mid after result files printed later (h.stopped bad legal);
}

-- `send` answers what the run over its captures does
pub send_read : (names : Named) (source : Source) (load : Load) (before mid after : Seen) (result : Finished) → read_of names source ≡ Ok load → mid.files ≡ before.files → mid.printed ≡ before.printed → before.faults ≤ mid.faults
    → IsAnswer names (Ok (sending names load.settings load.captures)) mid after result → IsAnswer names (work_of (send names) source) before after result
send_read names source load before mid after result is files printed later h =
    let w : work_of (send names) source ≡ Ok (sending names load.settings load.captures) = ap (as_work names) is in
    subst (λ (v : Result Work Stop). IsAnswer names v before after result) (sym w) (since names (Ok (sending names load.settings load.captures)) before mid after result files printed later h)

-- `trace` answers what the replay of its schedule does
pub trace_read : (file : List ℕ) (source : Source) (bytes : List ℕ) (before mid after : Seen) (result : Finished) → file_at (input.File 0) 1048576 (source (input.File 0) file) ≡ Ok bytes → mid.files ≡ before.files → mid.printed ≡ before.printed → before.faults ≤ mid.faults
    → IsAnswer (names_asked (trace file)) (Ok (tracing bytes)) mid after result → IsAnswer (names_asked (trace file)) (work_of (trace file) source) before after result
trace_read file source bytes before mid after result is files printed later h =
    let w : work_of (trace file) source ≡ Ok (tracing bytes) = ap as_replay is in
    subst (λ (v : Result Work Stop). IsAnswer (names_asked (trace file)) v before after result) (sym w) (since (names_asked (trace file)) (Ok (tracing bytes)) before mid after result files printed later h)
