-- A run that stops before its frames are sent: its status, its fault line, and what it leaves.
use Rattle.std.proofs.Common.{◌≡◌, ℕ, ◌<◌, ◌≤◌, ◌⊎◌, List, ◌++◌, Option, None, Result, Ok, Err, refl, sym, ap, subst, ◌∙◌, arith, inl, inr}
use Rattle.ifl_outside.specs.Told.{BothTold}
use Rattle.ifl_outside.specs.Causes.{Rose}
use Rattle.ifl_engine.specs.declared.stop.Stop.{Stop}
use Rattle.ifl_engine.specs.declared.stop.Stop.TheVariants as stop
use Rattle.ifl_engine.specs.declared.stop.Input.TheVariants as input
use Rattle.ifl_engine.specs.Words.{Named, send, trace}
use Rattle.ifl_engine.specs.Account.{Source}
use Rattle.ifl_engine.specs.Loading.{Load, ◌>>=◌, file_at, read_of}
use Rattle.ifl_engine.specs.Wanted.{Work, sending, tracing, work_of}
use Rattle.ifl_engine.specs.Status.{status_of}
use Rattle.ifl_engine.specs.FaultLines.{line_of, names_asked}
use Rattle.ifl_engine.specs.Seen.{Seen}
use Rattle.ifl_engine.specs.Answer.{CallsFor, Tells, IsReplayed, IsAnswer}
use Rattle.ifl_engine.specs.Steps.{IsRead, IsReadFailure, IsTold}
use Rattle.ifl_engine.specs.CutShort.{HasOutput, IsEnding, IsStopOf}
use Rattle.ifl_engine.proofs.Risen.{risen, risen_late}
use Rattle.ifl_engine.specs.Loaded.{bytes_of}
use Rattle.ifl_engine.proofs.CutShort.{Begins, begins_empty, cut_short}

-- what stopped the run is what is called for
pub stopped : (names : Named) (w : Result Work Stop) (why : Stop) (before mid after : Seen) (status : ℕ) → w ≡ Err why → 0 < status_of why → (status_of why ≡ 5 → Rose before.faults mid.faults) → mid.files ≡ before.files → mid.printed ≡ before.printed → before.faults ≤ mid.faults
    → IsTold names why mid after status → IsAnswer names w before after (record { status = status; report = None })
stopped names w why before mid after status is some rose files printed later told = record {
  status = elim (told.status) [ inl e ↦ inl (subst (λ (v : Result Work Stop). CallsFor v status) (sym is) e) | inr e ↦ inr (inl e) ];
  later = omega (arith, told.later);
  failed = λ five. elim (told.status) [ inl e ↦ risen before.faults mid.faults after.faults (rose (sym e ∙ five)) told.later | inr e ↦ absurd (omega (arith, five, e)) ];
  good = tt;
  there = λ zero. elim (told.status) [ inl e ↦ absurd (omega (arith, zero, e)) | inr e ↦ absurd (omega (arith, zero, e)) ];
  done = λ zero. tt;
  left = tt;
  untouched = λ none. told.files ∙ files;
  told = λ b c. elim (told.line) [
    | inl six ↦ absurd (c six)
    | inr rest ↦ elim rest [
      | inl again ↦ inl (risen_late before.faults mid.faults after.faults later again)
      | inr line ↦ inr (subst (λ (v : Result Work Stop). Tells names v status before.printed after.printed) (sym is) (subst (λ (p : Option (List ℕ)). BothTold p after.printed (λ (was now : List ℕ). now ≡ was ++ line_of names why)) printed line))
    ]
  ];
  replayed = λ b c. subst (λ (v : Result Work Stop). IsReplayed v status before.printed after.printed) (sym is) tt;
  stopped = λ bad legal. cut_short names w None why before mid after status (inl is) tt (begins_empty why (IsEnding w None) before.printed mid.printed printed) rose told;
}

-- memory ran out, or the print of a replay failed
pub gave_up : (names : Named) (w : Result Work Stop) (why : Stop) (before mid after : Seen) (status : ℕ) → ((status_of why ≡ 5) × HasOutput w) ⊎ (status_of why ≡ 6) → IsStopOf w None why → (status_of why ≡ 5 → Rose before.faults mid.faults) → mid.files ≡ before.files → BothTold before.printed mid.printed (Begins why (IsEnding w None)) → before.faults ≤ mid.faults
    → IsTold names why mid after status → IsAnswer names w before after (record { status = status; report = None })
gave_up names w why before mid after status which here rose files begun later told =
    let s : (status ≡ 6) ⊎ ((status ≡ 5) × HasOutput w) = elim (told.status) [ inl e ↦ elim which [ inl five ↦ inr (e ∙ five.0, five.1) | inr six ↦ inl (e ∙ six) ] | inr e ↦ inl e ] in
    record {
      status = inr s;
      later = omega (arith, told.later);
      failed = λ five. elim (told.status) [ inl e ↦ risen before.faults mid.faults after.faults (rose (sym e ∙ five)) told.later | inr e ↦ absurd (omega (arith, five, e)) ];
      good = tt;
      there = λ zero. elim s [ inl e ↦ absurd (omega (arith, zero, e)) | inr e ↦ absurd (omega (arith, zero, e.0)) ];
      done = λ zero. tt;
      left = tt;
      untouched = λ none. told.files ∙ files;
      told = λ b c. elim s [ inl six ↦ absurd (c six) | inr five ↦ absurd (b five.0) ];
      replayed = λ b c. elim s [ inl six ↦ absurd (c six) | inr five ↦ absurd (b five.0) ];
      stopped = λ bad legal. cut_short names w None why before mid after status here tt begun rose told;
    }

-- there was no memory
pub no_memory : (names : Named) (w : Result Work Stop) (before mid after : Seen) (status : ℕ) → mid.files ≡ before.files → BothTold before.printed mid.printed (Begins stop.Memory (IsEnding w None)) → before.faults ≤ mid.faults
    → IsTold names stop.Memory mid after status → IsAnswer names w before after (record { status = status; report = None })
no_memory names w before mid after status files begun later told = gave_up names w stop.Memory before mid after status (inr refl) (inr (inl refl)) (λ five. absurd (omega (arith, five))) files begun later told

abbrev pub as_work : Named → Result Load Stop → Result Work Stop
as_work names read = read >>= λ load. Ok (sending names load.settings load.captures)

-- a file that could not be read stops what stands behind it
pub read_stopped : {X Y : Type 0} (view : X → Y) (names : Named) (w : Result Y Stop → Result Work Stop) (why : Stop) (read : Result Y Stop) (before mid after : Seen) (status : ℕ) → ((e : Stop) → w (Err e) ≡ Err e) → IsRead view (Err why) read → mid.files ≡ before.files → mid.printed ≡ before.printed → before.faults ≤ mid.faults
    → (IsReadFailure why → Rose before.faults mid.faults) → IsTold names why mid after status → IsAnswer names (w read) before after (record { status = status; report = None })
read_stopped view names w stop.Memory read before mid after status passes is files printed later rose told = no_memory names (w read) before mid after status files (begins_empty stop.Memory (IsEnding (w read) None) before.printed mid.printed printed) later told
read_stopped view names w (stop.ReadFailed which) read before mid after status passes is files printed later rose told = stopped names (w read) (stop.ReadFailed which) before mid after status (ap w is ∙ passes (stop.ReadFailed which)) (omega arith) (λ five. rose tt) files printed later told
read_stopped view names w (stop.Words f) read before mid after status passes is files printed later rose told = absurd is
read_stopped view names w stop.WireFailed read before mid after status passes is files printed later rose told = absurd is
read_stopped view names w stop.OrderFailed read before mid after status passes is files printed later rose told = absurd is
read_stopped view names w stop.PrintFailed read before mid after status passes is files printed later rose told = absurd is
read_stopped view names w why read before mid after status passes is files printed later rose told = stopped names (w read) why before mid after status (ap w is ∙ passes why) (omega arith) (λ five. absurd (omega (arith, five))) files printed later told

-- `send` stopped where its captures were to be read
pub send_stopped : {X : Type 0} (view : X → Load) (names : Named) (why : Stop) (source : Source) (before mid after : Seen) (status : ℕ) → IsRead view (Err why) (read_of names source) → mid.files ≡ before.files → mid.printed ≡ before.printed → before.faults ≤ mid.faults
    → (IsReadFailure why → Rose before.faults mid.faults) → IsTold names why mid after status → IsAnswer names (work_of (send names) source) before after (record { status = status; report = None })
send_stopped view names why source before mid after status read files printed later rose told = read_stopped view names (as_work names) why (read_of names source) before mid after status (λ e. refl) read files printed later rose told

abbrev pub as_replay : Result (List ℕ) Stop → Result Work Stop
as_replay read = read >>= λ bytes. Ok (tracing bytes)

-- `trace` stopped where its schedule was to be read
pub trace_stopped : (file : List ℕ) (why : Stop) (source : Source) (before mid after : Seen) (status : ℕ) → IsRead bytes_of (Err why) (file_at (input.File 0) 1048576 (source (input.File 0) file)) → mid.files ≡ before.files → mid.printed ≡ before.printed → before.faults ≤ mid.faults
    → (IsReadFailure why → Rose before.faults mid.faults) → IsTold (names_asked (trace file)) why mid after status → IsAnswer (names_asked (trace file)) (work_of (trace file) source) before after (record { status = status; report = None })
trace_stopped file why source before mid after status read files printed later rose told = read_stopped bytes_of (names_asked (trace file)) as_replay why (file_at (input.File 0) 1048576 (source (input.File 0) file)) before mid after status (λ e. refl) read files printed later rose told
