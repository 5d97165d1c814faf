-- Words that are refused, and the status that they give.
use Rattle.std.proofs.Common.{◌≡◌, ◌≢◌, ℕ, Option, None, Result, Ok, Err, refl, sym, ap, subst, arith, inl, inr}
use Rattle.ifl_engine.specs.declared.report.Finished.{Finished}
use Rattle.ifl_engine.specs.declared.report.Report.{Report}
use Rattle.ifl_engine.specs.declared.stop.WordsWhy.{WordsWhy}
use Rattle.ifl_engine.specs.declared.stop.Stop.{Stop}
use Rattle.ifl_engine.specs.declared.stop.Stop.TheVariants as stop
use Rattle.ifl_engine.specs.Words.{Named, Asked, no_names}
use Rattle.ifl_engine.specs.Read.{GivesWords}
use Rattle.ifl_engine.specs.Account.{Source}
use Rattle.ifl_engine.specs.Wanted.{wanted_by, only_trace, work_of}
use Rattle.ifl_engine.specs.FaultLines.{names_asked, names_or_none}
use Rattle.ifl_engine.specs.Seen.{Seen}
use Rattle.ifl_engine.specs.CutShort.{IsEnding}
use Rattle.ifl_engine.specs.Answer.{IsAnswer}
use Rattle.ifl_engine.specs.Steps.{IsRead, IsTold}
use Rattle.ifl_engine.proofs.CutShort.{begins_empty}
use Rattle.ifl_engine.proofs.Stopping.{stopped, no_memory}

refused_as : (r : Result Asked WordsWhy) (source : Source) (why : WordsWhy) (before after : Seen) (status : ℕ) → r ≡ Err why → IsTold no_names (stop.Words why) before after status
    → IsAnswer (names_or_none r) (wanted_by r source) before after (record { status = status; report = None })
refused_as r source why before after status is told =
    let names : names_or_none r ≡ no_names = ap names_or_none is in
    let w : wanted_by r source ≡ Err (stop.Words why) = ap (λ (q : Result Asked WordsWhy). wanted_by q source) is in
    subst (λ (n : Named). IsAnswer n (wanted_by r source) before after (record { status = status; report = None })) (sym names)
    (stopped no_names (wanted_by r source) (stop.Words why) before before after status w (omega arith) (λ five. absurd (omega (arith, five))) refl refl (omega arith) told)

pub refused_by_words : (r : Result Asked WordsWhy) (source : Source) (e : Stop) (before after : Seen) (status : ℕ) → GivesWords (Err e) r → IsTold no_names e before after status
    → IsAnswer (names_or_none r) (wanted_by r source) before after (record { status = status; report = None })
refused_by_words r source (stop.Words why) before after status is told = refused_as r source why before after status is told
refused_by_words r source stop.Memory before after status is told =
    let here : IsTold (names_or_none r) stop.Memory before after status = record { status = told.status; later = told.later; files = told.files; line = told.line; begun = told.begun } in
    no_memory (names_or_none r) (wanted_by r source) before before after status refl (begins_empty stop.Memory (IsEnding (wanted_by r source) None) before.printed before.printed refl) (omega arith) here
refused_by_words r source why before after status is told = absurd is

pub refused_finished : (r : Result Asked WordsWhy) (source : Source) (e : Stop) (before after : Seen) (result : Finished) → result.report ≡ None → GivesWords (Err e) r → IsTold no_names e before after result.status
    → IsAnswer (names_or_none r) (wanted_by r source) before after result
refused_finished r source e before after result without is told =
    subst (λ (o : Option Report). IsAnswer (names_or_none r) (wanted_by r source) before after (record { status = result.status; report = o })) (sym without) (refused_by_words r source e before after result.status is told)

pub answered : (r : Result Asked WordsWhy) (command : Asked) (source : Source) (before after : Seen) (result : Finished) → r ≡ Ok command → IsAnswer (names_asked command) (work_of command source) before after result → IsAnswer (names_or_none r) (wanted_by r source) before after result
answered r command source before after result is h =
    let n : names_or_none r ≡ names_asked command = ap names_or_none is in
    let w : wanted_by r source ≡ work_of command source = ap (λ (q : Result Asked WordsWhy). wanted_by q source) is in
    rw (n, w) h

-- a stop of reading is none of the words
pub not_by_words : {X Y : Type 0} (view : X → Y) (names : Named) (why : Stop) (read : Result Y Stop) (before after : Seen) (status : ℕ) → IsRead view (Err why) read → IsTold names why before after status → status ≢ 1
not_by_words view names (stop.Words f) read before after status r told = absurd r
not_by_words view names stop.WireFailed read before after status r told = absurd r
not_by_words view names stop.OrderFailed read before after status r told = absurd r
not_by_words view names stop.PrintFailed read before after status r told = absurd r
not_by_words view names why read before after status r told = λ one. elim (told.status) [ inl e ↦ absurd (omega (arith, e, one)) | inr e ↦ absurd (omega (arith, e, one)) ]

-- words that are refused are refused as words of `trace` too
pub GivesWords-only_trace : (e : Stop) (r : Result Asked WordsWhy) → GivesWords (Err e) r → GivesWords (Err e) (only_trace r)
GivesWords-only_trace (stop.Words why) r is = ap only_trace is
GivesWords-only_trace stop.Memory r is = tt
GivesWords-only_trace why r is = absurd is
