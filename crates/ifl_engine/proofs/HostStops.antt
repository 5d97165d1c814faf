-- A run whose writes or whose print did not all succeed.
use Rattle.std.proofs.Common.{◌≡◌, ℕ, ◌≤◌, ◌⊎◌, List, ◌++◌, take, Option, Some, Result, Ok, refl, sym, ap, ◌∙◌, arith, inl, inr}
use Rattle.ifl_outside.specs.Told.{BothTold}
use Rattle.ifl_outside.specs.Causes.{Rose}
use Rattle.ifl_pcap.specs.declared.frame.Frame.{Frame}
use Rattle.ifl_engine.specs.declared.report.Report.{Report}
use Rattle.ifl_engine.specs.declared.stop.Stop.{Stop}
use Rattle.ifl_engine.specs.declared.stop.Stop.TheVariants as stop
use Rattle.ifl_engine.specs.Words.{Named}
use Rattle.ifl_engine.specs.Report.{IsGood}
use Rattle.ifl_engine.specs.Texts.{counter_text_of}
use Rattle.ifl_engine.specs.Loading.{Chosen}
use Rattle.ifl_engine.specs.Wanted.{Work, sending}
use Rattle.ifl_engine.specs.Status.{status_of}
use Rattle.ifl_engine.specs.Seen.{Seen}
use Rattle.ifl_engine.specs.Left.{IsLeft, IsStanding}
use Rattle.ifl_engine.specs.CutShort.{HasOutput, IsOfOutput, IsStopOf, IsOfPrint}
use Rattle.ifl_engine.specs.Answer.{IsAnswer}
use Rattle.ifl_engine.specs.Steps.{IsHostStop, IsTold}
use Rattle.ifl_engine.proofs.CutShort.{Begins, told_map, cut_short}
use Rattle.ifl_engine.proofs.Risen.{risen}

-- the text was begun by a print that did not succeed
pub begins_print : (why : Stop) (Ending : List ℕ → Type 0) (text : List ℕ) (a b : Option (List ℕ)) → IsOfPrint why → Ending text → BothTold a b (λ was now. (k : ℕ) × (now ≡ was ++ take k text)) → BothTold a b (Begins why Ending)
begins_print why Ending text a b of is h = told_map a b _ (Begins why Ending) (λ x y p. (take p.0 text, inr (of, text, is, p.0, refl), p.1)) h

-- a stop of the host is a write or a print that failed, or want of memory
host_stop : (why : Stop) (a b : ℕ) → IsHostStop why a b → ((status_of why ≡ 5) × IsOfOutput why × Rose a b) ⊎ (why ≡ stop.Memory)
host_stop stop.WireFailed a b h = inl (refl, tt, h)
host_stop stop.OrderFailed a b h = inl (refl, tt, h)
host_stop stop.PrintFailed a b h = inl (refl, tt, h)
host_stop stop.Memory a b h = inr refl
host_stop why a b h = absurd h

-- the answer after a stop of writing
pub write_stopped : (names : Named) (settings : Chosen) (captures : List (List Frame)) (r : Report) (why : Stop) (before mid after : Seen) (status : ℕ) → IsGood settings captures r → IsHostStop why before.faults mid.faults → before.faults ≤ mid.faults
    → BothTold before.files mid.files (IsLeft names r why) → BothTold before.files mid.files (IsStanding names r) → BothTold before.printed mid.printed (Begins why (λ text. text ≡ counter_text_of names.ring r.plain r.ring))
    → IsTold names why mid after status → IsAnswer names (Ok (sending names settings captures)) before after (record { status = status; report = Some r })
write_stopped names settings captures r why before mid after status good fault later left standing begun told =
    let work : Result Work Stop = Ok (sending names settings captures) in
    let cause = host_stop why before.faults mid.faults fault in
    let s : (status ≡ 6) ⊎ ((status ≡ 5) × HasOutput work) = elim (told.status) [ inl e ↦ elim cause [ inl five ↦ inr (e ∙ five.0, tt) | inr memory ↦ inl (e ∙ ap status_of memory) ] | inr e ↦ inl e ] in
    let rose : status_of why ≡ 5 → Rose before.faults mid.faults = λ five. elim cause [ inl c ↦ c.2 | inr memory ↦ absurd (omega (arith, five, ap status_of memory)) ] in
    let here : IsStopOf work (Some r) why = elim cause [ inl c ↦ inr (inr (refl, c.1)) | inr memory ↦ inr (inl memory) ] in
    record {
      status = inr s;
      later = omega (arith, told.later);
      failed = λ five. elim (told.status) [ inl e ↦ risen before.faults mid.faults after.faults (rose (sym e ∙ five)) told.later | inr e ↦ absurd (omega (arith, five, e)) ];
      good = good;
      there = λ zero. elim s [ inl e ↦ absurd (omega (arith, zero, e)) | inr e ↦ absurd (omega (arith, zero, e.0)) ];
      done = λ zero. elim s [ inl e ↦ absurd (omega (arith, zero, e)) | inr e ↦ absurd (omega (arith, zero, e.0)) ];
      left = rw told.files standing;
      untouched = λ none. absurd cc;
      told = λ b c. elim s [ inl six ↦ absurd (c six) | inr five ↦ absurd (b five.0) ];
      replayed = λ b c. tt;
      stopped = λ bad legal. cut_short names work (Some r) why before mid after status here left begun rose told;
    }
