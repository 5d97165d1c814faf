-- What was printed by a run that was cut short: a beginning of its ending, and the fault line behind it.
use Rattle.std.proofs.Common.{◌≡◌, ℕ, ◌≤◌, List, [], ◌++◌, length, take, Option, Some, None, Result, refl, sym, ap, ◌∙◌, arith, inl, inr}
use Rattle.std.specs.Prelude.{IfSome}
use Rattle.std.proofs.lemmas.List.{append-nil, append_assoc}
use Rattle.std.proofs.Math.Seq.{take-length}
use Rattle.ifl_outside.specs.Told.{BothTold}
use Rattle.ifl_outside.specs.Causes.{Rose}
use Rattle.ifl_engine.specs.declared.report.Report.{Report}
use Rattle.ifl_engine.specs.declared.report.Finished.{Finished}
use Rattle.ifl_engine.specs.declared.stop.Stop.{Stop}
use Rattle.ifl_engine.specs.Words.{Named}
use Rattle.ifl_engine.specs.Wanted.{Work}
use Rattle.ifl_engine.specs.Status.{status_of}
use Rattle.ifl_engine.specs.FaultLines.{line_of}
use Rattle.ifl_engine.specs.Seen.{Seen}
use Rattle.ifl_engine.specs.Left.{IsLeft}
use Rattle.ifl_engine.specs.CutShort.{RoseTwice, IsEnding, IsBegun, IsBroken, IsStopOf, IsCutShort}
use Rattle.ifl_engine.specs.Steps.{IsTold}

-- a beginning of the ending was printed
abbrev pub Begins : Stop → (List ℕ → Type 0) → List ℕ → List ℕ → Type 0
Begins why Ending was now = (part : List ℕ) × IsBegun why Ending part × (now ≡ was ++ part)

-- two things that are told one after the other
pub told_then : {A : Type 0} (a b c : Option A) (R S T : A → A → Type 0) → ((x y z : A) → R x y → S y z → T x z) → BothTold a b R → BothTold b c S → BothTold a c T
told_then None None None R S T f h k = tt
told_then None None (Some z) R S T f h k = absurd k
told_then None (Some y) c R S T f h k = absurd h
told_then (Some x) None c R S T f h k = absurd h
told_then (Some x) (Some y) None R S T f h k = absurd k
told_then (Some x) (Some y) (Some z) R S T f h k = f x y z h k

pub told_map : {A : Type 0} (a b : Option A) (R T : A → A → Type 0) → ((x y : A) → R x y → T x y) → BothTold a b R → BothTold a b T
told_map None None R T f h = tt
told_map None (Some y) R T f h = absurd h
told_map (Some x) None R T f h = absurd h
told_map (Some x) (Some y) R T f h = f x y h

pub told_same : {A : Type 0} (a b : Option A) (R : A → A → Type 0) → ((x : A) → R x x) → b ≡ a → BothTold a b R
told_same None None R f same = tt
told_same None (Some y) R f same = absurd cc
told_same (Some x) None R f same = absurd cc
told_same (Some x) (Some y) R f same = let is : y ≡ x = cc in rw is (f x)

-- nothing was printed yet
pub begins_empty : (why : Stop) (Ending : List ℕ → Type 0) (a b : Option (List ℕ)) → b ≡ a → BothTold a b (Begins why Ending)
begins_empty why Ending a b same = told_same a b (Begins why Ending) (λ was. ([], inl refl, sym (append-nil was))) same

broken : (names : Named) (Ending : List ℕ → Type 0) (why : Stop) (Whole : Type 0) (was mid now line : List ℕ) → ((k : ℕ) × (line ≡ take k (line_of names why))) → (Whole → line ≡ line_of names why) → Begins why Ending was mid → now ≡ mid ++ line → IsBroken names Ending why Whole was now
broken names Ending why Whole was mid now line begins whole begun is = record {
  part = begun.0;
  begun = begun.1;
  line = line;
  begins = begins;
  whole = whole;
  printed = is ∙ ap (λ (xs : List ℕ). xs ++ line) begun.2 ∙ append_assoc was begun.0 line;
}

-- a stop is told, whatever was printed before that
pub cut_short : (names : Named) (work : Result Work Stop) (report : Option Report) (why : Stop) (before mid after : Seen) (status : ℕ)
    → IsStopOf work report why → IfSome report (λ r. BothTold before.files mid.files (IsLeft names r why)) → BothTold before.printed mid.printed (Begins why (IsEnding work report)) → (status_of why ≡ 5 → Rose before.faults mid.faults)
    → IsTold names why mid after status → IsCutShort names work before after (record { status = status; report = report })
cut_short names work report why before mid after status here left begun rose told =
    let Whole : Type 0 = (status ≡ 5) × ¬ RoseTwice before.faults after.faults in
    let Broken : List ℕ → List ℕ → Type 0 = IsBroken names (IsEnding work report) why Whole in
    let five : status ≡ 5 → status_of why ≡ 5 = λ is. elim (told.status) [ inl e ↦ sym e ∙ is | inr e ↦ absurd (omega (arith, e, is)) ] in
    record {
      why = why;
      status = told.status;
      here = here;
      left = rw told.files left;
      printed = elim (told.line) [
        | inl six ↦ told_then before.printed mid.printed after.printed _ _ Broken (λ x y z b t. broken names (IsEnding work report) why Whole x y z (take t.0 (line_of names why)) (t.0, refl) (λ w. absurd (omega (arith, w.0, six))) b t.1) begun told.begun
        | inr rest ↦ elim rest [
          | inl again ↦ told_then before.printed mid.printed after.printed _ _ Broken (λ x y z b t. broken names (IsEnding work report) why Whole x y z (take t.0 (line_of names why)) (t.0, refl) (λ w. absurd (w.1 (let once = rose (five w.0) in omega (arith, once, again)))) b t.1) begun told.begun
          | inr line ↦ told_then before.printed mid.printed after.printed _ _ Broken (λ x y z b t. broken names (IsEnding work report) why Whole x y z (line_of names why) (length (line_of names why), sym (take-length (line_of names why))) (λ w. refl) b t) begun line
        ]
      ];
    }

twice_late : (a b c : ℕ) → a ≤ b → RoseTwice b c → RoseTwice a c
twice_late a b c le h = omega arith

-- the same of a run that began earlier, where only the count of faults has risen since
pub moved : (names : Named) (work : Result Work Stop) (before mid after : Seen) (result : Finished) → mid.files ≡ before.files → mid.printed ≡ before.printed → before.faults ≤ mid.faults → IsCutShort names work mid after result → IsCutShort names work before after result
moved names work before mid after result files printed later h =
    let Once : Seen → Type 0 = λ s. (result.status ≡ 5) × ¬ RoseTwice s.faults after.faults in
    let Broken : Seen → List ℕ → List ℕ → Type 0 = λ s. IsBroken names (IsEnding work result.report) h.why (Once s) in
    record {
      why = h.why;
      status = h.status;
      here = h.here;
      left = rw files at h.left;
      printed = told_then before.printed mid.printed after.printed _ (Broken mid) (Broken before) (λ x y z same b. record {
        part = b.part;
        begun = b.begun;
        line = b.line;
        begins = b.begins;
        whole = λ w. b.whole (w.0, λ twice. w.1 (twice_late before.faults mid.faults after.faults later twice));
        printed = b.printed ∙ ap (λ (xs : List ℕ). xs ++ (b.part ++ b.line)) same;
      }) (told_same before.printed mid.printed (λ x y. y ≡ x) (λ x. refl) printed) h.printed;
    }
