-- Why the frames of the order record have their fates.
use Rattle.std.proofs.Common.{◌≡◌, ℕ, ◌+◌, ◌<◌, ◌≤◌, inl, inr, true, false, Bool, cond, List, [], ◌∷◌, ◌++◌, length, map, take, drop, sym, refl, ap, ◌∙◌, subst, arith}
use Rattle.std.specs.Prelude.{Option, Some, None}
use Rattle.std.proofs.lemmas.List.Elements.{All-nil, All-cons}
use mathlib.Core.List.{IsPrefix}
use Rattle.ifl_base.specs.declared.fate.Fate.{Fate}
use Rattle.ifl_base.specs.declared.fate.Fate.TheVariants as fate
use Rattle.ifl_desc.specs.declared.desc.Desc.{Desc}
use Rattle.ifl_desc.specs.declared.desc.Status.{Status}
use Rattle.ifl_desc.specs.declared.desc.Status.TheVariants.{Posted, Emitted, Aborted, Flushed, Filled, Unused}
use Rattle.ifl_desc.specs.declared.port.PortState.{PortState}
use Rattle.ifl_desc.specs.declared.port.PortState.TheVariants.{Up, Down, Flush}
use Rattle.ifl_desc.specs.Frames.{frames_from, frames_of}
use Rattle.ifl_desc.specs.Port.{IsLegalAfter, IsSetting, last_after, state_of}
use Rattle.ifl_device.specs.declared.plan.EnginePlan.{EnginePlan}
use Rattle.ifl_device.specs.Adapter.{AreReturned, IsReturned, is_emitted, status_of}
use Rattle.ifl_device.specs.Outcomes.{KeepsPlan, MayEnd, aborted_in, emitted_in, is_aborted}
use Rattle.ifl_pcap.specs.declared.frame.Frame.{Frame}
use Rattle.ifl_ringcore.specs.declared.history.Meaning.{Meaning}
use Rattle.ifl_ringcore.specs.Counters.{one_if}
use Rattle.ifl_txq.specs.declared.line.Line.{Line}
use Rattle.ifl_txq.specs.declared.line.OrderLine.{OrderLine}
use Rattle.ifl_txq.specs.Done.{frame_fate, is_reset, is_wire}
use Rattle.ifl_txq.specs.Frames.{fate_of, fates_of}
use Rattle.ifl_txq.specs.Log.{kept}
use Rattle.ifl_txq.specs.Standing.{Tells, first_fate, need_of}
use Rattle.ifl_line.specs.declared.rules.Rules.{Rules}
use Rattle.ifl_line.specs.Causes.{AreOfLength, FollowsPlan, IsFateOf, IsOfLength, MayHave, lines_of, segments_of}
use Rattle.ifl_line.specs.Good.{ArePacketsOf}
use Rattle.ifl_line.proofs.Wiring.{fate-same, is_wire-fate_of}

pub take_length : {X : Type 0} (l : List X) → take (length l) l ≡ l
take_length [] = refl
take_length (x ∷ l) = ap (λ (z : List _). x ∷ z) (take_length l)

abbrev fate_or : Fate → Option Fate → Fate
fate_or x None = x
fate_or x (Some y) = y

same_fate : (x y : Fate) → Some x ≡ Some y → x ≡ y
same_fate x y e = ap (fate_or x) e

no_fate : (x : Fate) → Some x ≡ None → ⊥
no_fate x e = cc

-- ---- what a port was set to

flush_last : (xs : List PortState) → IsLegalAfter Flush xs → last_after Flush xs ≡ Flush
flush_last [] l = refl
flush_last (Up ∷ xs) l = absurd l.0
flush_last (Down ∷ xs) l = absurd l.0
flush_last (Flush ∷ xs) l = flush_last xs l.1

flush_after : (s : PortState) (xs ys : List PortState) → IsLegalAfter s (xs ++ ys) → last_after s xs ≡ Flush → last_after s (xs ++ ys) ≡ Flush
flush_after s [] ys l e = let here : IsLegalAfter Flush ys = subst (λ (z : PortState). IsLegalAfter z ys) e l in ap (λ (z : PortState). last_after z ys) e ∙ flush_last ys here
flush_after s (x ∷ xs) ys l e = flush_after x xs ys l.1 e

-- a port that was flushed stays so
pub flush_stays : (xs zs : List PortState) → IsPrefix xs zs → IsSetting zs → state_of xs ≡ Flush → state_of zs ≡ Flush
flush_stays xs zs p l e = ap state_of (sym p.1) ∙ flush_after Up xs p.0 (subst IsSetting (sym p.1) l) e

-- ---- the fates of what was returned

last_fate : (p : List Desc) (d : Desc) → frame_fate (p ++ d ∷ []) ≡ fate_of d.status
last_fate [] d = refl
last_fate (x ∷ []) d = refl
last_fate (x ∷ (y ∷ p)) d = last_fate (y ∷ p) d

frames_fates : (p ds : List Desc) → map frame_fate (frames_from p ds) ≡ fates_of ds
frames_fates p [] = refl
frames_fates p (d ∷ ds) = by_mark d.last (frames_fates [] ds) (frames_fates (p ++ d ∷ []) ds)
  where
    by_mark : (b : Bool) → map frame_fate (frames_from [] ds) ≡ fates_of ds → map frame_fate (frames_from (p ++ d ∷ []) ds) ≡ fates_of ds
        → map frame_fate (cond b ((p ++ d ∷ []) ∷ frames_from [] ds) (frames_from (p ++ d ∷ []) ds)) ≡ cond b (fate_of d.status ∷ fates_of ds) (fates_of ds)
    by_mark true marked begun = λ i. last_fate p d i ∷ marked i
    by_mark false marked begun = begun

frame_one : (f : List Desc) → IsReturned f → frame_fate f ≡ fate_of (status_of f)
frame_one [] h = absurd h.0
frame_one (d ∷ ds) h = fate-same d.status d ds h.1

frames_each : (fs : List (List Desc)) → AreReturned fs → map frame_fate fs ≡ map fate_of (map status_of fs)
frames_each [] h = refl
frames_each (f ∷ fs) h = λ i. frame_one f h.0 i ∷ frames_each fs h.1 i

-- where all entries of a frame came back with one status, its fate is that of the status
pub fates_of-returned : (ds : List Desc) → AreReturned (frames_of ds) → fates_of ds ≡ map fate_of (map status_of (frames_of ds))
fates_of-returned ds h = sym (frames_fates [] ds) ∙ frames_each (frames_of ds) h

-- ---- lengths

module _ (max : ℕ) (saw : Type 0) (r : Rules) (files : List (List Frame)) where
  -- a status gives no packet away as too long
  returned_fits : (n : ℕ) (x : Fate) (ss : List Status) → n ≤ max → Some x ≡ first_fate (map fate_of ss) → IsFateOf max n x
  returned_fits n x [] low e = absurd (no_fate x e)
  returned_fits n x (s ∷ ss) low e = subst (IsFateOf max n) (sym (same_fate x (fate_of s) e)) (of_status s)
    where
      of_status : (t : Status) → IsFateOf max n (fate_of t)
      of_status Posted = low
      of_status Emitted = low
      of_status Aborted = low
      of_status Flushed = tt
      of_status Filled = low
      of_status Unused = low

  pub of_length : (ms : List Meaning) (order : List OrderLine) (frames : List (List Desc)) (ss : List Status) → Tells max saw ms (map kept order) frames (map fate_of ss) → ArePacketsOf r files order ms → AreOfLength max files order
  of_length [] [] frames ss t named = All-nil (IsOfLength max files)
  of_length [] (l ∷ order) frames ss t named = absurd (let n = ap length t.0 in omega arith)
  of_length (m ∷ ms) [] frames ss t named = absurd t
  of_length (m ∷ ms) (l ∷ order) frames ss (tag, kind) ((f, at, fit, is), named) = elim kind [
    | inl h ↦ All-cons (IsOfLength max files) l order (f, at, returned_fits (segments_of f) l.fate ss (subst (λ (z : ℕ). z ≤ max) need h.3.fits) h.3.fate_is) (tail ss h.1 h.4 (λ (behind : List (List Desc)) (us : List Status) (t : Tells max saw ms (map kept order) behind (map fate_of us)). of_length ms order behind us t named))
    | inr k ↦ elim k [
      | inl h ↦ All-cons (IsOfLength max files) l order
          (f, at, subst (IsFateOf max (segments_of f)) (sym (same_fate l.fate fate.TooManySegments h.0.fate_is)) (subst (λ (z : ℕ). max < z) need h.0.long)) (of_length ms order frames ss h.1 named)
      | inr h ↦ All-cons (IsOfLength max files) l order (f, at, subst (IsFateOf max (segments_of f)) (sym (same_fate l.fate fate.Flush h.0.fate_is)) tt) (of_length ms order frames ss h.1 named)
    ]
  ]
    where
      need : need_of m ≡ segments_of f
      need = ap need_of is

      tail : (us : List Status) (behind : List (List Desc)) → Tells max saw ms (map kept order) behind (drop 1 (map fate_of us))
          → ((more : List (List Desc)) (vs : List Status) → Tells max saw ms (map kept order) more (map fate_of vs) → AreOfLength max files order) → AreOfLength max files order
      tail [] behind t rec = rec behind [] t
      tail (u ∷ us) behind t rec = rec behind us t

-- ---- what the plan says

is_reset-fate_of : (p : EnginePlan) (n : ℕ) (s : Status) → MayEnd p n s → is_reset (fate_of s) ≡ is_aborted s
is_reset-fate_of p n Posted h = absurd h
is_reset-fate_of p n Emitted h = refl
is_reset-fate_of p n Aborted h = refl
is_reset-fate_of p n Flushed h = refl
is_reset-fate_of p n Filled h = absurd h
is_reset-fate_of p n Unused h = absurd h

fate_may : (p : EnginePlan) (n : ℕ) (s : Status) → MayEnd p n s → MayHave p n (fate_of s)
fate_may p n Posted h = absurd h
fate_may p n Emitted h = tt
fate_may p n Aborted h = h
fate_may p n Flushed h = h
fate_may p n Filled h = absurd h
fate_may p n Unused h = absurd h

-- behind n emitted frames, each of these ended as it may
abbrev AreEndsFrom : EnginePlan → ℕ → List Status → Type 0
AreEndsFrom p n [] = Unit {0}
AreEndsFrom p n (s ∷ ss) = MayEnd p n s × AreEndsFrom p (n + one_if (is_emitted s)) ss

-- behind n lines with fate wire, each of these has a fate that it may
abbrev AreFatesFrom : EnginePlan → ℕ → List OrderLine → Type 0
AreFatesFrom p n [] = Unit {0}
AreFatesFrom p n (l ∷ ls) = MayHave p n l.fate × AreFatesFrom p (n + one_if (is_wire l.fate)) ls

ends_from : (p : EnginePlan) (n : ℕ) (ss : List Status) → ((before after : List Status) (s : Status) → ss ≡ before ++ s ∷ after → MayEnd p (n + emitted_in before) s) → AreEndsFrom p n ss
ends_from p n [] h = tt
ends_from p n (s ∷ ss) h = (
  subst (λ (k : ℕ). MayEnd p k s) (let k : n + 0 ≡ n = omega arith in k) (h [] ss s refl),
  ends_from p (n + one_if (is_emitted s)) ss (λ before after t e.
      subst (λ (k : ℕ). MayEnd p k t) (let k : n + (one_if (is_emitted s) + emitted_in before) ≡ n + one_if (is_emitted s) + emitted_in before = omega arith in k) (h (s ∷ before) after t (ap (λ (z : List Status). s ∷ z) e))),
)

each_from : (p : EnginePlan) (n : ℕ) (order before after : List OrderLine) (l : OrderLine) → AreFatesFrom p n order → order ≡ before ++ l ∷ after → MayHave p (n + lines_of is_wire before) l.fate
each_from p n order [] after l h e = let here : AreFatesFrom p n (l ∷ after) = subst (AreFatesFrom p n) e h in subst (λ (k : ℕ). MayHave p k l.fate) (let k : n ≡ n + 0 = omega arith in k) here.0
each_from p n order (b ∷ before) after l h e = let here : AreFatesFrom p n (b ∷ before ++ l ∷ after) = subst (AreFatesFrom p n) e h in
    subst (λ (k : ℕ). MayHave p k l.fate) (let k : n + one_if (is_wire b.fate) + lines_of is_wire before ≡ n + (one_if (is_wire b.fate) + lines_of is_wire before) = omega arith in k)
    (each_from p (n + one_if (is_wire b.fate)) (before ++ l ∷ after) before after l here.1 refl)

-- the lines have the fates that the statuses give, with as many on the wire as were emitted, and as many reset as were aborted
record Have (p : EnginePlan) (n : ℕ) (order : List OrderLine) (ss : List Status) : Type 0 where
  fates : AreFatesFrom p n order
  wires : lines_of is_wire order ≡ emitted_in ss
  resets : lines_of is_reset order ≡ aborted_in ss

module _ (max : ℕ) (saw : Type 0) (p : EnginePlan) where
  -- no frame is left where none is posted
  none_left : (ms : List Meaning) (ls : List Line) (frames : List (List Desc)) (ss : List Status) → Tells max saw ms ls frames (map fate_of ss) → frames ≡ [] → ss ≡ []
  none_left [] ls frames ss t e = no_status ss t.2
    where
      no_status : (us : List Status) → map fate_of us ≡ [] → us ≡ []
      no_status [] f = refl
      no_status (u ∷ us) f = absurd (let k = ap length f in omega arith)
  none_left (m ∷ ms) [] frames ss t e = absurd t
  none_left (m ∷ ms) (l ∷ ls) frames ss t e = elim t.1 [
    | inl h ↦ absurd (let k = ap length (sym h.2 ∙ e) in omega arith)
    | inr k ↦ elim k [
      | inl h ↦ none_left ms ls frames ss h.1 e
      | inr h ↦ none_left ms ls frames ss h.1 e
    ]
  ]

  -- a line whose frame was not posted
  unposted : (n : ℕ) (l : OrderLine) (order : List OrderLine) (ss : List Status) (x : Fate) → l.fate ≡ x → is_wire x ≡ false → is_reset x ≡ false → MayHave p n x → Have p n order ss → Have p n (l ∷ order) ss
  unposted n l order ss x e no_wire no_reset may have =
      let w : one_if (is_wire l.fate) ≡ 0 = ap (λ (z : Fate). one_if (is_wire z)) e ∙ ap one_if no_wire in let r : one_if (is_reset l.fate) ≡ 0 = ap (λ (z : Fate). one_if (is_reset z)) e ∙ ap one_if no_reset in
      let wires = have.wires in let resets = have.resets in record {
        fates = (subst (MayHave p n) (sym e) may, subst (λ (k : ℕ). AreFatesFrom p k order) (let k : n ≡ n + one_if (is_wire l.fate) = omega arith in k) have.fates);
        wires = omega arith;
        resets = omega arith;
      }

  -- a line whose frame came back
  posted : (n : ℕ) (l : OrderLine) (order : List OrderLine) (s : Status) (ss : List Status) → l.fate ≡ fate_of s → MayEnd p n s → Have p (n + one_if (is_emitted s)) order ss → Have p n (l ∷ order) (s ∷ ss)
  posted n l order s ss e may have =
      let w : one_if (is_wire l.fate) ≡ one_if (is_emitted s) = ap (λ (z : Fate). one_if (is_wire z)) e ∙ ap one_if (is_wire-fate_of s) in
      let r : one_if (is_reset l.fate) ≡ one_if (is_aborted s) = ap (λ (z : Fate). one_if (is_reset z)) e ∙ ap one_if (is_reset-fate_of p n s may) in
      let wires = have.wires in let resets = have.resets in record {
        fates = (subst (MayHave p n) (sym e) (fate_may p n s may), subst (λ (k : ℕ). AreFatesFrom p (n + k) order) (sym w) have.fates);
        wires = omega arith;
        resets = omega arith;
      }

  have : (ms : List Meaning) (order : List OrderLine) (frames : List (List Desc)) (ss : List Status) (n : ℕ) → Tells max saw ms (map kept order) frames (map fate_of ss) → AreEndsFrom p n ss
      → (saw → p.flush_after ≡ Some (n + emitted_in ss)) → Have p n order ss
  have [] [] frames [] n t ends stop = record { fates = tt; wires = refl; resets = refl }
  have [] [] frames (s ∷ ss) n t ends stop = absurd (let k = ap length t.2 in omega arith)
  have [] (l ∷ order) frames ss n t ends stop = absurd (let k = ap length t.0 in omega arith)
  have (m ∷ ms) [] frames ss n t ends stop = absurd t
  have (m ∷ ms) (l ∷ order) frames ss n t ends stop = elim t.1 [
    | inl h ↦ came_back ss h.1 h.3.fate_is h.4 ends stop (λ (behind : List (List Desc)) (us : List Status) (k : ℕ) (u : Tells max saw ms (map kept order) behind (map fate_of us)) (e : AreEndsFrom p k us) (f : saw → p.flush_after ≡ Some (k + emitted_in us)). have ms order behind us k u e f)
    | inr k ↦ elim k [
      | inl h ↦ unposted n l order ss fate.TooManySegments (same_fate l.fate fate.TooManySegments h.0.fate_is) refl refl tt (have ms order frames ss n h.1 ends stop)
      | inr h ↦ unposted n l order ss fate.Flush (same_fate l.fate fate.Flush h.0.fate_is) refl refl
          (stop h.0.saw_is ∙ ap (λ (z : List Status). Some (n + emitted_in z)) (none_left ms (map kept order) frames ss h.1 h.0.none) ∙ ap Some (let k : n + 0 ≡ n = omega arith in k))
          (have ms order frames ss n h.1 ends stop)
    ]
  ]
    where
      came_back : (us : List Status) (behind : List (List Desc)) → Some l.fate ≡ first_fate (map fate_of us) → Tells max saw ms (map kept order) behind (drop 1 (map fate_of us)) → AreEndsFrom p n us
          → (saw → p.flush_after ≡ Some (n + emitted_in us))
          → ((more : List (List Desc)) (vs : List Status) (k : ℕ) → Tells max saw ms (map kept order) more (map fate_of vs) → AreEndsFrom p k vs → (saw → p.flush_after ≡ Some (k + emitted_in vs)) → Have p k order vs) → Have p n (l ∷ order) us
      came_back [] behind e u ends stop rec = absurd (no_fate l.fate e)
      came_back (s ∷ us) behind e u ends stop rec = posted n l order s us (same_fate l.fate (fate_of s) e) ends.0
          (rec behind us (n + one_if (is_emitted s)) u ends.1 (λ seen. stop seen ∙ ap Some (let k : n + (one_if (is_emitted s) + emitted_in us) ≡ n + one_if (is_emitted s) + emitted_in us = omega arith in k)))

  -- the order record of a queue whose frames came back as a plan lets them follows the plan
  pub follows_plan : (ms : List Meaning) (order : List OrderLine) (frames : List (List Desc)) (descriptors : ℕ) (ss : List Status) (port : PortState) → Tells max saw ms (map kept order) frames (map fate_of ss)
      → KeepsPlan p descriptors ss port → (saw → port ≡ Flush) → FollowsPlan p descriptors order
  follows_plan ms order frames descriptors ss port t keeps flushed =
      let all : Have p 0 order ss = have ms order frames ss 0 t
      (ends_from p 0 ss (λ before after s e. subst (λ (k : ℕ). MayEnd p k s) (let k : emitted_in before ≡ 0 + emitted_in before = omega arith in k) (keeps.ends before after s e)))
      (λ seen. keeps.stopped (flushed seen) ∙ ap Some (let k : emitted_in ss ≡ 0 + emitted_in ss = omega arith in k)) in record {
        each = λ before after l e. subst (λ (k : ℕ). MayHave p k l.fate) (let k : 0 + lines_of is_wire before ≡ lines_of is_wire before = omega arith in k) (each_from p 0 order before after l all.fates e);
        few = subst (λ (k : ℕ). k < descriptors) (sym all.resets) keeps.few;
        within = λ n e. subst (λ (k : ℕ). k ≤ n) (sym all.wires) (keeps.within n e);
      }
