-- A run in which nothing is dropped, hangs or is stopped sends every frame that fits.
use Rattle.std.proofs.Common.{◌≡◌, ℕ, ◌≤◌, List, [], ◌∷◌, ◌++◌, append_assoc, map, sym, refl, ap, ◌∙◌, subst, arith}
use Rattle.std.specs.Prelude.{All, Option, Some, None}
use Rattle.std.proofs.lemmas.List.Elements.{All-nil, All-cons, All-head, All-tail, All-append, All-map}
use Rattle.std.proofs.lemmas.List.Sorted.{All-permutation, IsPermutation-sym}
use Rattle.ifl_base.specs.declared.fate.Away.{Away}
use Rattle.ifl_base.specs.declared.fate.Away.TheVariants as away
use Rattle.ifl_base.specs.declared.fate.Fate.{Fate}
use Rattle.ifl_base.specs.declared.fate.Fate.TheVariants as fate
use Rattle.ifl_base.specs.declared.judged.Judged.{Judged}
use Rattle.ifl_base.specs.declared.judged.Judged.TheVariants as judged
use Rattle.ifl_base.specs.declared.ticket.Ticket.{Ticket}
use Rattle.ifl_device.specs.declared.plan.EnginePlan.{EnginePlan}
use Rattle.ifl_pcap.specs.declared.frame.Frame.{Frame}
use Rattle.ifl_ringcore.specs.declared.history.Entry.{Entry}
use Rattle.ifl_txq.specs.declared.line.OrderLine.{OrderLine}
use Rattle.ifl_line.specs.declared.away_line.AwayLine.{AwayLine}
use Rattle.ifl_line.specs.declared.rules.Policy.{Policy}
use Rattle.ifl_line.specs.declared.rules.Policy.TheVariants.{Drop, Retry}
use Rattle.ifl_line.specs.declared.rules.Rules.{Rules}
use Rattle.ifl_line.specs.Causes.{AreOfLength, FollowsPlan, IsFateOf, IsOfLength, IsSentWhole, MayHave, segments_of}
use Rattle.ifl_line.specs.Frames.{IsFit, MayTurn, judged_of}
use Rattle.ifl_line.specs.Good.{IsLawful}
use Rattle.ifl_line.specs.Runs.{IsLineOf, all_from}

abbrev frame_or : Frame → Option Frame → Frame
frame_or f None = f
frame_or f (Some g) = g

not_both : (p : Policy) → p ≡ Drop → p ≡ Retry → ⊥
not_both p d r = cc

not_runt : (j : Judged) → j ≡ judged.Runt → j ≡ judged.Fit → ⊥
not_runt j a b = cc

not_oversize : (j : Judged) → j ≡ judged.Oversize → j ≡ judged.Fit → ⊥
not_oversize j a b = cc

not_stopped : (n : ℕ) (o : Option ℕ) → o ≡ Some n → o ≡ None → ⊥
not_stopped n o a b = cc

-- where nothing is dropped, no fit frame is turned away
not_turned : (size : ℕ) (r : Rules) (f : Frame) (why : Away) → r.policy ≡ Retry → IsFit r f → MayTurn size r f why → ⊥
not_turned size r f away.Runt retry fit may = not_runt (judged_of r f) may fit
not_turned size r f away.Oversize retry fit may = not_oversize (judged_of r f) may fit
not_turned size r f away.NoClusters retry fit may = not_both r.policy may.1 retry
not_turned size r f (away.NoBuffers w) retry fit may = not_both r.policy may.1 retry

-- where the engine neither hangs nor is stopped, every packet that is not too long is on the wire
wire_alone : (plan : EnginePlan) (max n behind : ℕ) (x : Fate) → plan.hang_after ≡ 0 → plan.flush_after ≡ None → MayHave plan behind x → IsFateOf max n x → n ≤ max → x ≡ fate.Wire
wire_alone plan max n behind fate.Wire calm runs_on may is low = refl
wire_alone plan max n behind fate.TooManySegments calm runs_on may is low = absurd (omega arith)
wire_alone plan max n behind fate.Reset calm runs_on may is low = absurd (let k = may.0 in omega arith)
wire_alone plan max n behind fate.Flush calm runs_on may is low = absurd (not_stopped behind plan.flush_after may runs_on)

module _ (size max descriptors : ℕ) (r : Rules) (plan : EnginePlan) (files : List (List Frame)) (order : List OrderLine) (turned : List AwayLine) (es : List Entry) (retry : r.policy ≡ Retry) (calm : plan.hang_after ≡ 0) (runs_on : plan.flush_after ≡ None)
    (lawful : IsLawful size r files order turned es) (long : AreOfLength max files order) (follows : FollowsPlan plan descriptors order) where
  abbrev Whole : Ticket → Type 0
  Whole t = IsSentWhole max r files order t

  line_away : (l : AwayLine) → IsLineOf size r files l → Whole l.ticket
  line_away l (g, at, may) f named fit low = absurd (not_turned size r f l.away retry fit (subst (λ (z : Frame). MayTurn size r z l.away) (ap (frame_or g) (sym at ∙ named)) may))

  line_sent : (before after : List OrderLine) (l : OrderLine) → order ≡ before ++ l ∷ after → IsOfLength max files l → Whole l.ticket
  line_sent before after l e (g, at, is) f named fit low =
      let wire : l.fate ≡ fate.Wire = wire_alone plan max (segments_of f) _ l.fate calm runs_on (follows.each before after l e) (subst (λ (z : Frame). IsFateOf max (segments_of z) l.fate) (ap (frame_or g) (sym at ∙ named)) is) low in
      (before, after, e ∙ ap (λ (x : Fate). before ++ record { ticket = l.ticket; fate = x } ∷ after) wire)

  lines_sent : (before after : List OrderLine) → order ≡ before ++ after → All (IsOfLength max files) after → All (λ (l : OrderLine). Whole l.ticket) after
  lines_sent before [] e all = All-nil (λ (l : OrderLine). Whole l.ticket)
  lines_sent before (l ∷ after) e all = All-cons (λ (l : OrderLine). Whole l.ticket) l after (line_sent before after l e (All-head (IsOfLength max files) l after all))
      (lines_sent (before ++ l ∷ []) after (e ∙ sym (append_assoc before (l ∷ []) after)) (All-tail (IsOfLength max files) l after all))

  pub sent_whole : All (IsSentWhole max r files order) (all_from 0 files)
  sent_whole = All-permutation Whole (map (λ l. l.ticket) order ++ map (λ l. l.ticket) turned) (all_from 0 files) (IsPermutation-sym (all_from 0 files) (map (λ l. l.ticket) order ++ map (λ l. l.ticket) turned) lawful.each_once)
      (All-append Whole (map (λ l. l.ticket) order) (map (λ l. l.ticket) turned)
      (All-map Whole (λ (l : OrderLine). l.ticket) order (lines_sent [] order refl long))
      (All-map Whole (λ (l : AwayLine). l.ticket) turned (λ k d lt. line_away _ (lawful.turned_away k d lt))))
