-- How the steps of quiescing go together.
use Rattle.std.proofs.Common.{◌≡◌, ℕ, ◌%◌, ◌⊎◌, inl, inr, true, false, List, [], ◌∷◌, ◌++◌, sym, refl, ap, ◌∙◌, subst, arith}
use Rattle.ifl_base.specs.declared.word.Flag.TheVariants.{Idle}
use Rattle.ifl_base.specs.declared.word.RingWord.{RingWord}
use Rattle.ifl_base.specs.Word.{pack}
use Rattle.ifl_ringcore.specs.declared.history.Entry.{Entry}
use Rattle.ifl_ringcore.specs.declared.history.Meaning.{Meaning}
use Rattle.ifl_ringcore.specs.declared.history.Step.{Step}
use Rattle.ifl_ringcore.specs.declared.history.Step.TheVariants.{Look}
use Rattle.ifl_ringcore.specs.State.{RingState, first_state}
use Rattle.ifl_ringcore.specs.History.{state_after}
use Rattle.ifl_ringcore.specs.Invariant.{RingInvariant}
use Rattle.ifl_ringcore.proofs.Standing.{mod-same}
use Rattle.ifl_ringcore.proofs.Reservations.{cover_le}
use Rattle.ifl_ring.specs.declared.answers.Enqueued.{Enqueued}
use Rattle.ifl_ring.specs.declared.answers.Enqueued.TheVariants as enqueued
use Rattle.ifl_ring.specs.declared.view.Known.{Known}
use Rattle.ifl_ring.specs.Calls.{publishing, IsEnqueued}
use Rattle.ifl_ring.specs.Seats.{Went, Sees, entry}
use Rattle.ifl_ring.proofs.Calls.{went_on_to}
use Rattle.ifl_ring.proofs.Claiming.{publishing-append}
use Rattle.ifl_reset.specs.Quiet.{AreKicks, IsQuiet, IsQuieted}

-- what was done so far
pub record SoQuiet (kick : Meaning) (size : ℕ) (v w : Known) : Type 0 where
  pub steps : List Entry
  pub went : ((w ≡ v) × (steps ≡ [])) ⊎ Went size v steps w
  pub kicks : AreKicks kick (publishing steps)

pub quiet_new : (kick : Meaning) (size : ℕ) (v : Known) → SoQuiet kick size v v
quiet_new kick size v = record { steps = []; went = inl (refl, refl); kicks = tt }

kicks_append : (kick : Meaning) (xs ys : List Step) → AreKicks kick xs → AreKicks kick ys → AreKicks kick (xs ++ ys)
kicks_append kick [] ys a b = b
kicks_append kick (x ∷ xs) ys a b = (a.0, kicks_append kick xs ys a.1 b)

went_then : (size : ℕ) (u v w : Known) (es fs : List Entry) → ((v ≡ u) × (es ≡ [])) ⊎ Went size u es v → Went size v fs w → Went size u (es ++ fs) w
went_then size u v w es fs (inl p) b = subst (λ (z : Known × List Entry). Went size z.0 (z.1 ++ fs) w) (λ i. (p.0 i, sym p.1 i)) b
went_then size u v w es fs (inr a) b = went_on_to size u v w es fs a b

pub quiet_on : (kick : Meaning) (size : ℕ) (u v w : Known) (fs : List Entry) → SoQuiet kick size u v → Went size v fs w → AreKicks kick (publishing fs) → SoQuiet kick size u w
quiet_on kick size u v w fs q g k = record {
  steps = q.steps ++ fs;
  went = inr (went_then size u v w q.steps fs q.went g);
  kicks = subst (AreKicks kick) (sym (publishing-append q.steps fs)) (kicks_append kick (publishing q.steps) (publishing fs) q.kicks k);
}

none_kicks : (kick : Meaning) (ss : List Step) → ss ≡ [] → AreKicks kick ss
none_kicks kick ss e = subst (AreKicks kick) (sym e) tt

-- a step that publishes nothing
pub quiet_none : (kick : Meaning) (size : ℕ) (u v w : Known) (fs : List Entry) → SoQuiet kick size u v → Went size v fs w → publishing fs ≡ [] → SoQuiet kick size u w
quiet_none kick size u v w fs q g e = quiet_on kick size u v w fs q g (none_kicks kick (publishing fs) e)

-- what one kick publishes
pub kick_published : (kick : Meaning) (size : ℕ) (got : Enqueued) (es : List Entry) → IsEnqueued size 32 false 1 (kick ∷ []) got es → AreKicks kick (publishing es)
kick_published kick size enqueued.Behind es x = subst (AreKicks kick) (sym x.0) (inl refl, tt)
kick_published kick size enqueued.Abdicated es x = absurd (let f : false ≡ true = x.1.4.0 in cc)
kick_published kick size (enqueued.Drained left total) es x = subst (AreKicks kick) (sym x.0) (inr refl, tt)
kick_published kick size (enqueued.NoBuffers seen) es x = none_kicks kick (publishing es) x.0

at_rest : (size : ℕ) (st : RingState) → RingInvariant size st → st.flag ≡ Idle → st.reserved % size ≡ st.published % size → IsQuiet st
at_rest size st g f same =
    let c = cover_le st.published st.reservations st.reserved g.covered in let i = g.idle f in let w = g.within in
    (f, sym (mod-same size st.published st.reserved (omega arith) c (omega arith) (sym same)), i)

-- a look that found the ring at rest ends it
pub quiet_ends : (kick : Meaning) (size : ℕ) (u v w : Known) (word : RingWord) → SoQuiet kick size u v → Went size v (entry v.number (pack word) Look ∷ []) w → Sees size v word w → word.flag ≡ Idle → word.head ≡ word.tail → IsQuieted kick size u w
quiet_ends kick size u v w word q g l idle same = let e : Entry = entry v.number (pack word) Look in record {
  steps = q.steps ++ e ∷ [];
  went = went_then size u v w q.steps (e ∷ []) q.went g;
  kicks = subst (AreKicks kick) (sym (publishing-append q.steps (e ∷ []))) (kicks_append kick (publishing q.steps) [] q.kicks tt);
  ends = (q.steps, e, word, refl, (refl, refl), idle, same);
  quiet = at_rest size (state_after first_state w.seen) l.0.good (ap (λ (z : RingWord). z.flag) (sym l.1) ∙ idle)
      (ap (λ (z : RingWord). z.head) (sym l.1) ∙ same ∙ ap (λ (z : RingWord). z.tail) l.1);
}
