-- A ring's items are those of a plain queue.
use Rattle.std.proofs.Common.{◌≡◌, ℕ, ◌+◌, ◌-◌, ◌≤◌, List, [], ◌∷◌, ◌++◌, length, take, drop, sym, ap, ◌∙◌, arith, length-append, length-take, rules}
use Rattle.std.specs.Prelude.{Option, Some, None, IsSome}
use mathlib.Core.List.{append_assoc}
use Rattle.std.proofs.lemmas.List.{take-append-drop}
use Rattle.ifl_base.specs.declared.word.Flag.TheVariants.{Busy}
use Rattle.ifl_ringcore.specs.declared.history.Entry.{Entry}
use Rattle.ifl_ringcore.specs.declared.history.Meaning.{Meaning}
use Rattle.ifl_ringcore.specs.declared.history.Step.{Step}
use Rattle.ifl_ringcore.specs.declared.history.Step.TheVariants.{Look, Refuse, Reserve, Behind, Elected, Abdicating, Advance, LeaveIdle, LeaveAbdicated, Stall, TakeOver}
use Rattle.ifl_ringcore.specs.Conditions.{IsAllowed}
use Rattle.ifl_ringcore.specs.Effects.{effect}
use Rattle.ifl_ringcore.specs.History.{state_after, IsLegalHistory}
use Rattle.ifl_ringcore.specs.Invariant.{RingInvariant, Tends}
use Rattle.ifl_ringcore.specs.Queue.{Queue, joined_by, relieved_of, queue_after_step, queue_after}
use Rattle.ifl_ringcore.specs.State.{RingState, Consumer}
use Rattle.ifl_ringcore.proofs.Keeping.{invariant-effect}
use Rattle.ifl_ringcore.proofs.Standing.{known-within}

-- the queue's items are the ring's, and what was taken is what was released
pub record IsQueueOf (q : Queue) (items : List Meaning) (released : ℕ) : Type 0 where
  pub same : q.taken ++ q.waiting ≡ items
  pub counted : length q.taken ≡ released

joined : (q : Queue) (items xs : List Meaning) (released : ℕ) → IsQueueOf q items released → IsQueueOf (joined_by xs q) (items ++ xs) released
joined q items xs released t = record { same = sym (append_assoc q.taken q.waiting xs) ∙ ap (λ (z : List Meaning). z ++ xs) t.same; counted = t.counted }

relieved : (q : Queue) (items : List Meaning) (released n : ℕ) → IsQueueOf q items released → released + n ≤ length items → IsQueueOf (relieved_of n q) items (released + n)
relieved q items released n t le = let all = ap length t.same in let r = t.counted in record {
  same = append_assoc q.taken (take n q.waiting) (drop n q.waiting) ∙ ap (λ (z : List Meaning). q.taken ++ z) (take-append-drop n q.waiting) ∙ t.same;
  counted = omega (arith, length-append q.taken (take n q.waiting), length-take n q.waiting, length-append q.taken q.waiting);
}

queued : (size : ℕ) (st : RingState) (k : ℕ) (step : Step) (q : Queue) → RingInvariant size st → IsAllowed size st k step → IsQueueOf q st.items st.released
    → IsQueueOf (queue_after_step q step) (effect st k step).items (effect st k step).released
queued size st k Look q g a t = t
queued size st k (Refuse n) q g a t = t
queued size st k (Reserve n) q g a t = t
queued size st k (Behind xs) q g a t = joined q st.items xs st.released t
queued size st k (Elected b xs) q g a t = joined q st.items xs st.released t
queued size st k (Abdicating xs) q g a t = joined q st.items xs st.released t
queued size st k (Advance n) q g a t = let p = g.counted in let l = a.3.4 in relieved q st.items st.released n t (omega arith)
queued size st k (LeaveIdle n) q g a t = let p = g.counted in let l = a.3.3 in relieved q st.items st.released n t (omega arith)
queued size st k (LeaveAbdicated n) q g a t = let p = g.counted in let l = a.3.4 in relieved q st.items st.released n t (omega arith)
queued size st k (Stall n) q g a t = let p = g.counted in let l = a.3.1 in let w = known-within st st.consumer a.0 g.tended a.1 in let u = w.1 in relieved q st.items st.released n t (omega arith)
queued size st k (TakeOver b) q g a t = t

pub queue-history : (size : ℕ) (st : RingState) (es : List Entry) (q : Queue) → RingInvariant size st → IsLegalHistory size st es → IsQueueOf q st.items st.released
    → IsQueueOf (queue_after q es) (state_after st es).items (state_after st es).released
queue-history size st [] q g l t = t
queue-history size st (e ∷ es) q g l t = queue-history size (effect st e.seat e.event) es (queue_after_step q e.event)
    (invariant-effect size st e.seat e.event g l.1) l.2 (queued size st e.seat e.event q g l.1 t)

-- what waits is what is published and not released
pub queue-waiting : (q : Queue) (items : List Meaning) (released : ℕ) → IsQueueOf q items released → length q.waiting ≡ length items - released
queue-waiting q items released t = let all = ap length t.same in let r = t.counted in omega (arith, length-append q.taken q.waiting)

-- a ring is busy exactly where it has a consumer
pub busy-consumer : (st : RingState) (o : Option Consumer) → Tends st o → (st.flag ≡ Busy → IsSome o) × (IsSome o → st.flag ≡ Busy)
busy-consumer st None t = (λ b. absurd (t b), λ s. absurd (search (s, rules)))
busy-consumer st (Some d) t = (λ b. search rules, λ s. t.0)
