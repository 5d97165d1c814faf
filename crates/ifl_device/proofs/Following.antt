-- What the plan lets the next frame become.
use Rattle.std.proofs.Common.{◌≡◌, ℕ, ◌+◌, ◌<◌, ◌≤◌, ◌⊎◌, inl, inr, Bool, true, false, cond, List, [], ◌∷◌, ◌++◌, length, map, sym, refl, ap, ◌∙◌, subst, arith, append-nil}
use Rattle.std.specs.List.{flat_map}
use Rattle.ifl_pcap.specs.File.{record_of}
use Rattle.ifl_desc.specs.declared.desc.Desc.{Desc}
use Rattle.ifl_desc.specs.declared.desc.Status.{Status}
use Rattle.ifl_desc.specs.declared.desc.Status.TheVariants.{Posted, Emitted, Aborted, Flushed, Filled, Unused}
use Rattle.ifl_desc.specs.Frames.{IsSettled, IsWholeFrame}
use Rattle.ifl_desc.specs.Port.{state_of}
use Rattle.ifl_device.specs.declared.plan.EnginePlan.{EnginePlan}
use Rattle.ifl_device.specs.Adapter.{captured, is_emitted, on_wire, IsOutcome}
use Rattle.ifl_device.specs.Outcomes.{is_aborted, one_if, aborted_in}
use Rattle.ifl_device.specs.Engine.{EngineSees, IsEngine, outcomes, returned}
use Rattle.ifl_device.specs.Turns.{LooksNot, MayEmit, MayReturn, IsVoid}
use Rattle.ifl_device.proofs.Outcomes.{settled, aborted_more, Follows}
use Rattle.ifl_device.proofs.Engines.{some_held}

pub unlike : true ≡ false → ⊥
unlike e = let x = e in cc

pub emit_hangs : (e : EngineSees) → MayEmit e → e.cleared ≡ false → 0 < e.plan.hang_after → e.emitted + 1 ≤ e.plan.hang_after
emit_hangs e may c h = let l = may.hangs c h in omega arith

pub emit_follows : (e : EngineSees) → IsEngine e → MayEmit e → e.plan.by_hand ≡ false → Follows e.plan e.ring.slots (outcomes e) (state_of e.writer.known) Emitted
emit_follows e k may h = record {
  ends = tt;
  few = (let f = (k.planned h).few in omega arith);
  within = λ n z. (let l = may.stops n z in let c = k.emitted in omega arith);
  stopped = λ z. absurd (may.unstopped z);
}

pub void_outcome : (s : Status) → IsVoid s → IsOutcome s
void_outcome s (inl e) = subst IsOutcome (sym e) tt
void_outcome s (inr e) = subst IsOutcome (sym e) tt

pub void_settled : (s : Status) → IsVoid s → IsSettled s
void_settled s is = settled s (void_outcome s is)

not_emitted : (s : Status) → IsVoid s → is_emitted s ≡ false
not_emitted s (inl e) = ap is_emitted e
not_emitted s (inr e) = ap is_emitted e

pub void_bytes : (bytes : List ℕ) (s : Status) → IsVoid s → (fs : List (List Desc)) → bytes ≡ bytes ++ flat_map record_of (map captured (on_wire s fs))
void_bytes bytes s is fs = sym (ap (λ (z : Bool). bytes ++ flat_map record_of (map captured (cond z fs []))) (not_emitted s is) ∙ append-nil bytes)

pub void_count : (n : ℕ) (s : Status) → IsVoid s → n ≡ n + one_if (is_emitted s)
void_count n s is = let z : one_if (is_emitted s) ≡ 0 = ap one_if (not_emitted s is) in omega arith

module _ (e : EngineSees) where
  none_by : (s : Status) → MayReturn s e → e.cleared ≡ false → is_aborted s ≡ false
  none_by Posted m c = refl
  none_by Emitted m c = refl
  none_by Aborted m c = absurd (unlike (sym m.2 ∙ c))
  none_by Flushed m c = refl
  none_by Filled m c = refl
  none_by Unused m c = refl

  pub void_none : (s : Status) → (e.plan.by_hand ≡ true) ⊎ MayReturn s e → e.plan.by_hand ≡ false → e.cleared ≡ false → is_aborted s ≡ false
  void_none s (inl t) h c = absurd (unlike (sym t ∙ h))
  void_none s (inr m) h c = none_by s m c

  follows_by : IsEngine e → IsWholeFrame e.held → (s : Status) → MayReturn s e → e.plan.by_hand ≡ false → Follows e.plan e.ring.slots (outcomes e) (state_of e.writer.known) s
  follows_by k w Posted m h = absurd m
  follows_by k w Emitted m h = absurd m
  follows_by k w Aborted m h = record {
    ends = (m.0, sym k.emitted ∙ m.1);
    few = (let b = m.3 in let f = k.fetched in let l = some_held e.held w in let i = k.lawful.within in omega arith);
    within = λ n z. (let i = (k.planned h).within n z in omega arith);
    stopped = λ z. refl;
  }
  follows_by k w Flushed m h = record {
    ends = (k.planned h).stopped m;
    few = (let f = (k.planned h).few in omega arith);
    within = λ n z. (let i = (k.planned h).within n z in omega arith);
    stopped = λ z. refl;
  }
  follows_by k w Filled m h = absurd m
  follows_by k w Unused m h = absurd m

  pub void_follows : IsEngine e → IsWholeFrame e.held → (s : Status) → (e.plan.by_hand ≡ true) ⊎ MayReturn s e → e.plan.by_hand ≡ false → Follows e.plan e.ring.slots (outcomes e) (state_of e.writer.known) s
  void_follows k w s (inl t) h = absurd (unlike (sym t ∙ h))
  void_follows k w s (inr m) h = follows_by k w s m h

  module _ (b : EngineSees) where
    still_by : (s : Status) → MayReturn s e → b.plan ≡ e.plan → b.ring ≡ e.ring → b.writer ≡ e.writer → b.cleared ≡ e.cleared → b.emitted ≡ e.emitted + one_if (is_emitted s) → outcomes b ≡ outcomes e ++ s ∷ [] → LooksNot e b
        → length (returned e) < length (returned b) → MayReturn s b
    still_by Posted m plan ring writer cleared emitted are looks more = m
    still_by Emitted m plan ring writer cleared emitted are looks more = m
    still_by Aborted m plan ring writer cleared emitted are looks more = (
      subst (λ (z : EnginePlan). 0 < z.hang_after) (sym plan) m.0,
      emitted ∙ (let g : e.emitted + 0 ≡ e.emitted = omega arith in g) ∙ m.1 ∙ ap (λ (z : EnginePlan). z.hang_after) (sym plan),
      cleared ∙ m.2,
      (let a = ap aborted_in are ∙ aborted_more (outcomes e) Aborted in let l = looks.1 in let n = m.3 in let r = ap (λ z. z.slots) ring in omega arith),
    )
    still_by Flushed m plan ring writer cleared emitted are looks more = ap (λ z. state_of z.known) writer ∙ m
    still_by Filled m plan ring writer cleared emitted are looks more = m
    still_by Unused m plan ring writer cleared emitted are looks more = m

    pub void_still : (s : Status) → (e.plan.by_hand ≡ true) ⊎ MayReturn s e → b.plan ≡ e.plan → b.ring ≡ e.ring → b.writer ≡ e.writer → b.cleared ≡ e.cleared → b.emitted ≡ e.emitted + one_if (is_emitted s) → outcomes b ≡ outcomes e ++ s ∷ [] → LooksNot e b
        → length (returned e) < length (returned b) → (b.plan.by_hand ≡ true) ⊎ MayReturn s b
    void_still s (inl t) plan ring writer cleared emitted are looks more = inl (ap (λ (z : EnginePlan). z.by_hand) plan ∙ t)
    void_still s (inr m) plan ring writer cleared emitted are looks more = inr (still_by s m plan ring writer cleared emitted are looks more)
