-- How all frames that are rung are returned without being emitted.
use Rattle.std.proofs.Common.{◌≡◌, ℕ, ◌+◌, ◌<◌, ◌≤◌, ◌⊎◌, inl, inr, Bool, true, false, List, [], ◌∷◌, length, map, sym, refl, ap, ◌∙◌, subst, arith, append-nil}
use Rattle.ifl_desc.specs.declared.desc.Desc.{Desc}
use Rattle.ifl_desc.specs.declared.desc.Status.{Status}
use Rattle.ifl_desc.specs.declared.desc.Status.TheVariants.{Posted, Emitted, Aborted, Flushed, Filled, Unused}
use Rattle.ifl_desc.specs.declared.history.Side.TheVariants.{Device}
use Rattle.ifl_desc.specs.History.{known}
use Rattle.ifl_desc.specs.Port.{state_of}
use Rattle.ifl_device.specs.declared.plan.EnginePlan.{EnginePlan}
use Rattle.ifl_desc.specs.Frames.{frames_of}
use Rattle.ifl_device.specs.Adapter.{status_of, on_wire}
use Rattle.ifl_device.specs.Outcomes.{aborted_in}
use Rattle.ifl_device.specs.Engine.{EngineSees, IsEngine, Returns, outcomes, returned}
use Rattle.ifl_device.specs.Turns.{LooksOnce, LooksNot, IsTold, MayEmit, MayVoid, MayEmpty, MayReturn, Resets}
use Rattle.ifl_device.proofs.Outcomes.{on_wire_none}
use Rattle.ifl_device.proofs.Moves.{SoFar, moves_on, moves_not, returns_both, looks_neither}

-- nothing was emitted where nothing was returned
none_count : (s : Status) (a b : EngineSees) → Returns s [] a b → b.emitted ≡ a.emitted
none_count s a b x = let l : length (on_wire {X = List Desc} s []) ≡ 0 = ap length (on_wire_none s) in let c = x.count in omega arith

plan_hang : (a b : EngineSees) → b.plan ≡ a.plan → b.plan.hang_after ≡ a.plan.hang_after
plan_hang a b e = ap (λ (z : EnginePlan). z.hang_after) e

-- all that is rung is fewer than the ring has slots
pub few_rung : (b : EngineSees) → IsEngine b → known Device b.device.seen < b.ring.slots + length (returned b)
few_rung b k = let o = k.lawful.lawful.order b.device.seen ([], append-nil b.device.seen) in let t = o.told in let h = o.heard in let w = o.within in let own = ap (λ z. z.slots) k.own in omega arith

-- what may be emptied may be emptied frame by frame, after the look
module _ (a b : EngineSees) where
  begin_by : (s : Status) → MayEmpty s a → Returns s [] a b → returned b ≡ returned a → IsEngine b → MayReturn s b
  begin_by Posted m x r k = m
  begin_by Emitted m x r k = m
  begin_by Aborted m x r k = (
    subst (λ (z : EnginePlan). 0 < z.hang_after) (sym x.plan) m.0,
    none_count Aborted a b x ∙ m.1 ∙ sym (plan_hang a b x.plan),
    x.cleared ∙ m.2,
    (let z = ap (λ (y : List Desc). aborted_in (map status_of (frames_of y))) r ∙ m.3 in let f = few_rung b k in omega arith),
  )
  begin_by Flushed m x r k = ap (λ z. state_of z.known) x.writer ∙ m
  begin_by Filled m x r k = m
  begin_by Unused m x r k = m

  hold_by : (s : Status) → MayReturn s a → Returns s [] a b → returned b ≡ returned a → LooksNot a b → MayReturn s b
  hold_by Posted m x r l = m
  hold_by Emitted m x r l = m
  hold_by Aborted m x r l = (
    subst (λ (z : EnginePlan). 0 < z.hang_after) (sym x.plan) m.0,
    none_count Aborted a b x ∙ m.1 ∙ sym (plan_hang a b x.plan),
    x.cleared ∙ m.2,
    (let z = ap (λ (y : List Desc). aborted_in (map status_of (frames_of y))) r in let n = ap length r in let p = ap (λ y. y.slots) x.ring in let q = l.1 in let f = m.3 in omega arith),
  )
  hold_by Flushed m x r l = ap (λ z. state_of z.known) x.writer ∙ m
  hold_by Filled m x r l = m
  hold_by Unused m x r l = m

  pub void_begins : (s : Status) → (a.plan.by_hand ≡ true) ⊎ MayEmpty s a → Returns s [] a b → returned b ≡ returned a → IsEngine b → (b.plan.by_hand ≡ true) ⊎ MayReturn s b
  void_begins s (inl t) x r k = inl (ap (λ (z : EnginePlan). z.by_hand) x.plan ∙ t)
  void_begins s (inr m) x r k = inr (begin_by s m x r k)

-- so many frames were returned since the look, and each has an entry
pub record Voiding (s : Status) (a b : EngineSees) (done : ℕ) : Type 0 where
  pub so_far : SoFar s a b done
  pub many : done + length (returned a) ≤ length (returned b)
  pub bound : known Device b.device.seen < a.ring.slots + length (returned a)
  pub may : (b.plan.by_hand ≡ true) ⊎ MayReturn s b

pub voids_not : (s : Status) (a b : EngineSees) → (a.plan.by_hand ≡ true) ⊎ MayEmpty s a → LooksOnce a.device.seen b.device.seen → ((s : Status) → Returns s [] a b) → IsTold b → IsEngine b → returned b ≡ returned a
    → (b.held ≡ a.held) × (b.device.fetched ≡ a.device.fetched) → Voiding s a b 0
voids_not s a b may looked none told k kept same = record {
  so_far = moves_not s a b looked (none s) told k same;
  many = (let l = ap length kept in omega arith);
  bound = (let f = few_rung b k in let l = ap length kept in let r = ap (λ z. z.slots) (none s).ring in omega arith);
  may = void_begins a b s may (none s) kept k;
}

pub voids_on : (s : Status) (a b h v : EngineSees) (done : ℕ) → Voiding s a b done → Returns s [] b h → LooksNot b h → returned h ≡ returned b → ((frame : List Desc) × Returns s (frame ∷ []) h v) → LooksNot h v → IsTold v → v.held ≡ [] → IsEngine v
    → length (returned h) < length (returned v) → (v.plan.by_hand ≡ true) ⊎ MayReturn s v → Voiding s a v (done + 1)
voids_on s a b h v done f x not kept y nor told none k more may =
    let l = looks_neither b h v not nor in record {
      so_far = moves_on s a b v done f.so_far (y.0, returns_both s [] (y.0 ∷ []) b h v x y.1) l told none k;
      many = (let m = f.many in let n = ap length kept in omega arith);
      bound = (let m = f.bound in let n = l.1 in omega arith);
      may = may;
    }

-- the next frame may be emitted as well once it is held
pub emit_holds : (a b : EngineSees) → MayEmit a → Returns Emitted [] a b → MayEmit b
emit_holds a b may x = let same : b.emitted ≡ a.emitted = none_count Emitted a b x in record {
  unstopped = λ z. may.unstopped (ap (λ y. state_of y.known) (sym x.writer) ∙ z);
  stops = λ m e. (let l = may.stops m (ap (λ (y : EnginePlan). y.flush_after) (sym x.plan) ∙ e) in omega arith);
  hangs = λ c z. (let h = plan_hang a b x.plan in let l = may.hangs (sym x.cleared ∙ c) (omega arith) in omega arith);
}

yes_or_no : (b : Bool) → (b ≡ true) ⊎ (b ≡ false)
yes_or_no true = inl refl
yes_or_no false = inr refl

-- an engine that may be emptied by its plan may be once its hang is over
module _ (a m : EngineSees) (k : IsEngine a) (r : Resets a m) where
  allowed_by : (s : Status) → a.plan.by_hand ≡ false → MayVoid s a → MayEmpty s m
  allowed_by Posted h x = x
  allowed_by Emitted h x = absurd x
  allowed_by Aborted h x =
      let hung = x.1 in let most = k.hangs hung.2 hung.0 in let least = hung.1 in
      let emitted : a.emitted ≡ a.plan.hang_after = omega arith in
      let none : aborted_in (outcomes a) ≡ 0 = k.once h hung.2 in
      let cleared : m.cleared ≡ true = r.over least in
      (subst (λ (z : EngineSees). 0 < z.plan.hang_after) (sym r.same) hung.0, ap (λ (z : EngineSees). z.emitted) r.same ∙ emitted ∙ ap (λ (z : EngineSees). z.plan.hang_after) (sym r.same), cleared, ap (λ (z : EngineSees). aborted_in (outcomes z)) r.same ∙ none)
  allowed_by Flushed h x = ap (λ (z : EngineSees). state_of z.writer.known) r.same ∙ x
  allowed_by Filled h x = x
  allowed_by Unused h x = x

  pub void_allowed : (s : Status) → (a.plan.by_hand ≡ true) ⊎ MayVoid s a → (m.plan.by_hand ≡ true) ⊎ MayEmpty s m
  void_allowed s (inl t) = inl (ap (λ (z : EngineSees). z.plan.by_hand) r.same ∙ t)
  void_allowed s (inr x) = on (yes_or_no a.plan.by_hand)
    where
      on : (a.plan.by_hand ≡ true) ⊎ (a.plan.by_hand ≡ false) → (m.plan.by_hand ≡ true) ⊎ MayEmpty s m
      on (inl t) = inl (ap (λ (z : EngineSees). z.plan.by_hand) r.same ∙ t)
      on (inr h) = inr (allowed_by s h x)
