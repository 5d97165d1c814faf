-- An engine whose port is set.
use Rattle.std.proofs.Common.{◌≡◌, ◌≢◌, ℕ, suc, ◌⊎◌, inl, inr, Bool, true, false, cond, nat_eq, Some, List, [], ◌∷◌, ◌++◌, sym, refl, ap, ◌∙◌, arith, append_assoc}
use Rattle.std.specs.Bool.{OnTrue, OnFalse}
use Rattle.ifl_desc.specs.declared.port.PortState.{PortState}
use Rattle.ifl_desc.specs.declared.port.PortState.TheVariants.{Up, Down, Flush}
use Rattle.ifl_desc.specs.Port.{last_after, state_of}
use Rattle.ifl_device.specs.declared.point.Point.TheVariants as at
use Rattle.ifl_device.specs.Outcomes.{emitted_in}
use Rattle.ifl_device.specs.Engine.{EngineSees, IsEngine, outcomes}
use Rattle.ifl_device.specs.Turns.{IsAt, with_sets, cut, cut_sets}
use Rattle.ifl_device.proofs.Following.{unlike}

last_more : (p s : PortState) (xs : List PortState) → last_after p (xs ++ s ∷ []) ≡ s
last_more p s [] = refl
last_more p s (x ∷ xs) = last_more x s xs

some_is : (m n : ℕ) → m ≡ n → Some m ≡ Some n
some_is m n e = ap Some e

-- the same engine with another port's state, which it may have
pub set_engine : (e : EngineSees) → IsEngine e → (known : List PortState) → (e.plan.by_hand ≡ false → state_of known ≡ Flush → e.plan.flush_after ≡ Some (emitted_in (outcomes e))) → IsEngine (record e { writer = record (e.writer) { known = known } })
set_engine e k known ok = record {
  own = k.own;
  writer = k.writer;
  lawful = k.lawful;
  ready = k.ready;
  same = k.same;
  outcome = k.outcome;
  held = k.held;
  fetched = k.fetched;
  whole = k.whole;
  short = k.short;
  wire = k.wire;
  room = k.room;
  emitted = k.emitted;
  hangs = k.hangs;
  once = k.once;
  planned = λ h. record { ends = (k.planned h).ends; few = (k.planned h).few; within = (k.planned h).within; stopped = ok h };
}

-- the flush of an engine that is at this point comes as planned
flush_planned : (e : EngineSees) → IsEngine e → (e.plan.by_hand ≡ true) ⊎ IsAt at.Stopping e → e.plan.by_hand ≡ false → e.plan.flush_after ≡ Some (emitted_in (outcomes e))
flush_planned e k (inl t) h = absurd (unlike (sym t ∙ h))
flush_planned e k (inr (inl s)) h = (k.planned h).stopped s
flush_planned e k (inr (inr d)) h = d.1 ∙ some_is d.0 (emitted_in (outcomes e)) (let w = (k.planned h).within d.0 d.1 in let l = d.2 in let c = k.emitted in omega arith)

pub stop_engine : (e : EngineSees) → IsEngine e → (e.plan.by_hand ≡ true) ⊎ IsAt at.Stopping e → IsEngine (record e { writer = record (e.writer) { known = e.writer.known ++ Flush ∷ [] } })
stop_engine e k p = set_engine e k (e.writer.known ++ Flush ∷ []) (λ h _. flush_planned e k p h)

pub stop_stops : (known : List PortState) → state_of (known ++ Flush ∷ []) ≡ Flush
stop_stops known = last_more Up Flush known

pub link_stops : (known : List PortState) (s : PortState) → s ≢ Flush → state_of (known ++ s ∷ []) ≢ Flush
link_stops known s n e = n (sym (last_more Up s known) ∙ e)

pub link_engine : (e : EngineSees) → IsEngine e → (s : PortState) → s ≢ Flush → IsEngine (record e { writer = record (e.writer) { known = e.writer.known ++ s ∷ [] } })
link_engine e k s n = set_engine e k (e.writer.known ++ s ∷ []) (λ h z. absurd (link_stops e.writer.known s n z))

-- a flag that says no
pub flag_no : (b : Bool) (P Q : Type 0) → OnTrue b P → (P → ⊥) → (Q → ⊥) → OnTrue b Q × OnFalse b (Q → ⊥)
flag_no true P Q t n m = absurd (n t)
flag_no false P Q t n m = (tt, m)

-- a turn for which the link is lost, in its three steps
pub cut_steps : (a b m z : EngineSees) (first last : Bool) (left : ℕ) → b ≡ with_sets (cond first (Down ∷ []) []) a → m ≡ record b { downs = m.downs } → b.downs ≡ suc m.downs → z ≡ with_sets (cond last (Up ∷ []) []) m
    → first ≡ nat_eq a.downs a.plan.link_down_turns → last ≡ nat_eq m.downs 0 → left ≡ z.downs → (a.downs ≡ suc left) × (z ≡ cut left a)
cut_steps a b m z first last left begins counts one ends is_first is_last is =
    let fewer : m.downs ≡ left = sym (ap (λ (y : EngineSees). y.downs) ends) ∙ sym is in
    let more : a.downs ≡ suc left = sym (ap (λ (y : EngineSees). y.downs) begins) ∙ one ∙ ap suc fewer in
    let down : cond first (Down ∷ []) [] ≡ cond (nat_eq (suc left) a.plan.link_down_turns) (Down ∷ []) [] = ap (λ (y : Bool). cond y (Down ∷ []) []) (is_first ∙ ap (λ (n : ℕ). nat_eq n a.plan.link_down_turns) more) in
    let up : cond last (Up ∷ []) [] ≡ cond (nat_eq left 0) (Up ∷ []) [] = ap (λ (y : Bool). cond y (Up ∷ []) []) (is_last ∙ ap (λ (n : ℕ). nat_eq n 0) fewer) in
    let known : (a.writer.known ++ cond first (Down ∷ []) []) ++ cond last (Up ∷ []) [] ≡ a.writer.known ++ cut_sets a.plan.link_down_turns left =
    append_assoc a.writer.known (cond first (Down ∷ []) []) (cond last (Up ∷ []) []) ∙ (λ i. a.writer.known ++ (down i ++ up i)) in
    (more, ends ∙ ap (with_sets (cond last (Up ∷ []) [])) (counts ∙ ap (λ (y : EngineSees). record y { downs = m.downs }) begins) ∙ (λ i. record a { downs = fewer i; writer = record (a.writer) { known = known i } }))
