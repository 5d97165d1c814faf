-- What several steps of an engine did together.
use Rattle.std.proofs.Common.{◌≡◌, ℕ, zero, suc, ◌+◌, ◌<◌, ◌≤◌, ◌⊎◌, inl, inr, Bool, true, false, cond, Some, List, [], ◌∷◌, ◌++◌, length, map, sym, refl, ap, ◌∙◌, subst, arith, append_assoc, length-append}
use mathlib.Core.List.{IsPrefix}
use Rattle.std.specs.List.{flat_map}
use Rattle.std.proofs.lemmas.List.{map-append}
use Rattle.ifl_pcap.specs.File.{record_of}
use Rattle.ifl_desc.specs.declared.desc.Desc.{Desc}
use Rattle.ifl_desc.specs.declared.desc.Status.{Status}
use Rattle.ifl_desc.specs.declared.desc.Status.TheVariants.{Emitted}
use Rattle.ifl_desc.specs.declared.history.Event.{Event}
use Rattle.ifl_desc.specs.Port.{state_of}
use Rattle.ifl_desc.proofs.Closing.{prefix_trans}
use Rattle.ifl_device.specs.declared.plan.EnginePlan.{EnginePlan}
use Rattle.ifl_device.specs.declared.point.Point.TheVariants as at
use Rattle.ifl_device.specs.Adapter.{captured, record_size, returned_as, is_emitted, on_wire}
use Rattle.ifl_device.specs.Wire.{left_in}
use Rattle.ifl_device.specs.Engine.{EngineSees, IsEngine, Returns}
use Rattle.ifl_device.specs.Turns.{LooksOnce, LooksNot, IsTold, IsFull, Moves, IsAt, StopsBefore, MayEmit}
use Rattle.ifl_device.proofs.Engines.{flat_more}

both_on_wire : {X : Type 0} (s : Status) (f g : List X) → on_wire s (f ++ g) ≡ on_wire s f ++ on_wire s g
both_on_wire s f g = by_case (is_emitted s)
  where
    by_case : (b : Bool) → cond b (f ++ g) [] ≡ cond b f [] ++ cond b g []
    by_case true = refl
    by_case false = refl

-- some frames, and then others
pub returns_both : (s : Status) (f g : List (List Desc)) (a m b : EngineSees) → Returns s f a m → Returns s g m b → Returns s (f ++ g) a b
returns_both s f g a m b x y = record {
  ring = y.ring ∙ x.ring;
  port = y.port ∙ x.port;
  plan = y.plan ∙ x.plan;
  writer = y.writer ∙ x.writer;
  room = y.room ∙ x.room;
  cleared = y.cleared ∙ x.cleared;
  downs = y.downs ∙ x.downs;
  goes_on = prefix_trans a.device.seen m.device.seen b.device.seen x.goes_on y.goes_on;
  frames_are = y.frames_are ∙ ap (λ (z : List (List Desc)). z ++ g) x.frames_are ∙ append_assoc _ f g;
  each = map-append (map (returned_as s)) f g ∙ (λ i. x.each i ++ y.each i);
  bytes = y.bytes ∙ ap (λ (z : List ℕ). z ++ flat_map record_of (map captured (on_wire s g))) x.bytes
      ∙ append_assoc a.wire.bytes (flat_map record_of (map captured (on_wire s f))) (flat_map record_of (map captured (on_wire s g)))
      ∙ ap (λ (z : List ℕ). a.wire.bytes ++ z) (sym (ap (λ (z : List (List Desc)). flat_map record_of (map captured z)) (both_on_wire s f g) ∙ ap (flat_map record_of) (map-append captured (on_wire s f) (on_wire s g))
      ∙ flat_more (map captured (on_wire s f)) (map captured (on_wire s g))));
  count = (let i = x.count in let j = y.count in let l = ap length (both_on_wire s f g) in let k = length-append (on_wire s f) (on_wire s g) in omega arith);
}

pub looks_neither : (a m b : EngineSees) → LooksNot a m → LooksNot m b → LooksNot a b
looks_neither a m b x y = (y.0 ∙ x.0, y.1 ∙ x.1)

pub looks_then : (a : List Event) (m b : EngineSees) → LooksOnce a m.device.seen → IsPrefix m.device.seen b.device.seen → LooksNot m b → LooksOnce a b.device.seen
looks_then a m b x p y = record {
  once = y.0 ∙ x.once;
  then = x.then;
  before = x.before;
  after = prefix_trans x.then m.device.seen b.device.seen x.after p;
  all = x.all;
  still = y.1 ∙ x.still;
}

-- so far: these frames were returned with this status after one look; before the first the engine holds what it held, and then nothing
pub record SoFar (s : Status) (a b : EngineSees) (moved : ℕ) : Type 0 where
  pub moves : Moves s moved a b
  pub told : IsTold b
  pub lawful : IsEngine b
  pub first : moved ≡ 0 → (b.held ≡ a.held) × (b.device.fetched ≡ a.device.fetched)
  pub none : 0 < moved → b.held ≡ []

pub moves_on : (s : Status) (a m b : EngineSees) (moved : ℕ) → SoFar s a m moved → ((frame : List Desc) × Returns s (frame ∷ []) m b) → LooksNot m b → IsTold b → b.held ≡ [] → IsEngine b → SoFar s a b (moved + 1)
moves_on s a m b moved f x not told none lawful =
    let fs = f.moves.0.0 in let n = f.moves.0.1 in let l = length-append fs (x.0 ∷ []) in record {
      moves = ((fs ++ x.0 ∷ [], (omega arith), returns_both s fs (x.0 ∷ []) a m b f.moves.0.2 x.1), looks_then a.device.seen m b f.moves.1 x.1.goes_on not);
      told = told;
      lawful = lawful;
      first = λ z. absurd (omega arith);
      none = λ _. none;
    }

pub moves_stop : (s : Status) (a m b : EngineSees) (moved : ℕ) → SoFar s a m moved → Returns s [] m b → LooksNot m b → Moves s moved a b
moves_stop s a m b moved f none not =
    let fs = f.moves.0.0 in let n = f.moves.0.1 in let l = length-append fs [] in
    ((fs ++ [], (let z : length (fs ++ []) ≡ moved = omega arith in z), returns_both s fs [] a m b f.moves.0.2 none), looks_then a.device.seen m b f.moves.1 none.goes_on not)

pub full_by_itself : (b : EngineSees) (need room : ℕ) → IsFull b need room → IsFull b (record_size b.held) (left_in b.wire)
full_by_itself b need room f = let n = f.1 in let r = f.2 in let l = f.3 in (f.0, refl, refl, omega arith)

-- the engine has looked, and returned nothing yet
pub moves_not : (s : Status) (a b : EngineSees) → LooksOnce a.device.seen b.device.seen → Returns s [] a b → IsTold b → IsEngine b → (b.held ≡ a.held) × (b.device.fetched ≡ a.device.fetched) → SoFar s a b 0
moves_not s a b looked none told lawful same = record { moves = (([], refl, none), looked); told = told; lawful = lawful; first = λ _. same; none = λ z. absurd (omega arith) }

le_or_lt : (m n : ℕ) → (m ≤ n) ⊎ (n < m)
le_or_lt zero n = inl (omega arith)
le_or_lt (suc m) zero = inr (omega arith)
le_or_lt (suc m) (suc n) = on (le_or_lt m n)
  where
    on : (m ≤ n) ⊎ (n < m) → (suc m ≤ suc n) ⊎ (suc n < suc m)
    on (inl z) = inl (omega arith)
    on (inr z) = inr (omega arith)

-- as long as fewer are emitted than may be, the next one may be
pub may_emit : (a b : EngineSees) (k moved : ℕ) → IsAt at.Emitting a → StopsBefore a.plan a.emitted k → moved < k → SoFar Emitted a b moved → MayEmit b
may_emit a b k moved p stops few f =
    let r = f.moves.0.2 in let count = r.count in let n = f.moves.0.1 in let emitted : b.emitted ≡ a.emitted + moved = omega arith in
    record {
      unstopped = λ z. p.0 (inl (ap (λ y. state_of y.known) (sym r.writer) ∙ z));
      stops = λ m e. stop m (ap (λ y. y.flush_after) (sym r.plan) ∙ e) emitted;
      hangs = λ c z. subst (λ y. b.emitted < y.hang_after) (sym r.plan) (hang (sym r.cleared ∙ c) (subst (λ y. 0 < y.hang_after) r.plan z) emitted);
    }
  where
    stop : (m : ℕ) → a.plan.flush_after ≡ Some m → b.emitted ≡ a.emitted + moved → b.emitted < m
    stop m e emitted = on (le_or_lt m a.emitted)
      where
        on : (m ≤ a.emitted) ⊎ (a.emitted < m) → b.emitted < m
        on (inl z) = absurd (p.0 (inr (m, e, z)))
        on (inr z) = let s = stops m (inl e) z in omega arith

    hang : a.cleared ≡ false → 0 < a.plan.hang_after → b.emitted ≡ a.emitted + moved → b.emitted < a.plan.hang_after
    hang c z emitted = on (le_or_lt a.plan.hang_after a.emitted)
      where
        on : (a.plan.hang_after ≤ a.emitted) ⊎ (a.emitted < a.plan.hang_after) → b.emitted < a.plan.hang_after
        on (inl y) = absurd (p.1 (z, y, c))
        on (inr y) = let s = stops a.plan.hang_after (inr (inl refl)) y in omega arith

pub stops_sooner : (p : EnginePlan) (n k j : ℕ) → StopsBefore p n k → j ≤ k → StopsBefore p n j
stops_sooner p n k j s less m named more = let l = s m named more in omega arith
