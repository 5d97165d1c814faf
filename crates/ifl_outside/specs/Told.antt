-- A host tells what it holds before a call and after it, or it tells neither.
use Rattle.std.specs.Prelude.{Option, Some, None}

-- both are told and stand so, or neither is told
abbrev pub BothTold : {A : Type 0} → Option A → Option A → (A → A → Type 0) → Type 0
BothTold None None R = Unit {0}
BothTold None (Some b) R = ⊥
BothTold (Some a) None R = ⊥
BothTold (Some a) (Some b) R = R a b
