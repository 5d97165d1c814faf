-- Texts that were appended one after another were appended together.
use Rattle.std.proofs.Common.{◌≡◌, ℕ, List, ◌++◌, ap, ◌∙◌}
use mathlib.Core.List.{append_assoc}

pub append-twice : (was mid now s t : List ℕ) → mid ≡ was ++ s → now ≡ mid ++ t → now ≡ was ++ (s ++ t)
append-twice was mid now s t first second = second ∙ ap (λ (z : List ℕ). z ++ t) first ∙ append_assoc was s t
