-- Captures with the room of their senders, one behind the other.
use Rattle.std.proofs.Common.{◌≡◌, ℕ, suc, ◌+◌, List, [], ◌∷◌, ◌++◌, length, refl, ap, subst, arith}
use Rattle.ifl_pcap.specs.declared.capture.Capture.{Capture}
use Rattle.ifl_line.specs.declared.making.Load.{Load}
use Rattle.ifl_line.specs.Loads.{AreLoads, loaded}

pub loaded-append : (xs ys : List Load) → loaded (xs ++ ys) ≡ loaded xs ++ loaded ys
loaded-append [] ys = refl
loaded-append (x ∷ xs) ys = ap (λ (z : List Capture). x.capture ∷ z) (loaded-append xs ys)

pub length-loaded : (xs : List Load) → length (loaded xs) ≡ length xs
length-loaded [] = refl
length-loaded (x ∷ xs) = ap suc (length-loaded xs)

pub loads_more : (s : ℕ) (xs ys : List Load) → AreLoads s xs → AreLoads (s + length xs) ys → AreLoads s (xs ++ ys)
loads_more s [] ys a b = let e : s + 0 ≡ s = omega arith in subst (λ (z : ℕ). AreLoads z ys) e b
loads_more s (x ∷ xs) ys (ready, is, more) b = let e : s + suc (length xs) ≡ s + 1 + length xs = omega arith in
    (ready, is, loads_more (s + 1) xs ys more (subst (λ (z : ℕ). AreLoads z ys) e b))
