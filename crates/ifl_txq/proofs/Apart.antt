-- Chains that are taken apart.
use Rattle.std.proofs.Common.{◌≡◌, ℕ, ◌+◌, ◌-◌, Bool, false, cond, ltb, List, [], ◌∷◌, ◌++◌, length, sym, refl, ap, ◌∙◌, arith, append-nil, length-append}
use Rattle.std.proofs.lemmas.Bool.Decides.{nat_tests}
use Rattle.ifl_mbuf.specs.Segment.{Segment, bytes_of, numbers_of, size}
use Rattle.ifl_mbuf.specs.Trim.{without_first, behind}

not_below : (a r : ℕ) → ltb (a + r) a ≡ false
not_below a r = grind (arith, nat_tests)

-- without all its bytes a chain is empty
pub all_gone : (ss : List Segment) → without_first (size ss) ss ≡ []
all_gone [] = refl
all_gone (s ∷ ss) =
    let n : size (s ∷ ss) ≡ length s.bytes + size ss = length-append s.bytes (bytes_of ss) in
    ap (λ (b : Bool). cond b (behind (size (s ∷ ss)) s ∷ ss) (without_first (size (s ∷ ss) - length s.bytes) ss)) (ap (λ (z : ℕ). ltb z (length s.bytes)) n ∙ not_below (length s.bytes) (size ss))
    ∙ ap (λ (z : ℕ). without_first z ss) (let g : size (s ∷ ss) - length s.bytes ≡ size ss = omega arith in g) ∙ all_gone ss

pub clusters_are : (freed : List ℕ) (now before : List Segment) (n : ℕ) → n ≡ size before → now ≡ without_first n before → freed ++ numbers_of now ≡ numbers_of before → freed ≡ numbers_of before
clusters_are freed now before n is kept all =
    let none : now ≡ [] = kept ∙ ap (λ (z : ℕ). without_first z before) is ∙ all_gone before in
    sym (append-nil freed) ∙ ap (λ (z : List Segment). freed ++ numbers_of z) (sym none) ∙ all
