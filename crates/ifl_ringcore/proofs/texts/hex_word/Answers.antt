use Rattle.std.proofs.Common.{◌≡◌, ℕ, zero, suc, ◌-◌, ◌/◌, ◌%◌, ◌<◌, ◌≤◌, List, [], ◌∷◌, ◌++◌, length, drop, slice_set, sym, refl, ap, ◌∙◌, arith, rules}
use mathlib.Core.List.{append_assoc}
use Rattle.ifl_ringcore.specs.Texts.{hex_digit, hex_digits}
use Rattle.ifl_ringcore.proofs.texts.hex_word.Goals as goal

drop-set : (xs : List ℕ) (i d : ℕ) → i < length xs → drop i (slice_set xs i d) ≡ d ∷ drop (suc i) xs
drop-set [] i d h = absurd (omega arith)
drop-set (x ∷ xs) zero d h = refl
drop-set (x ∷ xs) (suc i) d h = drop-set xs i d (omega arith)

-- one more digit
digit : (xs : List ℕ) (i n : ℕ) → 0 < i → i ≤ length xs
    → hex_digits i n ++ drop i xs ≡ hex_digits (i - 1) (n / 16) ++ drop (i - 1) (slice_set xs (i - 1) (hex_digit (n % 16)))
unfolding hex_digits
digit xs zero n h l = absurd (omega arith)
digit xs (suc j) n h l = let e : suc j - 1 ≡ j = omega arith in
    rw e (append_assoc (hex_digits j (n / 16)) (hex_digit (n % 16) ∷ []) (drop (suc j) xs) ∙ ap (λ (z : List ℕ). hex_digits j (n / 16) ++ z) (sym (drop-set xs j (hex_digit (n % 16)) (omega arith))))

pub loop-i-preserved : goal.loop-i-preserved
loop-i-preserved c = let h = c.loop-i.invariant in let a = h.0 in let b = h.1 in let p = c.loop-i-test.true in
    (omega arith, search rules, h.2 ∙ digit c.loop-i.digits c.loop-i.i c.loop-i.rest p (omega arith))

pub returns : goal.returns
unfolding hex_digits
returns c = let h = c.loop-i.invariant in let p = c.loop-i-test.false in let z : c.loop-i.i ≡ 0 = omega arith in
    sym (h.2 ∙ ap (λ (i : ℕ). hex_digits i c.loop-i.rest ++ drop i c.loop-i.digits) z)
