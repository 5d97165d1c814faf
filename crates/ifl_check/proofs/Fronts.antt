-- Texts with the same front, and what stands behind it.
use Rattle.std.proofs.Common.{◌==◌, ◌≡◌, ◌≢◌, ℕ, ◌^◌, ◌<◌, true, false, List, [], ◌∷◌, ◌++◌, length, get_or, take, sym, refl, ap, ◌∙◌, subst, arith}
use Rattle.std.specs.Prelude.{decimal}
use Rattle.std.specs.Str.{bytes_eq}
use Rattle.std.specs.Str.Parse.{AllDigits}
use Rattle.std.proofs.Math.Seq.{take-append_seam}
use Rattle.std.proofs.lemmas.Bool.Decides.{nat_tests}
use Rattle.std.proofs.lemmas.Fmt.{decimal_is_IsNumeral, decimal_injective}
use Rattle.std.proofs.lemmas.List.{append_cancel_left}
use Rattle.std.proofs.lemmas.Slice.Eq.{bytes_eq-Decides}
use Rattle.std.proofs.lemmas.Str.Parse.{digit_from_value}
use mathlib.Core.List.{append_assoc}
use Rattle.ifl_check.specs.Parts.{Lacks}

pub no_front : (text front : List ℕ) → bytes_eq (take (length front) text) front ≡ false → (rest : List ℕ) → text ≢ front ++ rest
no_front text front e rest is =
    let t : bytes_eq (take (length front) text) front ≡ true = (bytes_eq-Decides (take (length front) text) front).1 (ap (take (length front)) is ∙ take-append_seam front rest) in
    let f : true ≡ false = sym t ∙ e in absurd cc

-- a front, and then what does not begin the rest
pub behind_front : (text a b rest : List ℕ) → text ≡ a ++ rest → ((more : List ℕ) → rest ≢ b ++ more) → (more : List ℕ) → text ≢ (a ++ b) ++ more
behind_front text a b rest is never more e = never more (append_cancel_left a rest (b ++ more) (sym is ∙ e ∙ append_assoc a b more))

-- ---- the first of some bytes

pub lacks-behind : (b : ℕ) (xs ys : List ℕ) → Lacks b (xs ++ (b ∷ ys)) → ⊥
lacks-behind b [] ys l = l.0 refl
lacks-behind b (x ∷ xs) ys l = lacks-behind b xs ys l.1

head : (a b : ℕ) (xs ys : List ℕ) → a ∷ xs ≡ b ∷ ys → a ≡ b
head a b xs ys e = ap (λ (z : List ℕ). get_or z 0 0) e

tail : (a b : ℕ) (xs ys : List ℕ) → a ∷ xs ≡ b ∷ ys → xs ≡ ys
tail a b xs ys e = cc

pub cut-same : (b : ℕ) (xs ys us vs : List ℕ) → Lacks b xs → Lacks b us → xs ++ (b ∷ ys) ≡ us ++ (b ∷ vs) → (xs ≡ us) × (ys ≡ vs)
cut-same b [] ys [] vs l m e = (refl, tail b b ys vs e)
cut-same b [] ys (u ∷ us) vs l m e = absurd (m.0 (sym (head b u ys (us ++ (b ∷ vs)) e)))
cut-same b (x ∷ xs) ys [] vs l m e = absurd (l.0 (head x b (xs ++ (b ∷ ys)) vs e))
cut-same b (x ∷ xs) ys (u ∷ us) vs l m e = let h = head x u (xs ++ (b ∷ ys)) (us ++ (b ∷ vs)) e in
    let t = cut-same b xs ys us vs l.1 m.1 (tail x u (xs ++ (b ∷ ys)) (us ++ (b ∷ vs)) e) in (λ i. h i ∷ t.0 i, t.1)

pub not_behind : (b : ℕ) (text xs ys : List ℕ) → Lacks b text → text ≢ xs ++ (b ∷ ys)
not_behind b text xs ys l e = lacks-behind b xs ys (subst (Lacks b) e l)

pub lacks-append : (b : ℕ) (xs ys : List ℕ) → Lacks b xs → Lacks b ys → Lacks b (xs ++ ys)
lacks-append b [] ys l m = m
lacks-append b (x ∷ xs) ys l m = (l.0, lacks-append b xs ys l.1 m)

lacks-digits : (b : ℕ) (ds : List ℕ) → b < 48 → AllDigits 10 ds → Lacks b ds
lacks-digits b [] l h = tt
lacks-digits b (d ∷ ds) l h = let r = digit_from_value d h.0 in (λ e. absurd (let s = r.0 in omega arith), lacks-digits b ds l h.1)

pub lacks-decimal : (b n : ℕ) → b < 48 → n < 2 ^ 64 → Lacks b (decimal n)
lacks-decimal b n l h = lacks-digits b (decimal n) l (decimal_is_IsNumeral n h).0.1

-- numbers before a byte that is no digit
pub number-same : (b m n : ℕ) (ys vs : List ℕ) → b < 48 → m < 2 ^ 64 → n < 2 ^ 64 → decimal m ++ (b ∷ ys) ≡ decimal n ++ (b ∷ vs) → (m ≡ n) × (ys ≡ vs)
number-same b m n ys vs l f g e = let t = cut-same b (decimal m) ys (decimal n) vs (lacks-decimal b m l f) (lacks-decimal b n l g) e in
    (decimal_injective m n f g t.0, t.1)

-- the word before the first of these bytes is the number that stands before it
pub cut-decimal : (b : ℕ) (text word rest : List ℕ) (n : ℕ) (more : List ℕ) → text ≡ word ++ (b ∷ rest) → Lacks b word → b < 48 → n < 2 ^ 64 → text ≡ decimal n ++ (b ∷ more) → (word ≡ decimal n) × (rest ≡ more)
cut-decimal b text word rest n more is l small h e = cut-same b word rest (decimal n) more l (lacks-decimal b n small h) (sym is ∙ e)

-- what does not begin the text does not begin it with more behind it
pub stop_front : (text b more : List ℕ) → ((rest : List ℕ) → text ≢ b ++ rest) → (rest : List ℕ) → text ≢ (b ++ more) ++ rest
stop_front text b more never rest e = never (more ++ rest) (e ∙ append_assoc b more rest)

-- five parts that were read one after another
pub five_parts : (text a b c d e r1 r2 r3 r4 rest : List ℕ) → text ≡ a ++ r1 → r1 ≡ b ++ r2 → r2 ≡ c ++ r3 → r3 ≡ d ++ r4 → r4 ≡ e ++ rest → text ≡ (a ++ (b ++ (c ++ (d ++ e)))) ++ rest
five_parts text a b c d e r1 r2 r3 r4 rest p1 p2 p3 p4 p5 =
    let q4 = p4 ∙ (ap (λ (z : List ℕ). d ++ z) p5 ∙ sym (append_assoc d e rest)) in
    let q3 = p3 ∙ (ap (λ (z : List ℕ). c ++ z) q4 ∙ sym (append_assoc c (d ++ e) rest)) in
    let q2 = p2 ∙ (ap (λ (z : List ℕ). b ++ z) q3 ∙ sym (append_assoc b (c ++ (d ++ e)) rest)) in
    p1 ∙ (ap (λ (z : List ℕ). a ++ z) q2 ∙ sym (append_assoc a (b ++ (c ++ (d ++ e))) rest))

-- the tests of a length
pub empty : (n : ℕ) → (n == 0) ≡ true → n ≡ 0
empty n e = grind (arith, nat_tests)

pub not_empty : (n : ℕ) → (n == 0) ≡ false → n ≡ 0 → ⊥
not_empty n e = grind (arith, nat_tests)
