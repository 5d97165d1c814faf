-- Which numbers a pass owns: a split shares them out, and a join brings them together.
use Rattle.std.proofs.Common.{◌≡◌, ◌≢◌, ℕ, suc, ◌+◌, ◌*◌, ◌/◌, ◌%◌, ◌<◌, ◌≤◌, Bool, true, false, cond, [], ◌∷◌, sym, refl, ap, ◌∙◌, arith, eq-eqb, ne_eqb, div-add-mod'}
use Rattle.std.specs.Prelude.{◌||◌, ◌==◌, IsTrue}
use Rattle.std.proofs.lemmas.Nat.{mod-mul-add, mod_below}
use mathlib.Core.Logic.{dite}
use native.Mathlib.Decide.{ℕ_discrete}
use Rattle.ifl_pool.specs.declared.word.View.{View}
use Rattle.ifl_pool.specs.Passes.{is_one_of}
use Rattle.ifl_pool.specs.Ledger.{one_if, stands_for, is_spare, owns, first_view, view_after_split, view_split_off, view_after_join, spent_view}
use Rattle.ifl_pool.proofs.Counting.{is_one_of-append}

-- ---- a test as a number

pub one_if-true : (b : Bool) → IsTrue b → one_if b ≡ 1
one_if-true b holds = ap one_if holds

pub one_if-le : (b : Bool) → one_if b ≤ 1
one_if-le true = omega arith
one_if-le false = omega arith

pub true_if : (b : Bool) → 1 ≤ one_if b → IsTrue b
true_if true one = refl
true_if false one = absurd (omega arith)

pub false_if : (b : Bool) → one_if b ≡ 0 → b ≡ false
false_if true none = absurd (omega arith)
false_if false none = refl

one_if-equal : (x y : ℕ) → x ≡ y → one_if (x == y) ≡ 1
one_if-equal x y same = ap one_if (eq-eqb x y same)

one_if-unequal : (x y : ℕ) → x ≢ y → one_if (x == y) ≡ 0
one_if-unequal x y differ = ap one_if (ne_eqb x y differ)

-- ---- remainders

mod-below : (a s : ℕ) → a < s → a % s ≡ a
mod-below a s below = ap (λ (z : ℕ). z % s) (let z : a ≡ 0 * s + a = omega arith in z) ∙ mod-mul-add 0 s a below

module _ (k s b : ℕ) (small : b < s) where
  -- a remainder by twice s tells the one by s
  mod-lower_half : k % (s + s) ≡ b → k % s ≡ b
  mod-lower_half is = let q : ℕ = k / (s + s) in let parts : q * (s + s) + k % (s + s) ≡ k = div-add-mod' k (s + s) in
      ap (λ (z : ℕ). z % s) (sym parts ∙ ap (λ (z : ℕ). q * (s + s) + z) is ∙ regroup q) ∙ mod-mul-add (q + q) s b small
    where
      regroup : (q : ℕ) → q * (s + s) + b ≡ (q + q) * s + b
      regroup q = omega arith

  mod-upper_half : k % (s + s) ≡ b + s → k % s ≡ b
  mod-upper_half is = let q : ℕ = k / (s + s) in let parts : q * (s + s) + k % (s + s) ≡ k = div-add-mod' k (s + s) in
      ap (λ (z : ℕ). z % s) (sym parts ∙ ap (λ (z : ℕ). q * (s + s) + z) is ∙ regroup q) ∙ mod-mul-add (suc (q + q)) s b small
    where
      regroup : (q : ℕ) → q * (s + s) + (b + s) ≡ suc (q + q) * s + b
      regroup q = omega arith

-- ---- spare numbers

spare_own : (k : ℕ) (v : View) → k ≡ v.known.number → one_if (is_spare k v) ≡ 0
spare_own k v own = ap (λ (b : Bool). one_if (cond b false ((k % v.stride) == v.known.number))) (eq-eqb k v.known.number own)

spare_other : (k : ℕ) (v : View) → k ≢ v.known.number → one_if (is_spare k v) ≡ one_if ((k % v.stride) == v.known.number)
spare_other k v other = ap (λ (b : Bool). one_if (cond b false ((k % v.stride) == v.known.number))) (ne_eqb k v.known.number other)

-- the number that a split gives away was a spare one
pub spare_given : (v : View) → v.known.number < v.stride → one_if (is_spare (v.known.number + v.stride) v) ≡ 1
spare_given v small = let k : ℕ = v.known.number + v.stride in
    let rest : k % v.stride ≡ v.known.number = ap (λ (z : ℕ). z % v.stride) (let z : v.known.number + v.stride ≡ 1 * v.stride + v.known.number = omega arith in z) ∙ mod-mul-add 1 v.stride v.known.number small in
    spare_other k v (λ same. absurd (omega arith)) ∙ one_if-equal (k % v.stride) v.known.number rest

-- ---- the numbers of the first pass, of both halves, and of a spent pass

single : (number k : ℕ) → one_if (is_one_of (number ∷ []) k) ≡ one_if (number == k)
single number k = ap one_if (same (number == k))
  where
    same : (b : Bool) → cond b true false ≡ b
    same true = refl
    same false = refl

pub owns-first : (k size : ℕ) → owns k (first_view size) ≤ 1
owns-first k size = let v : View = first_view size in let own = single 0 k in dite (ℕ_discrete k 0)
    (λ same. let a = spare_own k v same in let b = one_if-le (0 == k) in omega arith)
    (λ differ. let a = one_if-unequal 0 k (λ same. differ (sym same)) in let b = one_if-le (is_spare k v) in omega arith)

pub owns-split : (k : ℕ) (v : View) → v.known.number < v.stride → owns k (view_after_split v) + owns k (view_split_off v) ≤ owns k v
owns-split k v small =
    let b : ℕ = v.known.number in let s : ℕ = v.stride in let left : View = view_after_split v in let right : View = view_split_off v in
    let named = single (b + s) k in
    let lower : ℕ = one_if ((k % (s + s)) == b) in let upper : ℕ = one_if ((k % (s + s)) == (b + s)) in
    dite (ℕ_discrete k b)
    (λ own. let a = spare_own k left own in let c = spare_own k v own in
    let d = one_if-unequal (b + s) k (λ same. absurd (omega arith)) in
    let e = spare_other k right (λ same. absurd (let z : b ≡ b + s = sym own ∙ same in omega arith)) in
    let rest : k % (s + s) ≡ b = ap (λ (z : ℕ). z % (s + s)) own ∙ mod-below b (s + s) (omega arith) in
    let f = one_if-unequal (k % (s + s)) (b + s) (λ same. absurd (let z : b ≡ b + s = sym rest ∙ same in omega arith)) in omega arith)
    (λ other. let a = spare_other k left other in let c = spare_other k v other in
    dite (ℕ_discrete k (b + s))
    (λ given. let d = one_if-equal (b + s) k (sym given) in let e = spare_own k right given in
    let rest : k % (s + s) ≡ b + s = ap (λ (z : ℕ). z % (s + s)) given ∙ mod-below (b + s) (s + s) (omega arith) in
    let f = one_if-unequal (k % (s + s)) b (λ same. absurd (let z : b ≡ b + s = sym same ∙ rest in omega arith)) in
    let g = one_if-equal (k % s) b (mod-upper_half k s b small rest) in omega arith)
    (λ neither. let d = one_if-unequal (b + s) k (λ same. neither (sym same)) in let e = spare_other k right neither in
    dite (ℕ_discrete (k % s) b)
    (λ spare. let f = one_if-equal (k % s) b spare in
    dite (ℕ_discrete (k % (s + s)) b)
    (λ low. let g = one_if-equal (k % (s + s)) b low in let h = one_if-unequal (k % (s + s)) (b + s) (λ same. absurd (let z : b ≡ b + s = sym low ∙ same in omega arith)) in omega arith)
    (λ high. let g = one_if-unequal (k % (s + s)) b high in let h = one_if-le ((k % (s + s)) == (b + s)) in omega arith))
    (λ not_spare. let f = one_if-unequal (k % (s + s)) b (λ low. not_spare (mod-lower_half k s b small low)) in
    let g = one_if-unequal (k % (s + s)) (b + s) (λ high. not_spare (mod-upper_half k s b small high)) in omega arith)))

-- a pass that was joined stands for the numbers of both, where no number is in both
pub stands_for-join : (k : ℕ) (v w : View) → owns k v + owns k w ≤ 1 → stands_for k (view_after_join v w) ≡ stands_for k v + stands_for k w
stands_for-join k v w once = ap one_if (is_one_of-append v.known.numbers w.known.numbers k) ∙ either (is_one_of v.known.numbers k) (is_one_of w.known.numbers k) (omega arith)
  where
    either : (a b : Bool) → one_if a + one_if b ≤ 1 → one_if (a || b) ≡ one_if a + one_if b
    either true true once = absurd (omega arith)
    either true false once = refl
    either false true once = refl
    either false false once = refl

pub owns-spent : (k : ℕ) → owns k spent_view ≡ 0
owns-spent k = let none = not_spare in omega arith
  where
    not_spare : one_if (is_spare k spent_view) ≡ 0
    not_spare = dite (ℕ_discrete k 1) (λ own. spare_own k spent_view own) (λ other. spare_other k spent_view other ∙ one_if-unequal (k % 1) 1 (λ same. absurd (let z : k % 1 < 1 = mod_below k 1 (omega arith) in omega arith)))
