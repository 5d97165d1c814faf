-- What taking and giving several slots does to those at home.
use Rattle.std.proofs.Common.{◌≡◌, ◌≢◌, ℕ, zero, suc, ◌+◌, ◌%◌, ◌<◌, ◌≤◌, List, ◌∷◌, length, set, sym, refl, ap, ◌∙◌, arith, length-set}
use mathlib.Core.Option.{some, none}
use mathlib.Core.Option as maybe
use mathlib.Core.Logic.{dite}
use native.Mathlib.Decide.{ℕ_discrete, dec_le}
use lib.ListN.{get_elem?}
use Rattle.atomic_table.specs.Table.{carried_after, homes_after, Valid}
use Rattle.atomic_table.proofs.Lists.{set_here, set_else, one_turn}
use Rattle.ifl_ring.specs.Acts.{take_all, out_all}

-- two numbers in one turn lie in two slots
pub apart : (size b m j : ℕ) → b ≤ m → m < b + size → b ≤ j → j < b + size → m ≢ j → m % size ≢ j % size
apart size b m j bm mb bj jb ne e = dite (dec_le m j) (λ le. ne (one_turn m j size le (omega arith) e)) (λ gt. ne (sym (one_turn j m size (omega arith) (omega arith) (sym e))))

module _ {S : Type 0} (f : ℕ → S) (size : ℕ) where
  pub out_carried : (a n : ℕ) (c : List (ℕ × S)) → carried_after c (take_all f size a n) ≡ out_all f size a n c
  out_carried a zero c = refl
  out_carried a (suc n) c = ap (λ (z : List (ℕ × S)). (a % size, f a) ∷ z) (out_carried (a + 1) n c)

  pub out_long : (a n : ℕ) (hs : List (maybe.Option S)) (c : List (ℕ × S)) → length (homes_after hs c (take_all f size a n)) ≡ length hs
  out_long a zero hs c = refl
  out_long a (suc n) hs c = length-set (homes_after hs c (take_all f size (a + 1) n)) (a % size) none ∙ out_long (a + 1) n hs c

  pub out_else : (a n i : ℕ) (hs : List (maybe.Option S)) (c : List (ℕ × S)) → ((j : ℕ) → a ≤ j → j < a + n → i ≢ j % size) → get_elem? (homes_after hs c (take_all f size a n)) i ≡ get_elem? hs i
  out_else a zero i hs c away = refl
  out_else a (suc n) i hs c away = set_else (homes_after hs c (take_all f size (a + 1) n)) (a % size) i none (away a (omega arith) (omega arith)) ∙ out_else (a + 1) n i hs c (λ j l h. away j (omega arith) (omega arith))

  pub out_here : (a n m : ℕ) (hs : List (maybe.Option S)) (c : List (ℕ × S)) → a ≤ m → m < a + n → m % size < length hs → get_elem? (homes_after hs c (take_all f size a n)) (m % size) ≡ some none
  out_here a zero m hs c l h near = absurd (omega arith)
  out_here a (suc n) m hs c l h near = let inner : List (maybe.Option S) = homes_after hs c (take_all f size (a + 1) n) in let long : length inner ≡ length hs = out_long (a + 1) n hs c in
      dite (ℕ_discrete (m % size) (a % size))
      (λ is. ap (get_elem? (set inner (a % size) none)) is ∙ set_here inner (a % size) none (omega arith))
      (λ ne. set_else inner (a % size) (m % size) none ne ∙ out_here (a + 1) n m hs c (let other : a ≢ m = (λ e. ne (ap (λ (z : ℕ). z % size) (sym e))) in omega arith) (omega arith) near)

  pub out_valid : (a n : ℕ) (hs : List (maybe.Option S)) (c : List (ℕ × S)) → n ≤ size → ((j : ℕ) → a ≤ j → j < a + n → get_elem? hs (j % size) ≡ some (some (f j))) → Valid hs c (take_all f size a n)
  out_valid a zero hs c small at = tt
  out_valid a (suc n) hs c small at = (
    out_valid (a + 1) n hs c (omega arith) (λ j l h. at j (omega arith) (omega arith)),
    out_else (a + 1) n (a % size) hs c (λ j l h. apart size a a j (omega arith) (omega arith) (omega arith) (omega arith) (omega arith)) ∙ at a (omega arith) (omega arith),
  )
