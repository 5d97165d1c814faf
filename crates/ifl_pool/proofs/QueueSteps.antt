-- Each step on the queue keeps its rule.
use Rattle.std.proofs.Common.{◌≡◌, ◌≢◌, ℕ, ◌+◌, ◌<◌, ◌≤◌, List, [], ◌∷◌, length, set, sym, refl, ap, ◌∙◌, subst, ⊎_elim, arith, length-append}
use Rattle.std.specs.Prelude.{⊤}
use Rattle.std.proofs.lemmas.List.Sums.{sum_by_push}
use Rattle.std.proofs.Math.Nat.{div-le_self}
use mathlib.Core.Option.{some}
use lib.ListN.{get_elem?}
use Rattle.atomic_table.proofs.Lists.{at_set}
use Rattle.crossbeam_queue.specs.Fifo.{Pushes, Pops, Forks, Merges, Learns}
use Rattle.ifl_base.specs.declared.limits.TheConstants.{PART}
use Rattle.ifl_pool.specs.declared.moves.Moved.{Moved}
use Rattle.ifl_pool.specs.Queue.{spent_moved, moved_after_fill, moved_after_pop, moved_after_push, moved_after_split, moved_split_off, moved_after_join, share_of, pops_of, pushes_of, IsConserved}
use Rattle.ifl_pool.proofs.Sums.{get_elem?-append_one, sum_by-set_at, sum_by-set_same, two-le-sum_by}

pub pops : (id : ℕ) (m : Moved) → Pops IsConserved id m (λ _ n. n ≡ moved_after_pop m)
pops id m x items views rule at = let n : Moved = moved_after_pop m in
    let a = sum_by-set_at pops_of views id m n at in let b = sum_by-set_same pushes_of views id m n at refl in let count = rule.count in (
      n,
      record {
        filled = rule.filled;
        count = omega arith;
        known = λ j u there alive. ⊎_elim (λ (p : (j ≡ id) × (n ≡ u)). ap (λ (z : Moved). z.filled) (sym p.1) ∙ rule.known id m at (subst (λ (z : Moved). 0 < z.part) (sym p.1) alive)) (λ (p : (j ≢ id) × (get_elem? views j ≡ some u)). rule.known j u p.1 alive) (at_set views id j n u there);
        parts = sum_by-set_same share_of views id m n at refl ∙ rule.parts;
      },
      refl,
    )

pub pushes : (capacity id : ℕ) (m : Moved) (x : ℕ) → Pushes IsConserved capacity id m x (λ n. n ≡ moved_after_push m)
pushes capacity id m x items views _ rule at = let n : Moved = moved_after_push m in
    let a = sum_by-set_at pushes_of views id m n at in let b = sum_by-set_same pops_of views id m n at refl in let count = rule.count in let more = length-append items (x ∷ []) in (
      n,
      record {
        filled = rule.filled;
        count = omega arith;
        known = λ j u there alive. ⊎_elim (λ (p : (j ≡ id) × (n ≡ u)). ap (λ (z : Moved). z.filled) (sym p.1) ∙ rule.known id m at (subst (λ (z : Moved). 0 < z.part) (sym p.1) alive)) (λ (p : (j ≢ id) × (get_elem? views j ≡ some u)). rule.known j u p.1 alive) (at_set views id j n u there);
        parts = sum_by-set_same share_of views id m n at refl ∙ rule.parts;
      },
      refl,
    )

-- only the whole pass fills, so that no other has to know of it
pub fills : (capacity id : ℕ) (m : Moved) (x : ℕ) → m.part ≡ PART → Pushes IsConserved capacity id m x (λ n. n ≡ moved_after_fill m)
fills capacity id m x whole items views _ rule at = let n : Moved = moved_after_fill m in
    let a = sum_by-set_same pushes_of views id m n at refl in let b = sum_by-set_same pops_of views id m n at refl in let count = rule.count in let more = length-append items (x ∷ []) in
    let filled : m.filled ≡ rule.filled = rule.known id m at (omega arith) in (
      n,
      record {
        filled = rule.filled + 1;
        count = omega arith;
        known = λ j u there alive. ⊎_elim (λ (p : (j ≡ id) × (n ≡ u)). ap (λ (z : Moved). z.filled) (sym p.1) ∙ ap (λ (z : ℕ). z + 1) filled)
            (λ (p : (j ≢ id) × (get_elem? views j ≡ some u)). let two = two-le-sum_by share_of views id j m u (λ same. p.0 (sym same)) at p.1 in let parts = rule.parts in absurd (omega arith)) (at_set views id j n u there);
        parts = sum_by-set_same share_of views id m n at refl ∙ rule.parts;
      },
      refl,
    )

pub forks : (id : ℕ) (m : Moved) → 2 ≤ m.part → Forks IsConserved id m (moved_after_split m) (moved_split_off m)
forks id m two items views rule at = let left : Moved = moved_after_split m in let right : Moved = moved_split_off m in let ms : List Moved = set views id left in
    let a = sum_by-set_same pops_of views id m left at refl in let b = sum_by-set_same pushes_of views id m left at refl in
    let c = sum_by_push pops_of ms right in let d = sum_by_push pushes_of ms right in let count = rule.count in
    let e = sum_by-set_at share_of views id m left at in let f = sum_by_push share_of ms right in let parts = rule.parts in let half = div-le_self m.part 2 in
    let filled : m.filled ≡ rule.filled = rule.known id m at (omega arith) in record {
      filled = rule.filled;
      count = omega arith;
      known = λ j u there alive. ⊎_elim (λ (q : get_elem? ms j ≡ some u). ⊎_elim (λ (p : (j ≡ id) × (left ≡ u)). ap (λ (z : Moved). z.filled) (sym p.1) ∙ filled) (λ (p : (j ≢ id) × (get_elem? views j ≡ some u)). rule.known j u p.1 alive) (at_set views id j left u q))
          (λ (q : (j ≡ length ms) × (right ≡ u)). ap (λ (z : Moved). z.filled) (sym q.1) ∙ filled) (get_elem?-append_one ms right u j there);
      parts = omega arith;
    }

pub merges : (id : ℕ) (m : Moved) (other : ℕ) (n : Moved) → 0 < m.part → Merges IsConserved id m other n (moved_after_join m n) spent_moved
merges id m other n alive items views rule at two there = let both : Moved = moved_after_join m n in let ms : List Moved = set views id both in
    let a = sum_by-set_at pops_of views id m both at in let b = sum_by-set_at pops_of ms other n spent_moved there in
    let c = sum_by-set_at pushes_of views id m both at in let d = sum_by-set_at pushes_of ms other n spent_moved there in let count = rule.count in
    let e = sum_by-set_at share_of views id m both at in let f = sum_by-set_at share_of ms other n spent_moved there in let parts = rule.parts in record {
      filled = rule.filled;
      count = omega arith;
      known = λ j u at' live. ⊎_elim (λ (p : (j ≡ other) × (spent_moved ≡ u)). absurd (let z : 0 < 0 = subst (λ (z : Moved). 0 < z.part) (sym p.1) live in omega arith))
          (λ (p : (j ≢ other) × (get_elem? ms j ≡ some u)). ⊎_elim (λ (q : (j ≡ id) × (both ≡ u)). ap (λ (z : Moved). z.filled) (sym q.1) ∙ rule.known id m at alive) (λ (q : (j ≢ id) × (get_elem? views j ≡ some u)). rule.known j u q.1 live) (at_set views id j both u p.1)) (at_set ms other j spent_moved u at');
      parts = omega arith;
    }

-- nothing is to be learned
pub learns_nothing : (id : ℕ) (m : Moved) → Learns IsConserved id m (λ _. ⊤)
learns_nothing id m items views rule at = tt
