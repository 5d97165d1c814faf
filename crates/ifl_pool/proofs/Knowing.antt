-- What the first pass knows, a joined pass, and the whole pass at the end.
use Rattle.std.proofs.Common.{◌≡◌, ℕ, ◌+◌, ◌≤◌, Bool, List, [], ◌∷◌, ◌++◌, sym, refl, ap, ◌∙◌, subst, arith}
use Rattle.std.specs.Prelude.{◌||◌, IsTrue}
use Rattle.ifl_base.specs.declared.limits.TheConstants.{PART}
use Rattle.ifl_pool.specs.declared.history.Event.TheVariants.{Empty}
use Rattle.ifl_pool.specs.declared.history.Entry.{Entry}
use Rattle.ifl_pool.specs.declared.history.Counts.{Counts}
use Rattle.ifl_pool.specs.declared.known.Known.{Known}
use Rattle.ifl_pool.specs.History.{entry_of, no_counts, counts_after, counts_of, stock_of, IsPoolHistory}
use Rattle.ifl_pool.specs.Passes.{is_one_of, IsPass, Did, new_known}
use Rattle.ifl_pool.specs.Pools.{IsLastCount}
use Rattle.ifl_pool.proofs.Counting.{counts_from-append_one, legal_last, history_within, is_one_of-append}

-- a pass of a full pool that has seen nothing
pub first_pass : (size : ℕ) → IsPass size (new_known 0 PART)
first_pass size = record { alive = omega arith; fits = omega arith; named = refl; legal = tt; counts = refl; whole = λ whole. refl; stands = λ whole. tt }

-- a joined pass still stands for its own number
pub named_after_join : (xs ys : List ℕ) (k : ℕ) → IsTrue (is_one_of xs k) → IsTrue (is_one_of (xs ++ ys) k)
named_after_join xs ys k named = is_one_of-append xs ys k ∙ ap (λ (b : Bool). b || is_one_of ys k) named

-- the whole pass knows what the pool holds
whole_stock : (size : ℕ) (k : Known) → IsPass size k → k.part ≡ PART → stock_of size k.counts + k.counts.taken ≡ size + k.counts.given
whole_stock size k pass whole = let (out, _) = history_within size k.seen pass.legal in
    let counted : k.counts.taken ≤ size + k.counts.given = subst (λ (z : Counts). z.taken ≤ size + z.given) (pass.whole whole) out in omega arith

whole_stock-le : (size : ℕ) (k : Known) → IsPass size k → k.part ≡ PART → stock_of size k.counts ≤ size
whole_stock-le size k pass whole = let (_, back) = history_within size k.seen pass.legal in
    let counted : k.counts.given ≤ k.counts.taken = subst (λ (z : Counts). z.given ≤ z.taken) (pass.whole whole) back in omega arith

-- where the whole pass finds the pool empty, all clusters are out with it
pub all_out : (size : ℕ) (old new : Known) → IsPass size new → Did Empty old new → old.part ≡ PART → size + new.counts.given ≡ new.counts.taken
all_out size old new pass (between, is) old_whole =
    let whole : new.part ≡ PART = ap (λ (z : Known). z.part) is ∙ old_whole in
    let before : List Entry = old.seen ++ between in let e : Entry = entry_of old.number Empty in
    let seen : new.seen ≡ before ++ e ∷ [] = ap (λ (z : Known). z.seen) is in
    let empty : stock_of size (counts_of before) ≡ 0 = legal_last size no_counts before e (subst (IsPoolHistory size) seen pass.legal) in
    let counts : new.counts ≡ counts_after Empty (counts_of before) = sym (pass.whole whole) ∙ ap counts_of seen ∙ counts_from-append_one no_counts before e in
    let given : new.counts.given ≡ (counts_of before).given = ap (λ (z : Counts). z.given) counts in
    let taken : new.counts.taken ≡ (counts_of before).taken = ap (λ (z : Counts). z.taken) counts in
    let stock = whole_stock size new pass whole in omega arith

-- the whole pass knows what is left
pub last_count : (size : ℕ) (k : Known) (count : ℕ) → IsPass size k → k.part ≡ PART → count ≡ stock_of size k.counts → IsLastCount size k count
last_count size k count pass whole is =
    let balance : count + k.counts.taken ≡ size + k.counts.given = ap (λ (z : ℕ). z + k.counts.taken) is ∙ whole_stock size k pass whole in record {
      within = subst (λ (z : ℕ). z ≤ size) (sym is) (whole_stock-le size k pass whole);
      balance = balance;
      closed = record { legal = pass.legal; count = subst (λ (z : Counts). count + z.taken ≡ size + z.given) (sym (pass.whole whole)) balance };
    }
