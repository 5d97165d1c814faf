-- The counts of a history.
use Rattle.std.proofs.Common.{◌≡◌, ℕ, suc, ◌+◌, ◌≤◌, Bool, true, false, cond, List, [], ◌∷◌, ◌++◌, length, sym, refl, ap, ◌∙◌, subst, arith, length-append, append-nil, append_assoc}
use Rattle.std.specs.Prelude.{◌||◌, ◌==◌, IsTrue}
use Rattle.ifl_pool.specs.declared.history.Event.{Event}
use Rattle.ifl_pool.specs.declared.history.Event.TheVariants.{Take, Give, Empty}
use Rattle.ifl_pool.specs.declared.history.Entry.{Entry}
use Rattle.ifl_pool.specs.declared.history.Counts.{Counts}
use Rattle.ifl_pool.specs.History.{no_counts, counts_after, counts_sum, counts_from, counts_of, stock_of, IsLegalEvent, IsLegalFrom, IsPoolHistory, IsPrefix}
use Rattle.ifl_pool.specs.Passes.{is_one_of, own_counts_from, AllBear, NoneBears}

-- ---- prefixes

pub prefix_refl : (history : List Entry) → IsPrefix history history
prefix_refl history = ([], append-nil history)

pub prefix_empty : (history : List Entry) → IsPrefix [] history
prefix_empty history = (history, refl)

pub prefix_trans : (a b c : List Entry) → IsPrefix a b → IsPrefix b c → IsPrefix a c
prefix_trans a b c p q = (p.0 ++ q.0, sym (append_assoc a p.0 q.0) ∙ ap (λ (z : List Entry). z ++ q.0) p.1 ∙ q.1)

pub prefix_more : (seen history : List Entry) (e : Entry) → IsPrefix seen history → IsPrefix seen (history ++ e ∷ [])
prefix_more seen history e p = prefix_trans seen history (history ++ e ∷ []) p (e ∷ [], refl)

-- ---- one entry more

pub counts_from-append_one : (c : Counts) (history : List Entry) (e : Entry) → counts_from c (history ++ e ∷ []) ≡ counts_after e.event (counts_from c history)
counts_from-append_one c [] e = refl
counts_from-append_one c (x ∷ xs) e = counts_from-append_one (counts_after x.event c) xs e

own_counts_from-append_one : (c : Counts) (numbers : List ℕ) (history : List Entry) (e : Entry)
    → own_counts_from c numbers (history ++ e ∷ []) ≡ cond (is_one_of numbers e.pass) (counts_after e.event (own_counts_from c numbers history)) (own_counts_from c numbers history)
own_counts_from-append_one c numbers [] e = refl
own_counts_from-append_one c numbers (x ∷ xs) e = own_counts_from-append_one (cond (is_one_of numbers x.pass) (counts_after x.event c) c) numbers xs e

pub own_counts_from-append_own : (c : Counts) (numbers : List ℕ) (history : List Entry) (e : Entry) → IsTrue (is_one_of numbers e.pass)
    → own_counts_from c numbers (history ++ e ∷ []) ≡ counts_after e.event (own_counts_from c numbers history)
own_counts_from-append_own c numbers history e own = own_counts_from-append_one c numbers history e
    ∙ ap (λ (b : Bool). cond b (counts_after e.event (own_counts_from c numbers history)) (own_counts_from c numbers history)) own

pub own_counts_from-append_other : (c : Counts) (numbers : List ℕ) (history : List Entry) (e : Entry) → is_one_of numbers e.pass ≡ false
    → own_counts_from c numbers (history ++ e ∷ []) ≡ own_counts_from c numbers history
own_counts_from-append_other c numbers history e other = own_counts_from-append_one c numbers history e
    ∙ ap (λ (b : Bool). cond b (counts_after e.event (own_counts_from c numbers history)) (own_counts_from c numbers history)) other

-- ---- legal histories

pub legal_more : (size : ℕ) (c : Counts) (history : List Entry) (e : Entry) → IsLegalFrom size c history → IsLegalEvent size (stock_of size (counts_from c history)) e.event → IsLegalFrom size c (history ++ e ∷ [])
legal_more size c [] e legal last = (last, tt)
legal_more size c (x ∷ xs) e legal last = (legal.0, legal_more size (counts_after x.event c) xs e legal.1 last)

pub legal_last : (size : ℕ) (c : Counts) (history : List Entry) (e : Entry) → IsLegalFrom size c (history ++ e ∷ []) → IsLegalEvent size (stock_of size (counts_from c history)) e.event
legal_last size c [] e legal = legal.0
legal_last size c (x ∷ xs) e legal = legal_last size (counts_after x.event c) xs e legal.1

-- no more is out than the pool was made with, and no more comes back than is out
abbrev pub IsWithin : ℕ → Counts → Type 0
IsWithin size c = (c.taken ≤ size + c.given) × (c.given ≤ c.taken)

within_after : (size : ℕ) (c : Counts) (event : Event) → IsWithin size c → IsLegalEvent size (stock_of size c) event → IsWithin size (counts_after event c)
within_after size c Take (out, back) legal = (omega arith, omega arith)
within_after size c Give (out, back) legal = (omega arith, omega arith)
within_after size c Empty within legal = within

within_from : (size : ℕ) (c : Counts) (history : List Entry) → IsWithin size c → IsLegalFrom size c history → IsWithin size (counts_from c history)
within_from size c [] within legal = within
within_from size c (x ∷ xs) within legal = within_from size (counts_after x.event c) xs (within_after size c x.event within legal.0) legal.1

pub history_within : (size : ℕ) (history : List Entry) → IsPoolHistory size history → IsWithin size (counts_of history)
history_within size history legal = within_from size no_counts history (omega arith, omega arith) legal

-- ---- a prefix with all counts is the whole

abbrev all_events : Counts → ℕ
all_events c = c.taken + (c.given + c.empty)

all_events-after : (event : Event) (c : Counts) → all_events (counts_after event c) ≡ suc (all_events c)
all_events-after Take c = omega arith
all_events-after Give c = omega arith
all_events-after Empty c = omega arith

all_events-from : (c : Counts) (history : List Entry) → all_events (counts_from c history) ≡ all_events c + length history
all_events-from c [] = omega arith
all_events-from c (x ∷ xs) = let a = all_events-from (counts_after x.event c) xs in let b = all_events-after x.event c in omega arith

no_entries : (xs : List Entry) → length xs ≡ 0 → xs ≡ []
no_entries [] none = refl
no_entries (x ∷ xs) none = absurd (omega arith)

pub prefix_whole : (seen history : List Entry) → IsPrefix seen history → counts_of seen ≡ counts_of history → history ≡ seen
prefix_whole seen history (rest, is) same =
    let counted : all_events (counts_of seen) ≡ all_events (counts_of history) = ap all_events same in
    let a = all_events-from no_counts seen in let b = all_events-from no_counts history in
    let lengths : length (seen ++ rest) ≡ length history = ap length is in let c = length-append seen rest in
    let none : length rest ≡ 0 = omega arith in
    sym is ∙ ap (λ (z : List Entry). seen ++ z) (no_entries rest none) ∙ append-nil seen

-- ---- the counts of two passes

counts_after-sum_left : (event : Event) (c d : Counts) → counts_after event (counts_sum c d) ≡ counts_sum (counts_after event c) d
counts_after-sum_left Take c d = λ i. record { taken = (let z : (c.taken + d.taken) + 1 ≡ (c.taken + 1) + d.taken = omega arith in z) i; given = c.given + d.given; empty = c.empty + d.empty }
counts_after-sum_left Give c d = λ i. record { taken = c.taken + d.taken; given = (let z : (c.given + d.given) + 1 ≡ (c.given + 1) + d.given = omega arith in z) i; empty = c.empty + d.empty }
counts_after-sum_left Empty c d = λ i. record { taken = c.taken + d.taken; given = c.given + d.given; empty = (let z : (c.empty + d.empty) + 1 ≡ (c.empty + 1) + d.empty = omega arith in z) i }

counts_after-sum_right : (event : Event) (c d : Counts) → counts_after event (counts_sum c d) ≡ counts_sum c (counts_after event d)
counts_after-sum_right Take c d = λ i. record { taken = (let z : (c.taken + d.taken) + 1 ≡ c.taken + (d.taken + 1) = omega arith in z) i; given = c.given + d.given; empty = c.empty + d.empty }
counts_after-sum_right Give c d = λ i. record { taken = c.taken + d.taken; given = (let z : (c.given + d.given) + 1 ≡ c.given + (d.given + 1) = omega arith in z) i; empty = c.empty + d.empty }
counts_after-sum_right Empty c d = λ i. record { taken = c.taken + d.taken; given = c.given + d.given; empty = (let z : (c.empty + d.empty) + 1 ≡ c.empty + (d.empty + 1) = omega arith in z) i }

either_or : (a b c : Bool) → cond a true (b || c) ≡ (cond a true b || c)
either_or true b c = refl
either_or false b c = refl

pub is_one_of-append : (xs ys : List ℕ) (k : ℕ) → is_one_of (xs ++ ys) k ≡ (is_one_of xs k || is_one_of ys k)
is_one_of-append [] ys k = refl
is_one_of-append (x ∷ xs) ys k = ap (λ (z : Bool). cond (x == k) true z) (is_one_of-append xs ys k) ∙ either_or (x == k) (is_one_of xs k) (is_one_of ys k)

-- two lists with no number in common
abbrev pub AreApart : List ℕ → List ℕ → Type 0
AreApart xs ys = (k : ℕ) → IsTrue (is_one_of xs k) → IsTrue (is_one_of ys k) → ⊥

one_event : (event : Event) (c d : Counts) (a b s : Bool) → s ≡ (a || b) → (a ≡ true → b ≡ true → ⊥)
    → cond s (counts_after event (counts_sum c d)) (counts_sum c d) ≡ counts_sum (cond a (counts_after event c) c) (cond b (counts_after event d) d)
one_event event c d true true s is apart = absurd (apart refl refl)
one_event event c d true false s is apart = ap (λ (z : Bool). cond z (counts_after event (counts_sum c d)) (counts_sum c d)) is ∙ counts_after-sum_left event c d
one_event event c d false true s is apart = ap (λ (z : Bool). cond z (counts_after event (counts_sum c d)) (counts_sum c d)) is ∙ counts_after-sum_right event c d
one_event event c d false false s is apart = ap (λ (z : Bool). cond z (counts_after event (counts_sum c d)) (counts_sum c d)) is

pub own_counts_from-append_numbers : (c d : Counts) (xs ys : List ℕ) (history : List Entry) → AreApart xs ys
    → own_counts_from (counts_sum c d) (xs ++ ys) history ≡ counts_sum (own_counts_from c xs history) (own_counts_from d ys history)
own_counts_from-append_numbers c d xs ys [] apart = refl
own_counts_from-append_numbers c d xs ys (e ∷ es) apart =
    ap (λ (z : Counts). own_counts_from z (xs ++ ys) es) (one_event e.event c d (is_one_of xs e.pass) (is_one_of ys e.pass) (is_one_of (xs ++ ys) e.pass) (is_one_of-append xs ys e.pass) (apart e.pass))
    ∙ own_counts_from-append_numbers (cond (is_one_of xs e.pass) (counts_after e.event c) c) (cond (is_one_of ys e.pass) (counts_after e.event d) d) xs ys es apart

-- ---- all entries, and none

pub own_counts_from-all : (c : Counts) (numbers : List ℕ) (history : List Entry) → AllBear numbers history → own_counts_from c numbers history ≡ counts_from c history
own_counts_from-all c numbers [] all = refl
own_counts_from-all c numbers (e ∷ es) all = ap (λ (b : Bool). own_counts_from (cond b (counts_after e.event c) c) numbers es) all.0 ∙ own_counts_from-all (counts_after e.event c) numbers es all.1

pub own_counts_from-none : (c : Counts) (numbers : List ℕ) (history : List Entry) → NoneBears numbers history → own_counts_from c numbers history ≡ c
own_counts_from-none c numbers [] none = refl
own_counts_from-none c numbers (e ∷ es) none = ap (λ (b : Bool). own_counts_from (cond b (counts_after e.event c) c) numbers es) none.0 ∙ own_counts_from-none c numbers es none.1

pub none_bears_nothing : (history : List Entry) → NoneBears [] history
none_bears_nothing [] = tt
none_bears_nothing (e ∷ es) = (refl, none_bears_nothing es)

none_bears_begun : (numbers : List ℕ) (xs ys : List Entry) → NoneBears numbers (xs ++ ys) → NoneBears numbers xs
none_bears_begun numbers [] ys none = tt
none_bears_begun numbers (x ∷ xs) ys none = (none.0, none_bears_begun numbers xs ys none.1)

-- what no entry of a history bears, none of its beginning does
pub none_bears_prefix : (numbers : List ℕ) (seen history : List Entry) → IsPrefix seen history → NoneBears numbers history → NoneBears numbers seen
none_bears_prefix numbers seen history (rest, is) none = none_bears_begun numbers seen rest (subst (NoneBears numbers) (sym is) none)
