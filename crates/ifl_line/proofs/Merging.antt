-- What two lists of entries have in common with their merge.
use Rattle.std.proofs.Common.{Bool, true, false, ◌≡◌, ℕ, ◌+◌, ◌/◌, ◌^◌, eqb, List, [], ◌∷◌, ◌++◌, sym, refl, ap, ◌∙◌, subst, inl, inr, ◌⊎◌, ⊎_elim, arith}
use Rattle.std.specs.Prelude.{◌&&◌}
use Rattle.ifl_ringcore.specs.Counters.{one_if}
use Rattle.ifl_ringcore.specs.declared.history.Entry.{Entry}
use Rattle.ifl_ringcore.specs.declared.history.Meaning.{Meaning}
use Rattle.ifl_ring.specs.Merges.{IsMerge}
use Rattle.ifl_txq.specs.Standing.{packets as packets_in, weight_of as weight_in}
use Rattle.ifl_line.specs.Meanings.{of_sender}
use Rattle.ifl_line.specs.Steps.{items_of, packets, weigh, is_refusal, refusals, AreLawful}

pub bool_cases : (b : Bool) → (b ≡ true) ⊎ (b ≡ false)
bool_cases true = inl refl
bool_cases false = inr refl

-- the two lists may change places
pub merge_swap : (xs ys zs : List Entry) → IsMerge xs ys zs → IsMerge ys xs zs
merge_swap xs ys [] m = (m.1, m.0)
merge_swap xs ys (e ∷ es) (inl (ws, is, m)) = inr (ws, is, merge_swap ws ys es m)
merge_swap xs ys (e ∷ es) (inr (ws, is, m)) = inl (ws, is, merge_swap xs ws es m)

merge_nothing : (ys : List Entry) → IsMerge [] ys ys
merge_nothing [] = (refl, refl)
merge_nothing (y ∷ ys) = inr (ys, refl, merge_nothing ys)

-- one list behind the other is a merge
pub merge_append : (xs ys : List Entry) → IsMerge xs ys (xs ++ ys)
merge_append [] ys = merge_nothing ys
merge_append (x ∷ xs) ys = inl (xs, refl, merge_append xs ys)

-- ---- packets

pub of_sender-append : (s : ℕ) (xs ys : List Meaning) → of_sender s (xs ++ ys) ≡ of_sender s xs ++ of_sender s ys
of_sender-append s [] ys = refl
of_sender-append s (x ∷ xs) ys = ⊎_elim (λ (t : eqb (x.tag / 2 ^ 32) s ≡ true). rw (t) (ap (λ (z : List Meaning). x ∷ z) (of_sender-append s xs ys)))
    (λ (f : eqb (x.tag / 2 ^ 32) s ≡ false). rw (f) (of_sender-append s xs ys)) (bool_cases (eqb (x.tag / 2 ^ 32) s))

abbrev sent : ℕ → List Entry → List Meaning
sent s es = of_sender s (packets es)

-- what one entry published of a sender
abbrev piece : ℕ → Entry → List Meaning
piece s e = of_sender s (packets_in (items_of e.event))

sent_more : (s : ℕ) (e : Entry) (es : List Entry) → sent s (e ∷ es) ≡ piece s e ++ sent s es
sent_more s e es = of_sender-append s (packets_in (items_of e.event)) (packets es)

first_nothing : {X : Type 0} (xs ys : List X) → xs ++ ys ≡ [] → xs ≡ []
first_nothing [] ys e = refl
first_nothing (x ∷ xs) ys e = absurd (cc)

last_nothing : {X : Type 0} (xs ys : List X) → xs ++ ys ≡ [] → ys ≡ []
last_nothing [] ys e = e
last_nothing (x ∷ xs) ys e = absurd (cc)

-- of a sender of whom one list has nothing, the merge has what the other has
pub merge-sent : (s : ℕ) (xs ys zs : List Entry) → IsMerge xs ys zs → sent s ys ≡ [] → sent s zs ≡ sent s xs
merge-sent s xs ys [] m none = ap (sent s) (sym m.0)
merge-sent s xs ys (e ∷ es) (inl (ws, is, m)) none = sent_more s e es ∙ ap (λ (z : List Meaning). piece s e ++ z) (merge-sent s ws ys es m none) ∙ sym (sent_more s e ws) ∙ ap (sent s) (sym is)
merge-sent s xs ys (e ∷ es) (inr (ws, is, m)) none =
    let all : piece s e ++ sent s ws ≡ [] = sym (sent_more s e ws) ∙ ap (sent s) (sym is) ∙ none in
    sent_more s e es ∙ ap (λ (z : List Meaning). z ++ sent s es) (first_nothing (piece s e) (sent s ws) all) ∙ merge-sent s xs ws es m (last_nothing (piece s e) (sent s ws) all)

-- ---- what adds up

pub merge-weigh : (xs ys zs : List Entry) → IsMerge xs ys zs → weigh zs ≡ weigh xs + weigh ys
merge-weigh xs ys [] m = let a : weigh xs ≡ 0 = ap weigh m.0 in let b : weigh ys ≡ 0 = ap weigh m.1 in omega arith
merge-weigh xs ys (e ∷ es) (inl (ws, is, m)) = let a : weigh xs ≡ weight_in (items_of e.event) + weigh ws = ap weigh is in let b = merge-weigh ws ys es m in omega arith
merge-weigh xs ys (e ∷ es) (inr (ws, is, m)) = let a : weigh ys ≡ weight_in (items_of e.event) + weigh ws = ap weigh is in let b = merge-weigh xs ws es m in omega arith

abbrev is_of : ℕ → Entry → ℕ
is_of n e = one_if (is_refusal e.event && eqb e.found n)

pub merge-refusals : (n : ℕ) (xs ys zs : List Entry) → IsMerge xs ys zs → refusals n zs ≡ refusals n xs + refusals n ys
merge-refusals n xs ys [] m = let a : refusals n xs ≡ 0 = ap (refusals n) m.0 in let b : refusals n ys ≡ 0 = ap (refusals n) m.1 in omega arith
merge-refusals n xs ys (e ∷ es) (inl (ws, is, m)) = let a : refusals n xs ≡ is_of n e + refusals n ws = ap (refusals n) is in let b = merge-refusals n ws ys es m in omega arith
merge-refusals n xs ys (e ∷ es) (inr (ws, is, m)) = let a : refusals n ys ≡ is_of n e + refusals n ws = ap (refusals n) is in let b = merge-refusals n xs ws es m in omega arith

-- ---- what holds of each entry

pub merge-lawful : (b : ℕ) (a : Bool) (xs ys zs : List Entry) → IsMerge xs ys zs → AreLawful b a xs → AreLawful b a ys → AreLawful b a zs
merge-lawful b a xs ys [] m p q = tt
merge-lawful b a xs ys (e ∷ es) (inl (ws, is, m)) p q = let r : AreLawful b a (e ∷ ws) = subst (AreLawful b a) is p in (r.0, merge-lawful b a ws ys es m r.1 q)
merge-lawful b a xs ys (e ∷ es) (inr (ws, is, m)) p q = let r : AreLawful b a (e ∷ ws) = subst (AreLawful b a) is q in (r.0, merge-lawful b a xs ws es m p r.1)
