-- What seats have counted, as they are made, split and joined.
use Rattle.std.proofs.Common.{Bool, true, false, ◌||◌, ◌≡◌, ℕ, eqb, List, [], ◌∷◌, ◌++◌, sym, refl, ap, ◌∙◌, ⊎_elim, arith}
use Rattle.ifl_ringcore.specs.declared.counters.Counters.{Counters}
use Rattle.ifl_ringcore.specs.declared.history.Entry.{Entry}
use Rattle.ifl_ringcore.specs.Counters.{nothing_counted, plus, capped, rise, counters_among}
use Rattle.ifl_ringcore.specs.Effects.{effect}
use Rattle.ifl_ringcore.specs.History.{own}
use Rattle.ifl_ringcore.specs.State.{RingState, first_state}
use Rattle.ifl_ringcore.proofs.Counting.{same-counters, plus-nothing}
use Rattle.ifl_ring.specs.declared.view.Known.{Known}
use Rattle.ifl_ring.specs.Seats.{has, Has, Begins, Complete, entry, Joined, Sees, Names}
use Rattle.ifl_ring.specs.Tally.{tally_of, TallyRises}
use Rattle.ifl_base.specs.Word.{pack}
use Rattle.ifl_base.specs.declared.word.RingWord.{RingWord}
use Rattle.ifl_ringcore.specs.declared.history.Step.TheVariants.{Look}
use Rattle.ifl_ring.specs.Trails.{Trails}
use Rattle.ifl_ring.proofs.Closing.{append_none, own_append}
use Rattle.ifl_ring.proofs.Seats.{only}
use Rattle.ifl_ring.proofs.Trails.{bool_cases, counters_among-quiet, counters_among-skip, trail-made}

pub has-append : (k : ℕ) (xs ys : List ℕ) → has k (xs ++ ys) ≡ (has k xs || has k ys)
has-append k [] ys = refl
has-append k (x ∷ xs) ys = ⊎_elim (λ (t : eqb x k ≡ true). rw t refl) (λ (f : eqb x k ≡ false). rw f (has-append k xs ys)) (bool_cases (eqb x k))

both_true : (b : Bool) → true ≡ b → b ≡ true
both_true b e = sym e

-- what either of two kinds of seats counts, where no seat is of both
counters_among-either : (p q : ℕ → Bool) (st : RingState) (es : List Entry) → ((k : ℕ) → p k ≡ true → q k ≡ true → ⊥)
    → counters_among (λ k. p k || q k) st es ≡ plus (counters_among p st es) (counters_among q st es)
counters_among-either p q st [] apart = refl
counters_among-either p q st (e ∷ es) apart = let up : Counters = rise st e.event in let next : RingState = effect st e.seat e.event in
    let a : Counters = counters_among p next es in let b : Counters = counters_among q next es in
    let rec : counters_among (λ k. p k || q k) next es ≡ plus a b = counters_among-either p q next es apart in
    let none : Counters = nothing_counted in
    let first : plus up (plus a b) ≡ plus (plus up a) (plus none b) = same-counters (plus up (plus a b)) (plus (plus up a) (plus none b)) (omega arith) (omega arith) (omega arith) (omega arith) (omega arith) (omega arith) in
    let second : plus up (plus a b) ≡ plus (plus none a) (plus up b) = same-counters (plus up (plus a b)) (plus (plus none a) (plus up b)) (omega arith) (omega arith) (omega arith) (omega arith) (omega arith) (omega arith) in
    let third : plus none (plus a b) ≡ plus (plus none a) (plus none b) = same-counters (plus none (plus a b)) (plus (plus none a) (plus none b)) (omega arith) (omega arith) (omega arith) (omega arith) (omega arith) (omega arith) in
    ⊎_elim
    (λ (t : p e.seat ≡ true). ⊎_elim
    (λ (u : q e.seat ≡ true). absurd (apart e.seat t u))
    (λ (u : q e.seat ≡ false). rw (t, u) (ap (plus up) rec ∙ first))
    (bool_cases (q e.seat)))
    (λ (t : p e.seat ≡ false). ⊎_elim
    (λ (u : q e.seat ≡ true). rw (t, u) (ap (plus up) rec ∙ second))
    (λ (u : q e.seat ≡ false). rw (t, u) (ap (plus none) rec ∙ third))
    (bool_cases (q e.seat)))
    (bool_cases (p e.seat))

-- a longer history with no further entry of these numbers counts the same for them
tally-begun : (log seen : List Entry) (stands : List ℕ) → Begins log seen → Complete log stands seen → counters_among (λ k. has k stands) first_state log ≡ counters_among (λ k. has k stands) first_state seen
tally-begun log seen stands (more, is) whole = ap (counters_among (λ k. has k stands) first_state) (sym is)
    ∙ counters_among-skip stands first_state seen more (λ k h. append_none (own k seen) (own k more) (sym (own_append k seen more) ∙ ap (own k) is ∙ whole k h))

-- a seat that two were joined to has counted what both had
pub tally-joined : (size : ℕ) (v w x : Known) → Joined size v w x → tally_of x ≡ plus (tally_of v) (tally_of w)
tally-joined size v w x j = let mine : ℕ → Bool = λ k. has k v.stands in let theirs : ℕ → Bool = λ k. has k w.stands in
    ap tally_of j.is
    ∙ (λ i. counters_among (λ k. has-append k v.stands w.stands i) first_state x.seen)
    ∙ counters_among-either mine theirs first_state x.seen j.apart
    ∙ (λ i. plus (tally-begun x.seen v.seen v.stands j.first j.first_whole i) (tally-begun x.seen w.seen w.stands j.second j.second_whole i))

-- a new seat has counted nothing
pub tally-named : (size : ℕ) (v w : Known) → Names size v w → tally_of w ≡ nothing_counted
tally-named size v w n = ap (λ (z : List ℕ). counters_among (λ k. has k z) first_state w.seen) n.stands
    ∙ counters_among-quiet (w.number ∷ []) first_state w.seen (λ k h. ap (λ (z : ℕ). own z w.seen) (sym (only k w.number h)) ∙ n.silent)

pub capped-nothing : capped nothing_counted ≡ nothing_counted
capped-nothing = same-counters (capped nothing_counted) nothing_counted (omega arith) (omega arith) (omega arith) (omega arith) (omega arith) (omega arith)

-- the tally after a call, which rose by what the call counted
pub tally-risen : (size : ℕ) (a b x : Counters) (v w : Known) (es : List Entry) → a ≡ capped (tally_of v) → Trails size v es x w → TallyRises x a b → b ≡ capped (tally_of w)
tally-risen size a b x v w es is t rises = rises (tally_of v) is ∙ ap capped (sym t.1)

-- both parts may have been capped before
pub capped-both : (a b : Counters) → capped (plus (capped a) (capped b)) ≡ capped (plus a b)
capped-both a b = same-counters (capped (plus (capped a) (capped b))) (capped (plus a b)) (omega arith) (omega arith) (omega arith) (omega arith) (omega arith) (omega arith)

-- a look counts nothing
pub tally-looked : (size : ℕ) (tally : Counters) (v : Known) (word : RingWord) (w : Known) → Has v.number v.stands → tally ≡ capped (tally_of v) → Sees size v word w → tally ≡ capped (tally_of w)
tally-looked size tally v word w mine is look = is ∙ ap capped (sym ((trail-made size v (entry v.number (pack word) Look) w mine look.0).1 ∙ plus-nothing (tally_of v)))
