-- Counters of a history that goes on, and as 64 bits hold them.
use Rattle.std.proofs.Common.{◌≡◌, ℕ, Bool, true, false, cond, not, ◌⊎◌, ⊎_elim, inl, inr, List, [], ◌∷◌, ◌++◌, sym, refl, ap, ◌∙◌, arith}
use Rattle.ifl_ringcore.specs.declared.counters.Counters.{Counters}
use Rattle.ifl_ringcore.specs.declared.history.Entry.{Entry}
use Rattle.ifl_ringcore.specs.State.{RingState}
use Rattle.ifl_ringcore.specs.Counters.{nothing_counted, plus, capped, rise, counters_among}
use Rattle.ifl_ringcore.specs.Effects.{effect}
use Rattle.ifl_ringcore.specs.History.{state_after}

-- counters are the same where each number is
pub same-counters : (a b : Counters) → a.starts ≡ b.starts → a.stalls ≡ b.stalls → a.restarts ≡ b.restarts → a.abdications ≡ b.abdications → a.enqueues ≡ b.enqueues → a.drops ≡ b.drops → a ≡ b
same-counters a b p q r s t u = λ i. record { starts = p i; stalls = q i; restarts = r i; abdications = s i; enqueues = t i; drops = u i }

pub plus-assoc : (a b c : Counters) → plus (plus a b) c ≡ plus a (plus b c)
plus-assoc a b c = same-counters (plus (plus a b) c) (plus a (plus b c)) (omega arith) (omega arith) (omega arith) (omega arith) (omega arith) (omega arith)

pub plus-nothing : (a : Counters) → plus a nothing_counted ≡ a
plus-nothing a = same-counters (plus a nothing_counted) a (omega arith) (omega arith) (omega arith) (omega arith) (omega arith) (omega arith)

pub nothing-plus : (a : Counters) → plus nothing_counted a ≡ a
nothing-plus a = same-counters (plus nothing_counted a) a (omega arith) (omega arith) (omega arith) (omega arith) (omega arith) (omega arith)

-- what was capped before is capped together
pub capped-plus : (a b : Counters) → capped (plus (capped a) b) ≡ capped (plus a b)
capped-plus a b = same-counters (capped (plus (capped a) b)) (capped (plus a b)) (omega arith) (omega arith) (omega arith) (omega arith) (omega arith) (omega arith)

-- what one more entry counts
pub counters_among-append : (p : ℕ → Bool) (st : RingState) (es : List Entry) (e : Entry)
    → counters_among p st (es ++ e ∷ []) ≡ plus (counters_among p st es) (cond (p e.seat) (rise (state_after st es) e.event) nothing_counted)
counters_among-append p st [] e = plus-nothing (cond (p e.seat) (rise st e.event) nothing_counted) ∙ sym (nothing-plus (cond (p e.seat) (rise st e.event) nothing_counted))
counters_among-append p st (x ∷ xs) e = let here = cond (p x.seat) (rise st x.event) nothing_counted in let next = effect st x.seat x.event in
    ap (plus here) (counters_among-append p next xs e)
    ∙ sym (plus-assoc here (counters_among p next xs) (cond (p e.seat) (rise (state_after next xs) e.event) nothing_counted))

bool_cases : (b : Bool) → (b ≡ true) ⊎ (b ≡ false)
bool_cases true = inl refl
bool_cases false = inr refl

-- the counters of some seats, and of the others
pub counters_among-others : (p : ℕ → Bool) (st : RingState) (es : List Entry)
    → plus (counters_among p st es) (counters_among (λ seat. not (p seat)) st es) ≡ counters_among (λ seat. true) st es
counters_among-others p st [] = refl
counters_among-others p st (e ∷ es) = let here = rise st e.event in let next = effect st e.seat e.event in
    let mine = counters_among p next es in let others = counters_among (λ seat. not (p seat)) next es in
    ⊎_elim
    (λ t. rw t (same-counters (plus (plus here mine) (plus nothing_counted others)) (plus here (plus mine others)) (omega arith) (omega arith) (omega arith) (omega arith) (omega arith) (omega arith) ∙ ap (plus here) (counters_among-others p next es)))
    (λ f. rw f (same-counters (plus (plus nothing_counted mine) (plus here others)) (plus here (plus mine others)) (omega arith) (omega arith) (omega arith) (omega arith) (omega arith) (omega arith) ∙ ap (plus here) (counters_among-others p next es)))
    (bool_cases (p e.seat))
