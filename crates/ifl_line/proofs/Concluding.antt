-- A whole run: all entries of the history are those of the last seat.
use Rattle.std.proofs.Common.{true, false, ◌≡◌, ℕ, ◌+◌, List, [], ◌∷◌, ◌++◌, append_assoc, append-nil, sym, refl, ap, ◌∙◌, ⊎_elim, arith}
use Rattle.ifl_ringcore.specs.declared.history.Entry.{Entry}
use Rattle.ifl_ringcore.specs.declared.history.Meaning.{Meaning}
use Rattle.ifl_ringcore.specs.declared.history.Step.{Step}
use Rattle.ifl_ringcore.specs.declared.history.Step.TheVariants.{Look, Refuse, Reserve, Behind, Elected, Abdicating, Advance, LeaveIdle, LeaveAbdicated, Stall, TakeOver}
use Rattle.ifl_ringcore.specs.Effects.{effect}
use Rattle.ifl_ringcore.specs.History.{state_after}
use Rattle.ifl_ringcore.specs.State.{RingState, first_state}
use Rattle.ifl_ring.specs.Seats.{has, AreAmong, of_all}
use Rattle.ifl_txq.specs.Standing.{packets as packets_in, weight_of as weight_in}
use Rattle.ifl_line.specs.Meanings.{is_kick}
use Rattle.ifl_line.specs.Steps.{items_of, packets, weigh}
use Rattle.ifl_line.specs.Runs.{published}
use Rattle.ifl_line.proofs.Merging.{bool_cases}

-- where all entries bear some numbers, they are the entries of these
pub all_among : (stands : List ℕ) (es : List Entry) → AreAmong stands es → of_all stands es ≡ es
all_among stands [] h = refl
all_among stands (e ∷ es) h = let t : has e.seat stands ≡ true = h.0 in rw t (ap (λ (z : List Entry). e ∷ z) (all_among stands es h.1))

step_items : (st : RingState) (seat : ℕ) (s : Step) → (effect st seat s).items ≡ st.items ++ items_of s
step_items st seat Look = sym (append-nil st.items)
step_items st seat (Refuse n) = sym (append-nil st.items)
step_items st seat (Reserve n) = sym (append-nil st.items)
step_items st seat (Behind xs) = refl
step_items st seat (Elected b xs) = refl
step_items st seat (Abdicating xs) = refl
step_items st seat (Advance n) = sym (append-nil st.items)
step_items st seat (LeaveIdle n) = sym (append-nil st.items)
step_items st seat (LeaveAbdicated n) = sym (append-nil st.items)
step_items st seat (Stall n) = sym (append-nil st.items)
step_items st seat (TakeOver b) = sym (append-nil st.items)

items_after : (st : RingState) (es : List Entry) → (state_after st es).items ≡ st.items ++ published es
items_after st [] = sym (append-nil st.items)
items_after st (e ∷ es) = items_after (effect st e.seat e.event) es ∙ ap (λ (z : List Meaning). z ++ published es) (step_items st e.seat e.event) ∙ append_assoc st.items (items_of e.event) (published es)

-- what a ring records is what was published
pub items_published : (es : List Entry) → (state_after first_state es).items ≡ published es
items_published es = items_after first_state es

packets_in-append : (xs ys : List Meaning) → packets_in (xs ++ ys) ≡ packets_in xs ++ packets_in ys
packets_in-append [] ys = refl
packets_in-append (x ∷ xs) ys = ⊎_elim (λ (t : is_kick x ≡ true). rw t (packets_in-append xs ys)) (λ (f : is_kick x ≡ false). rw f (ap (λ (z : List Meaning). x ∷ z) (packets_in-append xs ys))) (bool_cases (is_kick x))

pub packets_in-published : (es : List Entry) → packets_in (published es) ≡ packets es
packets_in-published [] = refl
packets_in-published (e ∷ es) = packets_in-append (items_of e.event) (published es) ∙ ap (λ (z : List Meaning). packets_in (items_of e.event) ++ z) (packets_in-published es)

weight_in-append : (xs ys : List Meaning) → weight_in (xs ++ ys) ≡ weight_in xs + weight_in ys
weight_in-append [] ys = omega arith
weight_in-append (x ∷ xs) ys = let t = weight_in-append xs ys in omega arith

pub weight_in-published : (es : List Entry) → weight_in (published es) ≡ weigh es
weight_in-published [] = refl
weight_in-published (e ∷ es) = let a = weight_in-append (items_of e.event) (published es) in let b = weight_in-published es in omega arith
