-- What the flag that a consumer sets says of the ring's numbers.
use Rattle.std.proofs.Common.{◌≡◌, ◌≢◌, ℕ, ◌+◌, ◌%◌, ◌<◌, ◌≤◌, Bool, true, false, cond, not, ◌&&◌, eqb, refl, ap, arith, eq-eqb, ne_eqb}
use mathlib.Core.Logic.{dite}
use native.Mathlib.Decide.{ℕ_discrete}
use Rattle.ifl_base.specs.declared.word.Flag.TheVariants.{Busy, Abdicated}
use Rattle.ifl_base.specs.FlagAfter.{flag_after}
use Rattle.ifl_ringcore.specs.FlagSet.{IsFlagSet}
use Rattle.ifl_ringcore.specs.State.{RingState, ring_word}
use Rattle.ifl_ringcore.proofs.Standing.{mod-same}

-- the flag where something is left
some_left : (size : ℕ) (st : RingState) (over : Bool) → 0 < size → st.released < st.published → st.published ≤ st.reserved → st.reserved < st.published + size
    → IsFlagSet st over (cond (over && not (eqb (st.published % size) (st.reserved % size))) Abdicated Busy)
some_left size st false pos less b w = (less, λ spent. absurd cc)
some_left size st true pos less b w = dite (ℕ_discrete st.published st.reserved)
    (λ e. let same : st.published % size ≡ st.reserved % size = ap (λ (z : ℕ). z % size) e in rw (eq-eqb (st.published % size) (st.reserved % size) same) (less, λ _. e))
    (λ ne. let differ : st.published % size ≢ st.reserved % size = (λ same. ne (mod-same size st.published st.reserved pos b w same)) in
    let more : st.published < st.reserved = omega arith in rw (ne_eqb (st.published % size) (st.reserved % size) differ) (less, refl, more))

pub flag_set : (size : ℕ) (st : RingState) (over : Bool) → st.released ≤ st.published → st.published ≤ st.reserved → st.reserved + 2 ≤ st.released + size → IsFlagSet st over (flag_after (ring_word size st) over)
flag_set size st over a b w = dite (ℕ_discrete st.released st.published)
    (λ e. let same : st.released % size ≡ st.published % size = ap (λ (z : ℕ). z % size) e in rw (eq-eqb (st.released % size) (st.published % size) same) e)
    (λ ne. let less : st.released < st.published = omega arith in
    let differ : st.released % size ≢ st.published % size = (λ same. ne (mod-same size st.released st.published (omega arith) a (omega arith) same)) in
    rw (ne_eqb (st.released % size) (st.published % size) differ) (some_left size st over (omega arith) less b (omega arith)))
