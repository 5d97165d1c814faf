-- A ring at rest.
use Rattle.std.proofs.Common.{◌≡◌, ℕ, List, [], ◌∷◌, ◌∙◌, refl, map, arith}
use Rattle.std.proofs.lemmas.List.{take_all}
use Rattle.std.proofs.Math.ListN.{drop_of_length-le}
use Rattle.ifl_reset.specs.Quiet.{IsQuiet}
use Rattle.ifl_ring.specs.Closed.{left_after, released_after}
use Rattle.ifl_ringcore.specs.declared.history.Entry.{Entry}
use Rattle.ifl_ringcore.specs.History.{state_after}
use Rattle.ifl_ringcore.specs.Invariant.{RingInvariant}
use Rattle.ifl_ringcore.specs.State.{RingState, first_state}
use Rattle.ifl_line.specs.Runs.{published}
use Rattle.ifl_line.proofs.Concluding.{items_published}

-- all that was published is released, and nothing is left
pub rest_released : (size : ℕ) (es : List Entry) → RingInvariant size (state_after first_state es) → IsQuiet (state_after first_state es) → released_after es ≡ published es
rest_released size es good quiet = let st : RingState = state_after first_state es in let all = good.counted in let none = quiet.2 in
    take_all st.released st.items (omega arith) ∙ items_published es

pub rest_left : (size : ℕ) (es : List Entry) → RingInvariant size (state_after first_state es) → IsQuiet (state_after first_state es) → left_after es ≡ []
rest_left size es good quiet = let st : RingState = state_after first_state es in let all = good.counted in let none = quiet.2 in
    drop_of_length-le st.items (omega arith)

pub none_mapped : {X Y : Type 0} (f : X → Y) (xs : List X) → map f xs ≡ [] → xs ≡ []
none_mapped f [] e = refl
none_mapped f (x ∷ xs) e = absurd (cc)
