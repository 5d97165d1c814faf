-- What the flag that a consumer sets says of the numbers that never wrap.
use Rattle.std.specs.Prelude.{◌≡◌, ◌<◌, Bool, true}
use Rattle.ifl_base.specs.declared.word.Flag.{Flag}
use Rattle.ifl_base.specs.declared.word.Flag.TheVariants.{Idle, Busy, Stalled, Abdicated}
use Rattle.ifl_ringcore.specs.State.{RingState}

-- idle where all that is published is released, abdicated where some is left, the budget is spent and others are about to
-- publish, and else busy
abbrev pub IsFlagSet : RingState → Bool → Flag → Type 0
IsFlagSet st over Idle = st.released ≡ st.published
IsFlagSet st over Busy = (st.released < st.published) × (over ≡ true → st.published ≡ st.reserved)
IsFlagSet st over Stalled = ⊥
IsFlagSet st over Abdicated = (st.released < st.published) × (over ≡ true) × (st.published < st.reserved)
