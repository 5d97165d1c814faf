-- What a step makes of a ring.
use Rattle.std.specs.Prelude.{ℕ, ◌+◌, List, [], ◌∷◌, ◌++◌, length, Option, Some, None}
use Rattle.ifl_base.specs.declared.word.Flag.{Flag}
use Rattle.ifl_base.specs.declared.word.Flag.TheVariants.{Idle, Busy, Stalled, Abdicated}
use Rattle.ifl_ringcore.specs.declared.history.Meaning.{Meaning}
use Rattle.ifl_ringcore.specs.declared.history.Step.{Step}
use Rattle.ifl_ringcore.specs.declared.history.Step.TheVariants.{Look, Refuse, Reserve, Behind, Elected, Abdicating, Advance, LeaveIdle, LeaveAbdicated, Stall, TakeOver}
use Rattle.ifl_ringcore.specs.State.{RingState, Consumer, reservation, without}

-- the flag after items came that nobody is to consume at once
abbrev pub risen : Flag → Flag
risen Idle = Abdicated
risen Busy = Busy
risen Stalled = Stalled
risen Abdicated = Abdicated

-- the items are published, and the seat's reservation is gone
abbrev pub published_by : ℕ → List Meaning → RingState → RingState
published_by seat xs st = record st { published = st.published + length xs; reservations = without seat st.reservations; items = st.items ++ xs }

-- a seat as it becomes the consumer: it knows this tail
abbrev pub elected : ℕ → ℕ → ℕ → Flag → ℕ → Consumer
elected seat tail budget from done = record { seat = seat; known = tail; total = 0; budget = budget; from = from; done = done }

-- the consumer after n more, and a look at the tail
abbrev pub went_on : ℕ → ℕ → Option Consumer → Option Consumer
went_on n tail None = None
went_on n tail (Some d) = Some record d { known = tail; total = d.total + n; done = d.done + n }

-- the consumer released n items and left, and set this flag
abbrev pub left_with : Flag → ℕ → RingState → RingState
left_with flag n st = record st { released = st.released + n; flag = flag; consumer = None }

-- the state after the seat's step
abbrev pub effect : RingState → ℕ → Step → RingState
effect st seat Look = st
effect st seat (Refuse n) = st
effect st seat (Reserve n) = record st { reserved = st.reserved + n; reservations = st.reservations ++ reservation seat st.reserved n ∷ [] }
effect st seat (Behind xs) = published_by seat xs st
effect st seat (Elected b xs) = record (published_by seat xs st) { flag = Busy; consumer = Some (elected seat (st.published + length xs) b st.flag st.released) }
effect st seat (Abdicating xs) = record (published_by seat xs st) { flag = risen st.flag }
effect st seat (Advance n) = record st { released = st.released + n; consumer = went_on n st.published st.consumer }
effect st seat (LeaveIdle n) = left_with Idle n st
effect st seat (LeaveAbdicated n) = left_with Abdicated n st
effect st seat (Stall n) = left_with Stalled n st
effect st seat (TakeOver b) = record st { flag = Busy; consumer = Some (elected seat st.published b st.flag st.released) }
