-- The machine's events as steps of a history.
use Rattle.std.specs.Prelude.{ℕ, List, Option, Some, None}
use Rattle.ifl_ringcore.specs.declared.event.Event.{Event}
use Rattle.ifl_ringcore.specs.declared.event.Event.TheVariants as event
use Rattle.ifl_ringcore.specs.declared.history.Meaning.{Meaning}
use Rattle.ifl_ringcore.specs.declared.history.Step.{Step}
use Rattle.ifl_ringcore.specs.declared.history.Step.TheVariants as step
use Rattle.ifl_ringcore.specs.State.{RingState, Reservation, reservation_of}

-- the seat that makes the event
abbrev pub seat_of : Event → ℕ
seat_of (event.Look seat) = seat
seat_of (event.Refuse seat n) = seat
seat_of (event.Reserve seat n) = seat
seat_of (event.Behind seat) = seat
seat_of (event.Elected seat budget) = seat
seat_of (event.Abdicating seat) = seat
seat_of (event.Advance seat n) = seat
seat_of (event.LeaveIdle seat n) = seat
seat_of (event.LeaveAbdicated seat n) = seat
seat_of (event.Stall seat n) = seat
seat_of (event.TakeOver seat budget) = seat

-- the event as a step that publishes these items, if it publishes any
abbrev pub step_of : List Meaning → Event → Step
step_of xs (event.Look seat) = step.Look
step_of xs (event.Refuse seat n) = step.Refuse n
step_of xs (event.Reserve seat n) = step.Reserve n
step_of xs (event.Behind seat) = step.Behind xs
step_of xs (event.Elected seat budget) = step.Elected budget xs
step_of xs (event.Abdicating seat) = step.Abdicating xs
step_of xs (event.Advance seat n) = step.Advance n
step_of xs (event.LeaveIdle seat n) = step.LeaveIdle n
step_of xs (event.LeaveAbdicated seat n) = step.LeaveAbdicated n
step_of xs (event.Stall seat n) = step.Stall n
step_of xs (event.TakeOver seat budget) = step.TakeOver budget

-- how many items the seat's reservation takes
abbrev pub count_of : Option Reservation → ℕ
count_of None = 0
count_of (Some r) = r.count

-- how many items the event publishes
abbrev pub items_of : RingState → Event → ℕ
items_of st (event.Look seat) = 0
items_of st (event.Refuse seat n) = 0
items_of st (event.Reserve seat n) = 0
items_of st (event.Behind seat) = count_of (reservation_of seat st.reservations)
items_of st (event.Elected seat budget) = count_of (reservation_of seat st.reservations)
items_of st (event.Abdicating seat) = count_of (reservation_of seat st.reservations)
items_of st (event.Advance seat n) = 0
items_of st (event.LeaveIdle seat n) = 0
items_of st (event.LeaveAbdicated seat n) = 0
items_of st (event.Stall seat n) = 0
items_of st (event.TakeOver seat budget) = 0
