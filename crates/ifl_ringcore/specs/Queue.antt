-- A plain queue: items come at its end, and are taken from its front.
use Rattle.std.specs.Prelude.{ℕ, List, [], ◌∷◌, ◌++◌, take, drop}
use Rattle.ifl_ringcore.specs.declared.history.Entry.{Entry}
use Rattle.ifl_ringcore.specs.declared.history.Meaning.{Meaning}
use Rattle.ifl_ringcore.specs.declared.history.Step.{Step}
use Rattle.ifl_ringcore.specs.declared.history.Step.TheVariants.{Look, Refuse, Reserve, Behind, Elected, Abdicating, Advance, LeaveIdle, LeaveAbdicated, Stall, TakeOver}

-- what was taken so far, and what waits
pub record Queue : Type 0 where
  pub taken : List Meaning
  pub waiting : List Meaning

abbrev pub no_items : Queue
no_items = record { taken = []; waiting = [] }

abbrev pub joined_by : List Meaning → Queue → Queue
joined_by xs q = record { taken = q.taken; waiting = q.waiting ++ xs }

abbrev pub relieved_of : ℕ → Queue → Queue
relieved_of n q = record { taken = q.taken ++ take n q.waiting; waiting = drop n q.waiting }

-- a step publishes items, releases some, or neither
abbrev pub queue_after_step : Queue → Step → Queue
queue_after_step q Look = q
queue_after_step q (Refuse _) = q
queue_after_step q (Reserve _) = q
queue_after_step q (Behind xs) = joined_by xs q
queue_after_step q (Elected _ xs) = joined_by xs q
queue_after_step q (Abdicating xs) = joined_by xs q
queue_after_step q (Advance n) = relieved_of n q
queue_after_step q (LeaveIdle n) = relieved_of n q
queue_after_step q (LeaveAbdicated n) = relieved_of n q
queue_after_step q (Stall n) = relieved_of n q
queue_after_step q (TakeOver _) = q

abbrev pub queue_after : Queue → List Entry → Queue
queue_after q [] = q
queue_after q (e ∷ es) = queue_after (queue_after_step q e.event) es
