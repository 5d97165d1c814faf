-- What a history counts.
use Rattle.std.specs.Prelude.{ℕ, ◌+◌, ◌-◌, ◌^◌, min, Bool, true, false, cond, not, ◌&&◌, nat_eq, List, [], ◌∷◌, length, Option, Some, None}
use Rattle.ifl_base.specs.declared.word.Flag.{Flag}
use Rattle.ifl_base.specs.declared.word.Flag.TheVariants.{Idle, Busy, Stalled, Abdicated}
use Rattle.ifl_ringcore.specs.declared.counters.Counters.{Counters}
use Rattle.ifl_ringcore.specs.declared.history.Step.{Step}
use Rattle.ifl_ringcore.specs.declared.history.Step.TheVariants.{Look, Refuse, Reserve, Behind, Elected, Abdicating, Advance, LeaveIdle, LeaveAbdicated, Stall, TakeOver}
use Rattle.ifl_ringcore.specs.declared.history.Entry.{Entry}
use Rattle.ifl_ringcore.specs.State.{RingState, Consumer}
use Rattle.ifl_ringcore.specs.Effects.{effect}

abbrev pub nothing_counted : Counters
nothing_counted = record { starts = 0; stalls = 0; restarts = 0; abdications = 0; enqueues = 0; drops = 0 }

abbrev pub plus : Counters → Counters → Counters
plus a b = record { starts = a.starts + b.starts; stalls = a.stalls + b.stalls; restarts = a.restarts + b.restarts; abdications = a.abdications + b.abdications; enqueues = a.enqueues + b.enqueues; drops = a.drops + b.drops }

-- the counters as 64 bits hold them: a number stays at the largest
abbrev pub capped : Counters → Counters
capped a = record { starts = min a.starts (2 ^ 64 - 1); stalls = min a.stalls (2 ^ 64 - 1); restarts = min a.restarts (2 ^ 64 - 1); abdications = min a.abdications (2 ^ 64 - 1); enqueues = min a.enqueues (2 ^ 64 - 1); drops = min a.drops (2 ^ 64 - 1) }

abbrev pub one_if : Bool → ℕ
one_if b = cond b 1 0

abbrev pub is_idle : Flag → Bool
is_idle Idle = true
is_idle Busy = false
is_idle Stalled = false
is_idle Abdicated = false

abbrev pub is_stalled : Flag → Bool
is_stalled Idle = false
is_stalled Busy = false
is_stalled Stalled = true
is_stalled Abdicated = false

-- the drain that ends with n more items began on a stalled ring and consumed something
abbrev pub restarted : ℕ → Option Consumer → Bool
restarted n None = false
restarted n (Some d) = is_stalled d.from && not (nat_eq (d.total + n) 0)

-- the drain that ends with n more items began on a stalled ring and consumed nothing
abbrev pub stalled_again : ℕ → Option Consumer → Bool
stalled_again n None = false
stalled_again n (Some d) = is_stalled d.from && nat_eq (d.total + n) 0

-- what a step counts in a state
abbrev pub rise : RingState → Step → Counters
rise st Look = nothing_counted
rise st (Refuse n) = record nothing_counted { drops = n }
rise st (Reserve n) = nothing_counted
rise st (Behind xs) = record nothing_counted { enqueues = length xs }
rise st (Elected b xs) = record nothing_counted { enqueues = length xs; starts = one_if (is_idle st.flag) }
rise st (Abdicating xs) = record nothing_counted { enqueues = length xs }
rise st (Advance n) = nothing_counted
rise st (LeaveIdle n) = record nothing_counted { restarts = one_if (restarted n st.consumer) }
rise st (LeaveAbdicated n) = record nothing_counted { restarts = one_if (restarted n st.consumer); abdications = 1 }
rise st (Stall n) = record nothing_counted { restarts = one_if (restarted n st.consumer); stalls = one_if (not (stalled_again n st.consumer)) }
rise st (TakeOver b) = nothing_counted

-- what the steps of some of the seats count over a history
abbrev pub counters_among : (ℕ → Bool) → RingState → List Entry → Counters
counters_among is_among st [] = nothing_counted
counters_among is_among st (e ∷ es) = plus (cond (is_among e.seat) (rise st e.event) nothing_counted) (counters_among is_among (effect st e.seat e.event) es)

-- what a history counts
abbrev pub counters_of : RingState → List Entry → Counters
counters_of = counters_among (λ seat. true)
