-- What the steps of a seat's numbers count.
use Rattle.std.specs.Prelude.{◌≡◌, ℕ, ◌&&◌, nat_eq, not}
use Rattle.ifl_base.specs.declared.word.Flag.{Flag}
use Rattle.ifl_base.specs.declared.word.Flag.TheVariants.{Idle, Busy, Stalled, Abdicated}
use Rattle.ifl_ringcore.specs.declared.counters.Counters.{Counters}
use Rattle.ifl_ringcore.specs.Counters.{capped, nothing_counted, plus, one_if, is_stalled, counters_among}
use Rattle.ifl_ringcore.specs.State.{first_state}
use Rattle.ifl_ring.specs.declared.view.Known.{Known}
use Rattle.ifl_ring.specs.Seats.{has}

-- what the entries that bear one of the seat's numbers count
abbrev pub tally_of : Known → Counters
tally_of v = counters_among (λ k. has k v.stands) first_state v.seen

-- the seat counts so much more
abbrev pub Counts : Counters → Known → Known → Type 0
Counts x v w = tally_of w ≡ plus (tally_of v) x

-- a tally that holds whatever was counted, as far as 64 bits can, holds so much more
abbrev pub TallyRises : Counters → Counters → Counters → Type 0
TallyRises x a b = (counted : Counters) → a ≡ capped counted → b ≡ capped (plus counted x)

-- what a drain counts that began from a flag, released so many items and sets a flag
abbrev pub drain_rise : Flag → Flag → ℕ → Counters
drain_rise from Idle total = record nothing_counted { restarts = one_if (is_stalled from && not (nat_eq total 0)) }
drain_rise from Busy total = nothing_counted
drain_rise from Stalled total = record nothing_counted { restarts = one_if (is_stalled from && not (nat_eq total 0)); stalls = one_if (not (is_stalled from && nat_eq total 0)) }
drain_rise from Abdicated total = record nothing_counted { restarts = one_if (is_stalled from && not (nat_eq total 0)); abdications = 1 }
