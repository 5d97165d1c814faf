-- A schedule of which so many events are replayed.
use Rattle.std.specs.Prelude.{◌≡◌, ℕ, List, ◌++◌, length, drop}
use Rattle.ifl_ringcore.specs.declared.history.Entry.{Entry}
use Rattle.ifl_ringcore.specs.declared.schedule.Schedule.{Schedule}
use Rattle.ifl_ringcore.specs.Counters.{counters_of, capped}
use Rattle.ifl_ringcore.specs.History.{state_after}
use Rattle.ifl_ringcore.specs.Kept.{Kept, StandsFor}
use Rattle.ifl_ringcore.specs.State.{first_state}
use Rattle.ifl_ringcore.specs.Trace.{Replay, replay, replay_of, words_of}

abbrev pub prefixed : List Entry → Replay → Replay
prefixed es r = (es ++ r.0, r.1)

pub record Replayed (s : Schedule) (done : ℕ) (m : Kept) (out : List ℕ) : Type 0 where
  pub history : List Entry
  pub stands : StandsFor m (state_after first_state history)
  pub size : m.size ≡ s.size
  pub seats : m.seats ≡ s.seats
  pub counted : m.counters ≡ capped (counters_of first_state history)
  pub many : length history ≡ done
  pub printed : out ≡ words_of s.size first_state history
  pub rest : replay_of s ≡ prefixed history (replay s.size s.seats (state_after first_state history) (drop done s.events))
