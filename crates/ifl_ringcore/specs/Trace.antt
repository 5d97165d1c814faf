-- What replaying a schedule prints.
use Rattle.std.specs.Prelude.{ℕ, ◌+◌, Bool, List, [], ◌∷◌, ◌++◌, length, replicate, Option, Some, None}
use Rattle.std.specs.Option.{is_none}
use Rattle.ifl_base.specs.Word.{pack}
use Rattle.ifl_ringcore.specs.declared.counters.Counters.{Counters}
use Rattle.ifl_ringcore.specs.declared.event.Event.{Event}
use Rattle.ifl_ringcore.specs.declared.history.Entry.{Entry}
use Rattle.ifl_ringcore.specs.declared.history.Meaning.{Meaning}
use Rattle.ifl_ringcore.specs.declared.history.Step.{Step}
use Rattle.ifl_ringcore.specs.declared.illegal.Illegal.{Illegal}
use Rattle.ifl_ringcore.specs.declared.schedule.Schedule.{Schedule}
use Rattle.ifl_ringcore.specs.Counters.{counters_of, capped}
use Rattle.ifl_ringcore.specs.Effects.{effect}
use Rattle.ifl_ringcore.specs.Events.{seat_of, step_of, items_of}
use Rattle.ifl_ringcore.specs.State.{RingState, first_state, ring_word}
use Rattle.ifl_ringcore.specs.Table.{sight_of, conditions, first_failing}
use Rattle.ifl_ringcore.specs.Texts.{word_line, counters_line, fault_line, condition_name}

-- an item of which nothing is known
abbrev pub nameless : Meaning
nameless = record { tag = 0; bytes = []; marks = []; weight = 0 }

-- the event as a step that publishes as many items as its seat reserved
abbrev pub step_in : RingState → Event → Step
step_in st e = step_of (replicate (items_of st e) nameless) e

abbrev pub entry_in : ℕ → RingState → Event → Entry
entry_in size st e = record { seat = seat_of e; found = pack (ring_word size st); event = step_in st e }

-- a history, and the condition at which it ends
abbrev pub Replay : Type 0
Replay = List Entry × Option Illegal

-- an entry goes before the rest, unless one of its conditions fails
abbrev pub replayed : Option Illegal → Entry → Replay → Replay
replayed None e r = (e ∷ r.0, r.1)
replayed (Some failing) e r = ([], Some failing)

-- the events up to the first that is not legal, and its first condition that fails
abbrev pub replay : ℕ → ℕ → RingState → List Event → Replay
replay size seats st [] = ([], None)
replay size seats st (e ∷ es) = replayed (first_failing (conditions (sight_of size seats st (seat_of e)) e)) (entry_in size st e)
    (replay size seats (effect st (seat_of e) (step_in st e)) es)

-- the replay of a schedule
unfoldable pub replay_of : Schedule → Replay
replay_of s = replay s.size s.seats first_state s.events

-- one line for each step, with the word that it leaves
abbrev pub words_of : ℕ → RingState → List Entry → List ℕ
words_of size st [] = []
words_of size st (e ∷ es) = word_line (ring_word size (effect st e.seat e.event)) ++ words_of size (effect st e.seat e.event) es

-- the counters, or the first line that is not legal
abbrev pub last_line : ℕ → Counters → Option Illegal → List ℕ
last_line line counters None = counters_line (capped counters)
last_line line counters (Some failing) = fault_line line (condition_name failing)

abbrev pub trace_text_of : ℕ → Replay → List ℕ
trace_text_of size r = words_of size first_state r.0 ++ last_line (length r.0 + 2) (counters_of first_state r.0) r.1

abbrev pub trace_text : Schedule → List ℕ
trace_text s = trace_text_of s.size (replay_of s)

-- each event of the schedule is legal
abbrev pub is_legal : Schedule → Bool
is_legal s = is_none (replay_of s).1
