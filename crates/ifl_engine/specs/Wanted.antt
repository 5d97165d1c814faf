-- What a run is to do, or the first thing that stops it: one line for each refusal, in the order of refusals.
use Rattle.std.specs.Prelude.{ℕ, List, Result, Ok, Err}
use Rattle.ifl_pcap.specs.declared.frame.Frame.{Frame}
use Rattle.ifl_engine.specs.declared.stop.WordsWhy.{WordsWhy}
use Rattle.ifl_engine.specs.declared.stop.WordsWhy.TheVariants.{Refused}
use Rattle.ifl_engine.specs.declared.stop.Stop.{Stop}
use Rattle.ifl_engine.specs.declared.stop.Stop.TheVariants as stop
use Rattle.ifl_engine.specs.declared.stop.Input.TheVariants as input
use Rattle.ifl_engine.specs.Words.{Named, Asked, send, trace, asked}
use Rattle.ifl_engine.specs.Account.{Source}
use Rattle.ifl_engine.specs.Loading.{◌>>=◌, Chosen, file_at, read_of}

-- to send these captures by these settings, and write under these names; or to replay this schedule's file
pub data Work : Type 0 where
  sending : (names : Named) (settings : Chosen) (captures : List (List Frame)) → Work
  tracing : (schedule : List ℕ) → Work

abbrev pub in_words : {A : Type 0} → Result A WordsWhy → Result A Stop
in_words (Ok x) = Ok x
in_words (Err why) = Err (stop.Words why)

-- the work of a command
abbrev pub work_of : Asked → Source → Result Work Stop
work_of (send names) source = do
  load ← read_of names source
  Ok (sending names load.settings load.captures)
work_of (trace file) source = do
  bytes ← file_at (input.File 0) 1048576 (source (input.File 0) file)
  Ok (tracing bytes)

-- what is to be done for words that ask for this
abbrev pub wanted_by : Result Asked WordsWhy → Source → Result Work Stop
wanted_by words source = do
  command ← in_words words
  work_of command source

-- what the words and the files ask for
abbrev pub wanted : List (List ℕ) → Source → Result Work Stop
wanted words source = wanted_by (asked words) source

-- the words of `trace` alone: every other command is refused
abbrev pub only_trace : Result Asked WordsWhy → Result Asked WordsWhy
only_trace (Ok (send names)) = Err Refused
only_trace (Ok (trace file)) = Ok (trace file)
only_trace (Err why) = Err why
