-- What the words of the command line ask the engine for: to send the frames of captures, or to replay a schedule.
use Rattle.std.specs.Prelude.{ℕ, Bool, false, List, [], ◌∷◌, Option, None, Some, is_some, option_and_then, Result, Ok, Err, if◌then◌else◌, codes}
use Rattle.std.specs.Str.{bytes_eq}
use Rattle.ifl_engine.specs.declared.stop.WordsWhy.{WordsWhy}
use Rattle.ifl_engine.specs.declared.stop.WordsWhy.TheVariants.{NoCommand, UnknownCommand, Refused, Names}
use Rattle.ifl_engine.specs.declared.stop.Stop.{Stop}
use Rattle.ifl_engine.specs.declared.stop.Stop.TheVariants as stop
use Rattle.ifl_conf.specs.declared.word_fault.WordFault.{WordFault}
use Rattle.ifl_conf.specs.declared.word_fault.WordFault.TheVariants as fault
use Rattle.ifl_conf.specs.Options.{command_text, option_named}
use Rattle.ifl_conf.specs.Front.{Given}
use Rattle.ifl_conf.specs.Grammar.{value_of}
use Rattle.ifl_conf.specs.Reading.{Reading, no_command, unknown_command, refused, names, asks, reading}

-- the files that a run reads and writes, and what it prints
pub record Named : Type 0 where
  pub settings : Option (List ℕ)
  pub wire : List ℕ
  pub order : List ℕ
  pub files : List (List ℕ)
  -- whether the ring's counters are printed too
  pub ring : Bool

-- no names at all
abbrev pub no_names : Named
no_names = record { settings = None; wire = []; order = []; files = []; ring = false }

-- what the words ask for
pub data Asked : Type 0 where
  send : (names : Named) → Asked
  trace : (file : List ℕ) → Asked

-- a name, or the empty text where there is none
abbrev pub or_empty : Option (List ℕ) → List ℕ
or_empty None = []
or_empty (Some name) = name

-- the first name, or the empty text where there is none
abbrev pub first_name : List (List ℕ) → List ℕ
first_name [] = []
first_name (name ∷ others) = name

-- the value of the option that is written so
abbrev pub value_under : List ℕ → List Given → Option (List ℕ)
value_under text gs = option_and_then (λ o. value_of o gs) (option_named text)

-- the files that the options and the FILE words of `send` name
abbrev pub named : List Given → List (List ℕ) → Named
named gs fs = record {
  settings = value_under (codes "--settings") gs;
  wire = or_empty (value_under (codes "--wire") gs);
  order = or_empty (value_under (codes "--order") gs);
  files = fs;
  ring = is_some (value_under (codes "--ring") gs);
}

-- what the command that is written so asks for with these options and FILE words
abbrev pub asked_by : List ℕ → List Given → List (List ℕ) → Result Asked WordsWhy
asked_by text gs fs =
    if bytes_eq text (codes "send") then Ok (send (named gs fs)) else if bytes_eq text (codes "trace") then Ok (trace (first_name fs)) else Err Refused

-- what words that are read so ask for, or why they are refused
abbrev pub asked_of : Reading → Result Asked WordsWhy
asked_of no_command = Err NoCommand
asked_of unknown_command = Err UnknownCommand
asked_of refused = Err Refused
asked_of names = Err Names
asked_of (asks c gs fs) = asked_by (command_text c) gs fs

-- what all words ask for, or why they are refused
unfoldable pub asked : List (List ℕ) → Result Asked WordsWhy
asked words = asked_of (reading words)

-- the stop for words that are refused, or for which there was no memory
abbrev pub stop_by_words : WordFault → Stop
stop_by_words fault.NoCommand = stop.Words NoCommand
stop_by_words fault.UnknownCommand = stop.Words UnknownCommand
stop_by_words fault.Refused = stop.Words Refused
stop_by_words fault.Names = stop.Words Names
stop_by_words fault.Memory = stop.Memory
