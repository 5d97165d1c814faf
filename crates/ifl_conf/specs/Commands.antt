-- What a command shows of the words, and what is answered to them.
use Rattle.std.specs.Prelude.{◌≡◌, ◌<◌, ℕ, List, [], ◌∷◌, length, map, None, Some, option_map, string_bytes, Result, Ok, Err, IfSome}
use Rattle.std.specs.Str.Parse.{digits_value}
use Rattle.ifl_conf.specs.declared.word_fault.WordFault.{WordFault}
use Rattle.ifl_conf.specs.declared.word_fault.WordFault.TheVariants.{NoCommand, UnknownCommand, Refused, Names, Memory}
use Rattle.ifl_conf.specs.declared.command.Command.{Command}
use Rattle.ifl_conf.specs.declared.command.Command.TheVariants as command
use Rattle.ifl_conf.specs.declared.command.SendWords.{SendWords}
use Rattle.ifl_conf.specs.declared.command.GenWords.{GenWords}
use Rattle.ifl_conf.specs.declared.command.CheckWords.{CheckWords}
use Rattle.ifl_conf.specs.declared.words.CommandName.{CommandName}
use Rattle.ifl_conf.specs.declared.words.CommandName.TheVariants.{Send, Gen, Trace, Check}
use Rattle.ifl_conf.specs.declared.words.OptionName.TheVariants.{Wire, Order, SettingsFile, Input, Host, Ring, Seed, Senders, Frames}
use Rattle.ifl_conf.specs.Front.{Given}
use Rattle.ifl_conf.specs.Reading.{Reading, no_command, unknown_command, refused, names, asks}
use Rattle.ifl_conf.specs.Grammar.{value_of, is_given}

-- the words of `send` are these options and FILE words
pub record ShowsSend (s : SendWords) (gs : List Given) (fs : List (List ℕ)) : Type 0 where
  pub wire : value_of Wire gs ≡ Some (string_bytes s.wire)
  pub order : value_of Order gs ≡ Some (string_bytes s.order)
  pub settings : option_map string_bytes s.settings ≡ value_of SettingsFile gs
  pub input : option_map string_bytes s.input ≡ value_of Input gs
  pub host : option_map string_bytes s.host ≡ value_of Host gs
  pub ring : s.ring ≡ is_given Ring gs
  pub files : map string_bytes s.files.items ≡ fs

-- the words of `gen` are these options
pub record ShowsGen (s : GenWords) (gs : List Given) : Type 0 where
  pub seed : IfSome (value_of Seed gs) (λ w. s.seed ≡ digits_value 10 w)
  pub senders : IfSome (value_of Senders gs) (λ w. s.senders ≡ digits_value 10 w)
  pub frames : IfSome (value_of Frames gs) (λ w. s.frames ≡ digits_value 10 w)
  pub wire : value_of Wire gs ≡ Some (string_bytes s.wire)
  pub order : value_of Order gs ≡ Some (string_bytes s.order)
  pub settings : option_map string_bytes s.settings ≡ value_of SettingsFile gs
  pub ring : s.ring ≡ is_given Ring gs

-- the words of `check` are these options and FILE words
pub record ShowsCheck (s : CheckWords) (gs : List Given) (fs : List (List ℕ)) : Type 0 where
  pub wire : value_of Wire gs ≡ Some (string_bytes s.wire)
  pub order : value_of Order gs ≡ Some (string_bytes s.order)
  pub settings : option_map string_bytes s.settings ≡ value_of SettingsFile gs
  pub files : map string_bytes s.files.items ≡ fs

-- the command is this one, of these options and FILE words
abbrev pub Shows : Command → CommandName → List Given → List (List ℕ) → Type 0
Shows (command.Send s) c gs fs = (c ≡ Send) × ShowsSend s gs fs
Shows (command.Gen s) c gs fs = (c ≡ Gen) × ShowsGen s gs
Shows (command.Trace file) c gs fs = (c ≡ Trace) × (fs ≡ string_bytes file ∷ [])
Shows (command.Check s) c gs fs = (c ≡ Check) × ShowsCheck s gs fs

-- the answer to words that are this; Memory answers anything
abbrev pub Answers : Result Command WordFault → Reading → Type 0
Answers (Ok asked) r = (c : CommandName) × (gs : List Given) × (fs : List (List ℕ)) × (r ≡ asks c gs fs) × Shows asked c gs fs
Answers (Err NoCommand) r = r ≡ no_command
Answers (Err UnknownCommand) r = r ≡ unknown_command
Answers (Err Refused) r = r ≡ refused
Answers (Err Names) r = r ≡ names
Answers (Err Memory) r = Unit {0}

-- a command that reads captures names one at least
abbrev pub HasFiles : Command → Type 0
HasFiles (command.Send s) = 0 < length s.files.items
HasFiles (command.Gen g) = Unit {0}
HasFiles (command.Trace file) = Unit {0}
HasFiles (command.Check k) = 0 < length k.files.items

-- the program does what the command asks for
abbrev pub IsServed : Command → Type 0
IsServed (command.Send s) = (s.input ≡ None) × (s.host ≡ None)
IsServed (command.Gen g) = ⊥
IsServed (command.Trace file) = Unit {0}
IsServed (command.Check c) = ⊥
