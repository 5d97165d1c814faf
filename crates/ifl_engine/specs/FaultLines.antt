-- The fault line of each stop: what stopped the run, with names as given.
use Rattle.std.specs.Prelude.{ℕ, List, [], ◌∷◌, ◌++◌, Result, Ok, Err, codes, decimal, slice_get}
use Rattle.ifl_pcap.specs.Names.{why_name}
use Rattle.ifl_conf.specs.KeyText.{key_text}
use Rattle.ifl_engine.specs.declared.stop.WordsWhy.{WordsWhy}
use Rattle.ifl_engine.specs.declared.stop.WordsWhy.TheVariants as bad_word
use Rattle.ifl_engine.specs.declared.stop.SettingsWhy.{SettingsWhy}
use Rattle.ifl_engine.specs.declared.stop.SettingsWhy.TheVariants as bad_setting
use Rattle.ifl_engine.specs.declared.stop.Stop.{Stop}
use Rattle.ifl_engine.specs.declared.stop.Stop.TheVariants as stop
use Rattle.ifl_engine.specs.declared.stop.Input.{Input}
use Rattle.ifl_engine.specs.declared.stop.Input.TheVariants as input
use Rattle.ifl_engine.specs.Words.{Named, Asked, send, trace, asked, no_names, or_empty}

-- the line of words that are refused
abbrev pub word_line : WordsWhy → List ℕ
word_line bad_word.NoCommand = codes "words: no command\n"
word_line bad_word.UnknownCommand = codes "words: unknown command\n"
word_line bad_word.Refused = codes "words: refused\n"
word_line bad_word.Names = codes "words: names\n"

-- the line of a settings file that is refused
abbrev pub setting_line : SettingsWhy → List ℕ
setting_line bad_setting.Text = codes "settings: text\n"
setting_line bad_setting.Unknown = codes "settings: unknown\n"
setting_line (bad_setting.Key k) = codes "settings: " ++ (key_text k ++ codes "\n")

-- the names as a fault line tells them: of the FILEs, the one that the stop is about
pub record Shown : Type 0 where
  pub settings : List ℕ
  pub wire : List ℕ
  pub order : List ℕ
  pub file : List ℕ

-- the number of the FILE that a stop is about, or 0 where it is about none
abbrev pub file_number : Stop → ℕ
file_number (stop.ReadFailed (input.File n)) = n
file_number (stop.Absent (input.File n)) = n
file_number (stop.TooLong (input.File n)) = n
file_number (stop.Capture n at why) = n
file_number e = 0

-- the name of the FILE of this number, or the empty text where there is none
abbrev pub file_named : List (List ℕ) → ℕ → List ℕ
file_named files n = or_empty (slice_get files n)

abbrev pub shown : Named → Stop → Shown
shown names why = record { settings = or_empty names.settings; wire = names.wire; order = names.order; file = file_named names.files (file_number why) }

-- the name of a file that is read: that of the settings file, or that of the FILE
abbrev pub name_read : List ℕ → List ℕ → Input → List ℕ
name_read settings file input.Settings = settings
name_read settings file (input.File n) = file

-- what stopped the run, and where and why a file is no capture
abbrev pub line_for : Shown → Stop → List ℕ
line_for names (stop.Words why) = word_line why
line_for names stop.TooManyFiles = codes "limit: files\n"
line_for names (stop.Absent which) = codes "absent: " ++ (name_read names.settings names.file which ++ codes "\n")
line_for names (stop.TooLong which) = codes "limit: " ++ (name_read names.settings names.file which ++ codes "\n")
line_for names stop.TooManyBytes = codes "limit: bytes\n"
line_for names (stop.Settings why) = setting_line why
line_for names (stop.Capture n at why) = codes "capture: " ++ (names.file ++ (codes " at " ++ (decimal at ++ (codes ": " ++ (why_name why ++ codes "\n")))))
line_for names stop.TooManyFrames = codes "limit: frames\n"
line_for names (stop.ReadFailed which) = codes "host: read " ++ (name_read names.settings names.file which ++ codes "\n")
line_for names stop.WireFailed = codes "host: write " ++ (names.wire ++ codes "\n")
line_for names stop.OrderFailed = codes "host: write " ++ (names.order ++ codes "\n")
line_for names stop.PrintFailed = codes "host: print\n"
line_for names stop.Memory = codes "memory\n"

abbrev pub line_of : Named → Stop → List ℕ
line_of names why = line_for (shown names why) why

-- the names that the fault lines of a command may tell
abbrev pub names_asked : Asked → Named
names_asked (send names) = names
names_asked (trace file) = record no_names { files = file ∷ [] }

-- the names, where the words have them
abbrev pub names_or_none : Result Asked WordsWhy → Named
names_or_none (Ok command) = names_asked command
names_or_none (Err why) = no_names

abbrev pub names_in : List (List ℕ) → Named
names_in words = names_or_none (asked words)
