-- The commands and their options, and how each is written.
use Rattle.std.specs.Prelude.{ℕ, Bool, true, false, ◌==◌, nat_lt, List, [], ◌∷◌, ◌++◌, codes, Option}
use Rattle.std.specs.List.{list_any, find}
use Rattle.std.specs.Str.{bytes_eq}
use Rattle.ifl_conf.specs.declared.words.CommandName.{CommandName}
use Rattle.ifl_conf.specs.declared.words.CommandName.TheVariants.{Send, Gen, Trace, Check}
use Rattle.ifl_conf.specs.declared.words.OptionName.{OptionName}
use Rattle.ifl_conf.specs.declared.words.OptionName.TheVariants.{Wire, Order, SettingsFile, Input, Host, Ring, Seed, Senders, Frames}

-- how a command is written
abbrev pub command_text : CommandName → List ℕ
command_text Send = codes "send"
command_text Gen = codes "gen"
command_text Trace = codes "trace"
command_text Check = codes "check"

-- the commands
abbrev pub commands : List CommandName
commands = Send ∷ Gen ∷ Trace ∷ Check ∷ []

-- how an option is written
abbrev pub option_text : OptionName → List ℕ
option_text Wire = codes "--wire"
option_text Order = codes "--order"
option_text SettingsFile = codes "--settings"
option_text Input = codes "--in"
option_text Host = codes "--host"
option_text Ring = codes "--ring"
option_text Seed = codes "--seed"
option_text Senders = codes "--senders"
option_text Frames = codes "--frames"

-- the options
abbrev pub options : List OptionName
options = Wire ∷ Order ∷ SettingsFile ∷ Input ∷ Host ∷ Ring ∷ Seed ∷ Senders ∷ Frames ∷ []

-- the option has a value
abbrev pub has_value : OptionName → Bool
has_value Ring = false
has_value _ = true

-- the options that a command must have
abbrev pub required : CommandName → List OptionName
required Send = Wire ∷ Order ∷ []
required Gen = Seed ∷ Senders ∷ Frames ∷ Wire ∷ Order ∷ []
required Trace = []
required Check = Wire ∷ Order ∷ []

-- the options that a command may have
abbrev pub optional : CommandName → List OptionName
optional Send = SettingsFile ∷ Input ∷ Host ∷ Ring ∷ []
optional Gen = SettingsFile ∷ Ring ∷ []
optional Trace = []
optional Check = SettingsFile ∷ []

-- the options are one
abbrev pub same_option : OptionName → OptionName → Bool
same_option o p = bytes_eq (option_text o) (option_text p)

-- the command has the option
abbrev pub takes : CommandName → OptionName → Bool
takes c o = list_any (same_option o) (required c ++ optional c)

-- how many FILE words a command takes
abbrev pub takes_files : CommandName → ℕ → Bool
takes_files Send n = nat_lt 0 n
takes_files Gen n = n == 0
takes_files Trace n = n == 1
takes_files Check n = nat_lt 0 n

-- the command writes files
abbrev pub writes_files : CommandName → Bool
writes_files Send = true
writes_files Gen = true
writes_files _ = false

-- the command that is written so
unfoldable pub command_named : List ℕ → Option CommandName
command_named w = find (λ c. bytes_eq w (command_text c)) commands

-- the option that is written so
unfoldable pub option_named : List ℕ → Option OptionName
option_named w = find (λ o. bytes_eq w (option_text o)) options
