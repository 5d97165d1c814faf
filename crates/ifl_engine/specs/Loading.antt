-- What `send` goes by: what its files are read as, and what they say.
use Rattle.std.specs.Prelude.{ℕ, ◌+◌, List, [], ◌∷◌, length, sum_by, Option, Some, None, Result, Ok, Err, nat_lt, if◌then◌else◌}
use Rattle.ifl_pcap.specs.declared.frame.Frame.{Frame}
use Rattle.ifl_pcap.specs.declared.fault.CaptureFault.{CaptureFault}
use Rattle.ifl_pcap.specs.declared.fault.CaptureFault.TheVariants as bad
use Rattle.ifl_pcap.specs.Reading.{capture_of}
use Rattle.ifl_conf.specs.declared.setting_fault.SettingFault.{SettingFault}
use Rattle.ifl_conf.specs.declared.setting_fault.SettingFault.TheVariants as fault
use Rattle.ifl_conf.specs.declared.keys.KeyName.{KeyName}
use Rattle.ifl_conf.specs.Keys.{Setting, row}
use Rattle.ifl_conf.specs.Documents.{fault_of, set_by}
use Rattle.ifl_engine.specs.declared.stop.SettingsWhy.TheVariants as bad_setting
use Rattle.ifl_engine.specs.declared.stop.Stop.{Stop}
use Rattle.ifl_engine.specs.declared.stop.Stop.TheVariants as stop
use Rattle.ifl_engine.specs.declared.stop.Input.{Input}
use Rattle.ifl_engine.specs.declared.stop.Input.TheVariants as input
use Rattle.ifl_engine.specs.Words.{Named}
use Rattle.ifl_engine.specs.Account.{Reply, failed, gave, Held, Source}

infixl 10 ◌>>=◌
abbrev pub ◌>>=◌ : {A B : Type 0} → Result A Stop → (A → Result B Stop) → Result B Stop
(Ok x) >>= f = f x
(Err e) >>= f = Err e

-- what each of a list gives, counted from a number on, or the first of them that stops
abbrev pub each_from : {A B : Type 0} → (ℕ → A → Result B Stop) → ℕ → List A → Result (List B) Stop
each_from give n [] = Ok []
each_from give n (x ∷ xs) = do
  y ← give n x
  ys ← each_from give (n + 1) xs
  Ok (y ∷ ys)

-- a count that is not above its limit
abbrev pub limited : ℕ → Stop → ℕ → Result ℕ Stop
limited most over count = if nat_lt most count then Err over else Ok count

abbrev pub in_capture : {A : Type 0} → ℕ → Result A CaptureFault → Result A Stop
in_capture n (Ok x) = Ok x
in_capture n (Err (bad.Bad at why)) = Err (stop.Capture n at why)
in_capture n (Err bad.Memory) = Err stop.Memory

-- the stop for a settings file that is refused, or for which there was no memory
abbrev pub stop_by_settings : SettingFault → Stop
stop_by_settings fault.Text = stop.Settings bad_setting.Text
stop_by_settings fault.Unknown = stop.Settings bad_setting.Unknown
stop_by_settings (fault.Key k) = stop.Settings (bad_setting.Key k)
stop_by_settings fault.Memory = stop.Memory

-- ---- the files that are read

-- a file that is not longer than the limit
abbrev pub file_at : Input → ℕ → Reply → Result (List ℕ) Stop
file_at which limit failed = Err (stop.ReadFailed which)
file_at which limit (gave None) = Err (stop.Absent which)
file_at which limit (gave (Some bytes)) = if nat_lt limit (length bytes) then Err (stop.TooLong which) else Ok bytes

-- their bytes: those of the settings file, where one is named, and those of the captures
pub record Bytes : Type 0 where
  pub settings : Option (List ℕ)
  pub captures : List (List ℕ)

-- the settings file, where one is named
abbrev pub settings_file : Option (List ℕ) → Held → Result (Option (List ℕ)) Stop
settings_file None held = Ok None
settings_file (Some name) held = do
  bytes ← file_at input.Settings 65536 (held name)
  Ok (Some bytes)

-- the FILE of this number
abbrev pub capture_file : Source → ℕ → List ℕ → Result (List ℕ) Stop
capture_file source n name = file_at (input.File n) 67108864 (source (input.File n) name)

-- the settings file is read first, and then the FILEs in their order
abbrev pub bytes_read : Named → Source → Result Bytes Stop
bytes_read names source = do
  settings ← settings_file names.settings (source input.Settings)
  captures ← each_from (capture_file source) 0 names.files
  Ok (record { settings = settings; captures = captures })

-- ---- what they say

-- what each key is set to
abbrev pub Chosen : Type 0
Chosen = KeyName → Option Setting

-- what a settings file sets, or the first fault of that file
abbrev pub settings_by : Option SettingFault → Chosen → Result Chosen Stop
settings_by None set = Ok set
settings_by (Some e) set = Err (stop_by_settings e)

-- the settings: as the settings file has them, or the standard ones where there is none
unfoldable pub settings_in : Option (List ℕ) → Result Chosen Stop
settings_in None = Ok (λ k. Some (row k).standard)
settings_in (Some bytes) = settings_by (fault_of bytes) (set_by bytes)

-- the capture of the bytes of the FILE of this number
abbrev pub capture_in : ℕ → List ℕ → Result (List Frame) Stop
capture_in n bytes = in_capture n (capture_of bytes)

-- what `send` goes by: the settings, and the captures
pub record Load : Type 0 where
  pub settings : Chosen
  pub captures : List (List Frame)

-- all captures' bytes are counted first, the settings are looked at before the captures, and their frames are counted last
abbrev pub load_in : Bytes → Result Load Stop
load_in bytes = do
  size ← limited 134217728 stop.TooManyBytes (sum_by (λ c. length c) bytes.captures)
  settings ← settings_in bytes.settings
  captures ← each_from capture_in 0 bytes.captures
  count ← limited 1000000 stop.TooManyFrames (sum_by (λ c. length c) captures)
  Ok (record { settings = settings; captures = captures })

-- what is read, where there are not too many FILEs
unfoldable pub read_of : Named → Source → Result Load Stop
read_of names source = do
  count ← limited 16 stop.TooManyFiles (length names.files)
  bytes ← bytes_read names source
  load_in bytes
