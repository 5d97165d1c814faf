-- What a settings file sets, and its first fault.
use Rattle.std.specs.Prelude.{◌≡◌, ℕ, pos, ◌+◌, Bool, true, false, ◌&&◌, ◌||◌, if◌then◌else◌, nat_lt, nat_le, List, [], ◌∷◌, codes, Option, None, Some, is_none, option_map, option_and_then}
use Rattle.std.specs.Prelude.{Result, Ok, Err}
use Rattle.std.specs.List.{list_any, find, AllByRecursion}
use Rattle.std.specs.Option.{option_or}
use Rattle.std.specs.Str.{bytes_eq, is_utf8}
use Rattle.toml.specs.Data.{Data, string, integer, boolean, table, Members, no_members, member, get_member, get}
use Rattle.toml.specs.Parse.{parse_document}
use Rattle.ifl_conf.specs.declared.keys.KeyName.{KeyName}
use Rattle.ifl_conf.specs.declared.keys.KeyName.TheVariants.{AdapterDescriptors, AdapterMaxSegs, AdapterStart, FramesMaxFrame, FramesPolicy, PoolClusters, PoolSegBytes}
use Rattle.ifl_conf.specs.declared.setting_fault.SettingFault.{SettingFault}
use Rattle.ifl_conf.specs.declared.setting_fault.SettingFault.TheVariants.{Text, Unknown, Key, Memory}
use Rattle.ifl_conf.specs.Parts.{parts}
use Rattle.ifl_conf.specs.Keys.{Setting, number, flag, word, Kind, between, truth, one_of, row, keys, is_key, is_table_name}

-- the document that the bytes are: UTF-8, and in it a TOML document
abbrev pub document_of : List ℕ → Option Members
document_of bytes = if is_utf8 bytes then parse_document bytes else None

-- ---- names

-- each name in the table of this name is that of a key there
abbrev pub names_known_in : List ℕ → Members → Bool
names_known_in place no_members = true
names_known_in place (member k d ms) = is_key (Some place) k && names_known_in place ms

-- a table of keys, with no name that no key has
abbrev pub is_known_table : List ℕ → Data → Bool
is_known_table k (table ms) = is_table_name k && names_known_in k ms
is_known_table k _ = false

-- each name at the top is that of a key, or of a table whose names are those of keys
abbrev pub names_known : Members → Bool
names_known no_members = true
names_known (member k d ms) = (is_key None k || is_known_table k d) && names_known ms

-- ---- values

-- the value that a key has in a document
abbrev pub written_at : Option (List ℕ) → List ℕ → Members → Option Data
written_at None name ms = get_member name ms
written_at (Some place) name ms = option_and_then (get name) (get_member place ms)

-- the setting that a value is, where it is of the kind and in its range
abbrev pub as_setting : Kind → Data → Option Setting
as_setting (between least most) (integer (pos n)) = if nat_le least n && nat_le n most then Some (number n) else None
as_setting truth (boolean b) = Some (flag b)
as_setting (one_of words) (string s) = if list_any (bytes_eq s) words then Some (word s) else None
as_setting _ _ = None

-- what a key is set to by what is written for it
abbrev pub or_standard : KeyName → Option Data → Option Setting
or_standard k None = Some (row k).standard
or_standard k (Some d) = as_setting (row k).kind d

-- what a document sets a key to: nothing, where the value is of another kind or out of range
unfoldable pub set_in : Members → KeyName → Option Setting
set_in ms k = or_standard k (written_at (row k).place (row k).name ms)

-- ---- keys that do not go together

-- the number that a key is set to
abbrev pub number_of : Option Setting → ℕ
number_of (Some (number n)) = n
number_of _ = 0

-- the key is set to this word
abbrev pub is_word : List ℕ → Option Setting → Bool
is_word text (Some (word s)) = bytes_eq s text
is_word text _ = false

-- The rules over several keys, in their order, each with the key that is at fault where it is broken. What a key that
-- has no setting counts as doesn't matter, since that key is at fault before.
abbrev pub conflicts : (KeyName → Option Setting) → List (KeyName × Bool)
conflicts v =
    (AdapterDescriptors, nat_lt (number_of (v AdapterDescriptors)) (number_of (v AdapterMaxSegs) + 4))
    ∷ (AdapterStart, is_word (codes "after_senders") (v AdapterStart) && is_word (codes "retry") (v FramesPolicy))
    ∷ (PoolSegBytes, nat_lt 64 (parts (number_of (v FramesMaxFrame)) (number_of (v PoolSegBytes))))
    ∷ (PoolClusters, nat_lt (number_of (v PoolClusters)) (parts (number_of (v FramesMaxFrame)) (number_of (v PoolSegBytes))))
    ∷ []

-- the key at fault of the first of these rules that is broken
abbrev pub first_conflict : (KeyName → Option Setting) → Option KeyName
first_conflict v = option_map (λ c. c.0) (find (λ c. c.1) (conflicts v))

-- ---- the first fault

-- the first key, in their order, whose value is refused
abbrev pub first_refused : List KeyName → Members → Option KeyName
first_refused ks ms = find (λ k. is_none (set_in ms k)) ks

-- the first fault of a document
abbrev pub first_fault : Members → Option SettingFault
first_fault ms =
    if names_known ms then option_map Key (option_or (first_refused keys ms) (first_conflict (set_in ms))) else Some Unknown

-- the first fault of the bytes of a settings file
abbrev pub fault_of_document : Option Members → Option SettingFault
fault_of_document None = Some Text
fault_of_document (Some ms) = first_fault ms

abbrev pub fault_of : List ℕ → Option SettingFault
fault_of bytes = fault_of_document (document_of bytes)

-- what the bytes of a settings file set a key to
abbrev pub set_by : List ℕ → KeyName → Option Setting
set_by bytes k = option_and_then (λ ms. set_in ms k) (document_of bytes)

-- ---- what the functions that look for keys answer

-- the bytes are no document, or there was no memory to read it
abbrev pub IsNoDocument : List ℕ → SettingFault → Type 0
IsNoDocument bytes Memory = Unit {0}
IsNoDocument bytes Text = document_of bytes ≡ None
IsNoDocument bytes _ = ⊥

-- A function that looks for one key answers what the document sets it to, and else that the key is at fault.
abbrev pub IsSetTo : {X : Type 0} → (X → Setting) → Option Setting → KeyName → Result X SettingFault → Type 0
IsSetTo seen set key (Ok x) = set ≡ Some (seen x)
IsSetTo seen set key (Err e) = (set ≡ None) × (e ≡ Key key)

-- A function that looks for some keys answers what the document sets each to, and else the first of them that is refused.
abbrev pub AreSetTo : {X : Type 0} → (X → KeyName → Setting) → Members → List KeyName → Result X SettingFault → Type 0
AreSetTo seen ms ks (Ok x) = AllByRecursion (λ k. set_in ms k ≡ Some (seen x k)) ks
AreSetTo seen ms ks (Err e) = option_map Key (first_refused ks ms) ≡ Some e
