-- Names that are equal as text, of which one is written.
use Rattle.std.specs.Prelude.{ℕ, Bool, false, ◌||◌, List, [], ◌∷◌, Option, None, Some}
use Rattle.std.specs.List.{list_any}
use Rattle.std.specs.Str.{bytes_eq}
use Rattle.ifl_conf.specs.declared.words.OptionName.TheVariants.{Wire, Order, SettingsFile, Input, Host}
use Rattle.ifl_conf.specs.Front.{Given}
use Rattle.ifl_conf.specs.Grammar.{value_of}

-- the name is this value, where there is one
abbrev pub is_value : List ℕ → Option (List ℕ) → Bool
is_value w None = false
is_value w (Some v) = bytes_eq w v

-- the name is also that of a file that is read
abbrev pub is_read : List ℕ → List Given → List (List ℕ) → Bool
is_read w gs fs = is_value w (value_of SettingsFile gs) || (is_value w (value_of Input gs) || list_any (bytes_eq w) fs)

-- the name under this option is also that of a file that is read, or one of these that are written
abbrev pub clashes : Option (List ℕ) → List (Option (List ℕ)) → List Given → List (List ℕ) → Bool
clashes None others gs fs = false
clashes (Some w) others gs fs = list_any (is_value w) others || is_read w gs fs

-- two names are equal, of which one is written
unfoldable pub names_clash : List Given → List (List ℕ) → Bool
names_clash gs fs =
    clashes (value_of Wire gs) (value_of Order gs ∷ value_of Host gs ∷ []) gs fs
    || (clashes (value_of Order gs) (value_of Host gs ∷ None ∷ []) gs fs || clashes (value_of Host gs) (None ∷ None ∷ []) gs fs)
