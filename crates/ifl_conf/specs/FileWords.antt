-- The FILE words behind the options.
use Rattle.std.specs.Prelude.{ℕ, Bool, if◌then◌else◌, nat_lt, List, [], ◌∷◌, length, codes, Option, None, Some}
use Rattle.std.specs.List.{list_all}
use Rattle.std.specs.Str.{bytes_eq}
use Rattle.ifl_conf.specs.Front.{is_plain}

-- the word is not empty
abbrev pub is_filled : List ℕ → Bool
is_filled w = nat_lt 0 (length w)

-- the FILE words that stand after the options; after `--` each word that isn't empty is one
unfoldable pub files_of : List (List ℕ) → Option (List (List ℕ))
files_of [] = Some []
files_of (w ∷ ws) =
    if bytes_eq w (codes "--") then (if list_all is_filled ws then Some ws else None)
    else if list_all is_plain (w ∷ ws) then Some (w ∷ ws) else None
