-- How a key is printed: as `table.name`, and a key at the top as `name`.
use Rattle.std.specs.Prelude.{ℕ, List, ◌++◌, codes, Option, None, Some}
use Rattle.ifl_conf.specs.declared.keys.KeyName.{KeyName}
use Rattle.ifl_conf.specs.Keys.{row}

-- a name in a place
abbrev pub dotted : Option (List ℕ) → List ℕ → List ℕ
dotted None name = name
dotted (Some place) name = place ++ codes "." ++ name

-- the text of a key
abbrev pub key_text : KeyName → List ℕ
key_text k = dotted (row k).place (row k).name
