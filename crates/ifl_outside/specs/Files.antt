-- The files of a host: a list of names, each with its bytes. A name means the first entry that has it.
use Rattle.std.specs.Prelude.{◌≡◌, ◌≢◌, ℕ, List, [], ◌∷◌, Option, if◌then◌else◌}
use Rattle.std.specs.Map.{lookup}
use Rattle.std.specs.Str.{bytes_eq}

abbrev pub Files : Type 0
Files = List (List ℕ × List ℕ)

-- what a file of that name holds, where there is one
abbrev pub held : Files → List ℕ → Option (List ℕ)
held files name = lookup (λ n. bytes_eq n name) files

-- the files after these bytes were put under that name
abbrev pub put : List ℕ → List ℕ → Files → Files
put name bytes [] = (name, bytes) ∷ []
put name bytes (file ∷ files) = if bytes_eq file.0 name then (file.0, bytes) ∷ files else file ∷ put name bytes files

-- every other file is as before
abbrev pub SameBut : List ℕ → Files → Files → Type 0
SameBut name old new = (q : List ℕ) → q ≢ name → held new q ≡ held old q
