-- What a list of words is: the first names a command, then come options, and then FILE words.
use Rattle.std.specs.Prelude.{ℕ, not, ◌&&◌, if◌then◌else◌, List, [], ◌∷◌, Option, None, Some}
use Rattle.ifl_conf.specs.declared.words.CommandName.{CommandName}
use Rattle.ifl_conf.specs.Options.{writes_files, command_named}
use Rattle.ifl_conf.specs.Front.{Given, front}
use Rattle.ifl_conf.specs.FileWords.{files_of}
use Rattle.ifl_conf.specs.Grammar.{is_of_grammar}
use Rattle.ifl_conf.specs.Clashes.{names_clash}
use Rattle.ifl_conf.specs.Served.{is_form_served}

-- what a list of words is
pub data Reading : Type 0 where
  no_command : Reading
  unknown_command : Reading
  refused : Reading
  names : Reading
  asks : CommandName → List Given → List (List ℕ) → Reading

-- what a command's options and FILE words are
abbrev pub reading_of : CommandName → List Given → Option (List (List ℕ)) → Reading
reading_of c gs None = refused
reading_of c gs (Some fs) =
    if not (is_of_grammar c gs fs && is_form_served c gs) then refused else if writes_files c && names_clash gs fs then names else asks c gs fs

-- what the words behind a command's name are
abbrev pub command_reading : List (List ℕ) → Option CommandName → Reading
command_reading ws None = unknown_command
command_reading ws (Some c) = reading_of c (front c ws).0 (files_of (front c ws).1)

-- what the words behind the program's name are
abbrev pub reading : List (List ℕ) → Reading
reading [] = no_command
reading (w ∷ ws) = command_reading ws (command_named w)
