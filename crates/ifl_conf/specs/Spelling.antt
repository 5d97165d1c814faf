-- How options and FILE words are written.
use Rattle.std.specs.Prelude.{◌≡◌, ℕ, Bool, true, not, ◌&&◌, List, [], ◌∷◌, ◌++◌, map, codes}
use Rattle.std.specs.List.{list_all, flat_map}
use Rattle.ifl_conf.specs.declared.words.CommandName.{CommandName}
use Rattle.ifl_conf.specs.declared.words.OptionName.{OptionName}
use Rattle.ifl_conf.specs.Front.{Given, is_plain}
use Rattle.ifl_conf.specs.Options.{option_text, has_value, takes}
use Rattle.ifl_conf.specs.FileWords.{is_filled}

-- an option as it is written
pub data Written : Type 0 where
  joined_by_equals : OptionName → List ℕ → Written
  before_its_value : OptionName → List ℕ → Written
  by_itself : OptionName → Written

-- the words that an option is written by
abbrev pub option_words : Written → List (List ℕ)
option_words (joined_by_equals o value) = (option_text o ++ codes "=" ++ value) ∷ []
option_words (before_its_value o value) = option_text o ∷ value ∷ []
option_words (by_itself o) = option_text o ∷ []

-- the option and the value that it gives
abbrev pub given_by : Written → Given
given_by (joined_by_equals o value) = (o, value)
given_by (before_its_value o value) = (o, value)
given_by (by_itself o) = (o, [])

-- the command has the option in this form
abbrev pub is_option_of : CommandName → Written → Bool
is_option_of c (joined_by_equals o value) = takes c o && (has_value o && is_filled value)
is_option_of c (before_its_value o value) = takes c o && (has_value o && is_plain value)
is_option_of c (by_itself o) = takes c o && not (has_value o)

-- FILE words as they are written, without a mark before them or with one
pub data Files : Type 0 where
  plain_files : List (List ℕ) → Files
  marked_files : List (List ℕ) → Files

-- the words that they are written by
abbrev pub file_words : Files → List (List ℕ)
file_words (plain_files fs) = fs
file_words (marked_files fs) = codes "--" ∷ fs

-- the FILE words that they give
abbrev pub files_in : Files → List (List ℕ)
files_in (plain_files fs) = fs
files_in (marked_files fs) = fs

-- they may be written so
abbrev pub are_files : Files → Bool
are_files (plain_files fs) = list_all is_plain fs
are_files (marked_files fs) = list_all is_filled fs

-- the words are spelled by these options, and by what is left
pub record IsSpelled (c : CommandName) (ws : List (List ℕ)) (read : List Given × List (List ℕ)) : Type 0 where
  pub options : List Written
  pub words : flat_map option_words options ++ read.1 ≡ ws
  pub given : map given_by options ≡ read.0
  pub fits : list_all (is_option_of c) options ≡ true

-- the words are FILE words as they are written, which give these
pub record AreFileWords (ws fs : List (List ℕ)) : Type 0 where
  pub files : Files
  pub words : file_words files ≡ ws
  pub given : files_in files ≡ fs
  pub fits : are_files files ≡ true
