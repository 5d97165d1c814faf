-- What options and FILE words a command has.
use Rattle.std.specs.Prelude.{ℕ, ◌-◌, ◌^◌, Bool, true, not, ◌&&◌, ◌||◌, ◌==◌, if◌then◌else◌, nat_le, List, [], ◌∷◌, length, slice_index, Option, None, Some, is_some}
use Rattle.std.specs.List.{list_all}
use Rattle.std.specs.Char.{is_ascii_digit}
use Rattle.std.specs.Str.Parse.{digits_value}
use Rattle.ifl_conf.specs.declared.words.CommandName.{CommandName}
use Rattle.ifl_conf.specs.declared.words.OptionName.{OptionName}
use Rattle.ifl_conf.specs.declared.words.OptionName.TheVariants.{Input, Host, Seed, Senders, Frames}
use Rattle.ifl_conf.specs.Options.{required, same_option, takes_files}
use Rattle.ifl_conf.specs.Front.{Given}
use Rattle.ifl_conf.specs.FileWords.{is_filled}

-- the value of an option that was written
abbrev pub value_of : OptionName → List Given → Option (List ℕ)
value_of o [] = None
value_of o (g ∷ gs) = if same_option o g.0 then Some g.1 else value_of o gs

-- the option was written
abbrev pub is_given : OptionName → List Given → Bool
is_given o gs = is_some (value_of o gs)

-- no option stands twice
abbrev pub are_distinct : List Given → Bool
are_distinct [] = true
are_distinct (g ∷ gs) = not (is_given g.0 gs) && are_distinct gs

-- each option is there that the command must have
abbrev pub has_required : CommandName → List Given → Bool
has_required c gs = list_all (λ o. is_given o gs) (required c)

-- --in and --host stand together
abbrev pub has_both_or_neither : List Given → Bool
has_both_or_neither gs = if is_given Input gs then is_given Host gs else not (is_given Host gs)

-- a number without sign and without leading zeros
abbrev pub is_number : List ℕ → Bool
is_number w = (is_filled w && list_all is_ascii_digit w) && (length w == 1 || not (slice_index w 0 == 48))

-- the value, where there is one, is a number in the range
abbrev pub is_number_within : ℕ → ℕ → Option (List ℕ) → Bool
is_number_within least most None = true
is_number_within least most (Some w) = is_number w && (nat_le least (digits_value 10 w) && nat_le (digits_value 10 w) most)

-- each number that was written is in its range
abbrev pub has_numbers : List Given → Bool
has_numbers gs =
    is_number_within 0 (2 ^ 64 - 1) (value_of Seed gs)
    && (is_number_within 1 16 (value_of Senders gs) && is_number_within 0 1000000 (value_of Frames gs))

-- the options and FILE words are of the grammar
unfoldable pub is_of_grammar : CommandName → List Given → List (List ℕ) → Bool
is_of_grammar c gs fs =
    are_distinct gs && (has_required c gs && (has_both_or_neither gs && (has_numbers gs && takes_files c (length fs))))
