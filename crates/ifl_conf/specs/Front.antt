-- The options at the front of the words.
use Rattle.std.specs.Prelude.{ℕ, Bool, not, ◌&&◌, ◌||◌, ◌==◌, if◌then◌else◌, nat_lt, List, [], ◌∷◌, length, slice_index, Option, None, Some, option_and_then}
use Rattle.std.specs.List.{position_or_len, before_first, after_first}
use Rattle.ifl_conf.specs.declared.words.CommandName.{CommandName}
use Rattle.ifl_conf.specs.declared.words.OptionName.{OptionName}
use Rattle.ifl_conf.specs.Options.{has_value, takes, option_named}

-- the word is not empty, and doesn't begin with `-`, unless it is `-` alone
unfoldable pub is_plain : List ℕ → Bool
is_plain w = nat_lt 0 (length w) && (length w == 1 || not (slice_index w 0 == 45))

-- an option that was written, with its value; an option that has none has the empty one here
abbrev pub Given : Type 0
Given = OptionName × List ℕ

-- `--name=value`
unfoldable pub joined : CommandName → List ℕ → List ℕ → Option Given
joined c name value =
    option_and_then (λ o. if takes c o && (has_value o && nat_lt 0 (length value)) then Some (o, value) else None) (option_named name)

-- `--name` without a value
unfoldable pub alone : CommandName → List ℕ → Option Given
alone c name = option_and_then (λ o. if takes c o && not (has_value o) then Some (o, []) else None) (option_named name)

-- `--name` and the value
unfoldable pub two_words : CommandName → List ℕ → List ℕ → Option Given
two_words c name value =
    option_and_then (λ o. if takes c o && (has_value o && is_plain value) then Some (o, value) else None) (option_named name)

-- the mark between an option's name and its value
abbrev pub is_equals : ℕ → Bool
is_equals c = c == 61

-- an option of one word
unfoldable pub one_word : CommandName → List ℕ → Option Given
one_word c w =
    if nat_lt (position_or_len is_equals w) (length w) then joined c (before_first is_equals w) (after_first is_equals w) else alone c w

-- an option before others
abbrev pub with_option : Given → List Given × List (List ℕ) → List Given × List (List ℕ)
with_option g r = (g ∷ r.0, r.1)

-- the option that a word, or it and the next, write, before what the rest gives
abbrev pub taken : Option Given → List Given × List (List ℕ) → List Given × List (List ℕ) → List Given × List (List ℕ)
taken None more otherwise = otherwise
taken (Some g) more otherwise = with_option g more

-- the options at the front, and the words after them
unfoldable pub front : CommandName → List (List ℕ) → List Given × List (List ℕ)
front c [] = ([], [])
front c (w ∷ []) = taken (one_word c w) ([], []) ([], w ∷ [])
front c (w ∷ v ∷ ws) = taken (one_word c w) (front c (v ∷ ws)) (taken (two_words c w v) (front c ws) ([], w ∷ v ∷ ws))
