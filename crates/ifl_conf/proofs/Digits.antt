-- A number without sign and without leading zeros, as `parse` reads it.
use Rattle.std.proofs.Common.{◌≡◌, ◌≢◌, ℕ, ◌<◌, ◌&&◌, true, List, [], ◌∷◌, length, get_or, nat_lt, arith}
use Rattle.std.specs.List.{list_all}
use Rattle.std.specs.Char.{is_ascii_digit, digit_value}
use Rattle.std.specs.Str.Parse.{AllDigits, IsNumeral, without_leading_plus}
use Rattle.std.proofs.lemmas.Bool.{and_parts}
use Rattle.std.proofs.lemmas.Bool.Decides.{nat_tests}
use Rattle.std.proofs.lemmas.Str.Parse.{without_leading_plus_none}
use Rattle.ifl_conf.specs.Grammar.{is_number}

-- a digit's value is below ten
digit_below : (c : ℕ) → is_ascii_digit c ≡ true → digit_value c < 10
digit_below c h = grind (arith, nat_tests)

-- ASCII digits are digits to the base ten
all_digits : (ds : List ℕ) → list_all is_ascii_digit ds ≡ true → AllDigits 10 ds
all_digits [] h = tt
all_digits (c ∷ cs) h =
    let (a, b) = and_parts (is_ascii_digit c) (list_all is_ascii_digit cs) h in
    (digit_below c a, all_digits cs b)

-- digits do not begin with a plus
no_plus : (ds : List ℕ) → list_all is_ascii_digit ds ≡ true → get_or ds 0 0 ≢ 43
no_plus [] h e = absurd (omega arith)
no_plus (c ∷ cs) h e =
    let (a, b) = and_parts (is_ascii_digit c) (list_all is_ascii_digit cs) h in
    absurd (grind (arith, nat_tests))

-- a number is what `parse` reads as it stands
pub number_text : (ds : List ℕ) → is_number ds ≡ true → (without_leading_plus ds ≡ ds) × IsNumeral 10 ds
number_text ds h =
    let (a, b) = and_parts (nat_lt 0 (length ds) && list_all is_ascii_digit ds) _ h in
    let (filled, digits) = and_parts (nat_lt 0 (length ds)) (list_all is_ascii_digit ds) a in
    (without_leading_plus_none ds (no_plus ds digits), (grind (arith, nat_tests), all_digits ds digits))
