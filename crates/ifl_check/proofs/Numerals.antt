-- A number in decimal, without a sign and without leading zeros.
use Rattle.std.proofs.Common.{◌≡◌, ◌≢◌, ℕ, ◌^◌, ◌<◌, ◌&&◌, ◌||◌, not, true, false, List, [], ◌∷◌, length, get_or, nat_lt, nat_eq, arith, refl, sym, ap, ◌∙◌, subst}
use Rattle.std.specs.Prelude.{decimal, Ok, Err}
use Rattle.std.specs.List.{list_all}
use Rattle.std.specs.Char.{is_ascii_digit, digit_value}
use Rattle.std.specs.Str.{IsUtf8}
use Rattle.std.specs.Str.Parse.{AllDigits, IsNumeral, digits_value, without_leading_plus, ParsesUnsigned}
use Rattle.std.proofs.lemmas.Bool.{and_parts, lt-ltb}
use Rattle.std.proofs.lemmas.Bool.Decides.{nat_tests}
use Rattle.std.proofs.lemmas.Fmt.{decimal_is_IsNumeral, decimal_digit, first_decimal, decimal-digits_value, parse-decimal, IsAscii-from_digits}
use Rattle.std.proofs.lemmas.Str.{IsUtf8-from_ascii}
use Rattle.std.proofs.lemmas.Str.Parse.{IsNumeralModel, numerals_by_value, tells_digits, without_leading_plus_none, digit_from_value}
use mathlib.Core.Logic.{dite}
use native.Mathlib.Decide.{ℕ_discrete}
use Rattle.ifl_check.specs.Parts.{is_number}

own : IsNumeralModel (AllDigits 10) (digits_value 10)
own = numerals_by_value (AllDigits 10) tells_digits

digit_below : (c : ℕ) → is_ascii_digit c ≡ true → digit_value c < 10
digit_below c h = grind (arith, nat_tests)

all_digits : (ds : List ℕ) → list_all is_ascii_digit ds ≡ true → AllDigits 10 ds
all_digits [] h = tt
all_digits (c ∷ cs) h =
    let (a, b) = and_parts (is_ascii_digit c) (list_all is_ascii_digit cs) h in
    (digit_below c a, all_digits cs b)

digits_all : (ds : List ℕ) → AllDigits 10 ds → list_all is_ascii_digit ds ≡ true
digits_all [] h = refl
digits_all (c ∷ cs) h = let r = digit_from_value c h.0 in let rest = digits_all cs h.1 in let here : is_ascii_digit c ≡ true = grind (arith, nat_tests) in rw (here, rest) refl

no_plus : (ds : List ℕ) → list_all is_ascii_digit ds ≡ true → get_or ds 0 0 ≢ 43
no_plus [] h e = absurd (omega arith)
no_plus (c ∷ cs) h e =
    let (a, b) = and_parts (is_ascii_digit c) (list_all is_ascii_digit cs) h in
    absurd (grind (arith, nat_tests))

-- what the test says
record Number (ds : List ℕ) : Type 0 where
  filled : 0 < length ds
  digits : AllDigits 10 ds
  plain : get_or ds 0 0 ≡ 48 → length ds ≡ 1
  no_plus : without_leading_plus ds ≡ ds

number_text : (ds : List ℕ) → is_number ds ≡ true → Number ds
number_text ds h =
    let (a, b) = and_parts (nat_lt 0 (length ds) && list_all is_ascii_digit ds) _ h in
    let (filled, digits) = and_parts (nat_lt 0 (length ds)) (list_all is_ascii_digit ds) a in record {
      filled = grind (arith, nat_tests);
      digits = all_digits ds digits;
      plain = (λ e. grind (arith, nat_tests));
      no_plus = without_leading_plus_none ds (no_plus ds digits);
    }

is_number-decimal : (n : ℕ) → n < 2 ^ 64 → is_number (decimal n) ≡ true
is_number-decimal n h = let t = decimal_is_IsNumeral n h in let filled : nat_lt 0 (length (decimal n)) ≡ true = lt-ltb 0 (length (decimal n)) t.0.0 in
    let digits = digits_all (decimal n) t.0.1 in
    let plain : (nat_eq (length (decimal n)) 1 || not (nat_eq (get_or (decimal n) 0 0) 48)) ≡ true = dite (ℕ_discrete n 0)
    (λ z. subst (λ (m : ℕ). (nat_eq (length (decimal m)) 1 || not (nat_eq (get_or (decimal m) 0 0) 48)) ≡ true) (sym z) (rw (decimal_digit 0 (omega arith)) refl))
    (λ nz. let f = first_decimal n (omega arith) h in grind (arith, nat_tests)) in
    rw (filled, digits, plain) refl

-- a word that is no such text
pub no_number : (ds : List ℕ) (n : ℕ) → is_number ds ≡ false → n < 2 ^ 64 → ds ≢ decimal n
no_number ds n f h e = let t : is_number ds ≡ true = ap is_number e ∙ is_number-decimal n (omega arith) in let g : true ≡ false = sym t ∙ f in absurd cc

-- a text of digits is in UTF-8
pub number_utf8 : (ds : List ℕ) → is_number ds ≡ true → IsUtf8 ds
number_utf8 ds h = IsUtf8-from_ascii ds (IsAscii-from_digits ds (number_text ds h).digits)

-- what `parse` gives of it
pub parsed : (ds : List ℕ) (n : ℕ) → is_number ds ≡ true → (IsNumeral 10 (without_leading_plus ds) × (digits_value 10 (without_leading_plus ds) < 2 ^ 64)) × (n ≡ digits_value 10 (without_leading_plus ds)) → ds ≡ decimal n
parsed ds n h p = let t = number_text ds h in let v : n ≡ digits_value 10 ds = p.1 ∙ ap (digits_value 10) t.no_plus in
    let small : digits_value 10 ds < 2 ^ 64 = subst (λ (z : List ℕ). digits_value 10 z < 2 ^ 64) t.no_plus p.0.1 in
    sym (ap decimal v ∙ decimal-digits_value own ds t.digits t.filled t.plain (omega arith))

pub not_parsed : {E : Type 0} (ds : List ℕ) (e : E) (n : ℕ) → ParsesUnsigned 64 10 ds (Err e) → n < 2 ^ 64 → ds ≢ decimal n
not_parsed {E} ds e n p h is = let f : Err e ≡ Ok n = parse-decimal 64 n ds (Err e) h (omega arith) is p in absurd cc
