-- What stands in options and FILE words that are of the grammar.
use Rattle.std.proofs.Common.{◌≡◌, ℕ, ◌-◌, ◌^◌, true, List, length, arith}
use Rattle.std.proofs.lemmas.Bool.{and_parts}
use Rattle.std.proofs.lemmas.Bool.Decides.{nat_tests}
use Rattle.ifl_conf.specs.declared.words.CommandName.{CommandName}
use Rattle.ifl_conf.specs.declared.words.CommandName.TheVariants.{Send, Gen, Trace, Check}
use Rattle.ifl_conf.specs.declared.words.OptionName.TheVariants.{Wire, Order, Seed, Senders, Frames}
use Rattle.ifl_conf.specs.Front.{Given}
use Rattle.ifl_conf.specs.Grammar.{is_of_grammar, is_given, value_of, has_required, has_both_or_neither, has_numbers, are_distinct, is_number_within}
use Rattle.ifl_conf.specs.Options.{takes_files}

-- what the grammar asks of each command
pub grammar_parts : (c : CommandName) (gs : List Given) (fs : List (List ℕ)) → is_of_grammar c gs fs ≡ true
    → (has_required c gs ≡ true) × (has_numbers gs ≡ true) × (takes_files c (length fs) ≡ true)
unfolding is_of_grammar
grammar_parts c gs fs h =
    let (a, rest) = and_parts (are_distinct gs) _ h in
    let (required, more) = and_parts (has_required c gs) _ rest in
    let (b, last) = and_parts (has_both_or_neither gs) _ more in
    let (numbers, files) = and_parts (has_numbers gs) (takes_files c (length fs)) last in
    (required, numbers, files)

-- what it asks of send
pub send_parts : (gs : List Given) (fs : List (List ℕ)) → is_of_grammar Send gs fs ≡ true → (is_given Wire gs ≡ true) × (is_given Order gs ≡ true)
send_parts gs fs h = grind (arith, grammar_parts Send gs fs h)

-- what it asks of check
pub check_parts : (gs : List Given) (fs : List (List ℕ)) → is_of_grammar Check gs fs ≡ true → (is_given Wire gs ≡ true) × (is_given Order gs ≡ true)
check_parts gs fs h = grind (arith, grammar_parts Check gs fs h)

-- what it asks of gen
pub gen_parts : (gs : List Given) (fs : List (List ℕ)) → is_of_grammar Gen gs fs ≡ true
    → (is_given Wire gs ≡ true) × (is_given Order gs ≡ true) × (is_given Seed gs ≡ true) × (is_given Senders gs ≡ true) × (is_given Frames gs ≡ true)
gen_parts gs fs h = grind (arith, grammar_parts Gen gs fs h)

-- trace has one FILE word
pub trace_files : (gs : List Given) (fs : List (List ℕ)) → is_of_grammar Trace gs fs ≡ true → length fs ≡ 1
trace_files gs fs h = grind (arith, nat_tests, grammar_parts Trace gs fs h)

-- the numbers that are cast are small
pub number_parts : (gs : List Given) → has_numbers gs ≡ true
    → (is_number_within 1 16 (value_of Senders gs) ≡ true) × (is_number_within 0 1000000 (value_of Frames gs) ≡ true)
number_parts gs h =
    let (seed, more) = and_parts (is_number_within 0 (2 ^ 64 - 1) (value_of Seed gs)) _ h in
    and_parts (is_number_within 1 16 (value_of Senders gs)) (is_number_within 0 1000000 (value_of Frames gs)) more

-- --in and --host stand together
pub both_or_neither : (c : CommandName) (gs : List Given) (fs : List (List ℕ)) → is_of_grammar c gs fs ≡ true → has_both_or_neither gs ≡ true
unfolding is_of_grammar
both_or_neither c gs fs h =
    let (a, rest) = and_parts (are_distinct gs) _ h in
    let (required, more) = and_parts (has_required c gs) _ rest in
    (and_parts (has_both_or_neither gs) _ more).0
