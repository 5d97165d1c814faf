-- What a command has whose options and FILE words are served.
use Rattle.std.proofs.Common.{◌≡◌, ℕ, ◌<◌, Bool, true, false, not, List, length, map, Option, None, Some, option_map, is_some, String, Global, string_bytes, refl, sym, ap, ◌∙◌, arith}
use Rattle.std.specs.Prelude.{nat_lt}
use Rattle.std.proofs.lemmas.Bool.{false≢true, ltb-true}
use Rattle.std.proofs.lemmas.List.{length-map}
use Rattle.ifl_conf.specs.declared.command.Command.{Command}
use Rattle.ifl_conf.specs.declared.command.Command.TheVariants as command
use Rattle.ifl_conf.specs.declared.words.CommandName.{CommandName}
use Rattle.ifl_conf.specs.declared.words.CommandName.TheVariants.{Send}
use Rattle.ifl_conf.specs.declared.words.OptionName.TheVariants.{Input, Host}
use Rattle.ifl_conf.specs.Options.{takes_files}
use Rattle.ifl_conf.specs.Front.{Given}
use Rattle.ifl_conf.specs.Grammar.{is_of_grammar, is_given, has_both_or_neither}
use Rattle.ifl_conf.specs.Served.{is_form_served}
use Rattle.ifl_conf.specs.Commands.{Shows, HasFiles, IsServed}
use Rattle.ifl_conf.proofs.Unpacked.{grammar_parts, both_or_neither}

-- a test whose denial holds is false
false_where_not : (b : Bool) → not b ≡ true → b ≡ false
false_where_not false h = refl
false_where_not true h = absurd (false≢true h)

-- a text that was not given is not there
none_where_not_given : (x : Option (String Global)) (v : Option (List ℕ)) → option_map string_bytes x ≡ v → is_some v ≡ false → x ≡ None
none_where_not_given None v e h = refl
none_where_not_given (Some x) v e h = absurd (false≢true (sym h ∙ sym (ap is_some e)))

-- without --in there is no --host
host_with_input : (gs : List Given) → has_both_or_neither gs ≡ true → is_given Input gs ≡ false → is_given Host gs ≡ false
host_with_input gs h i = false_where_not (is_given Host gs) (rw i at h)

-- what is served of send
send_parts_served : (gs : List Given) → is_form_served Send gs ≡ true → is_given Input gs ≡ false
unfolding is_form_served
send_parts_served gs h = false_where_not (is_given Input gs) h

-- a command shows that it is served
pub served_shown : (asked : Command) (c : CommandName) (gs : List Given) (fs : List (List ℕ))
    → is_of_grammar c gs fs ≡ true → is_form_served c gs ≡ true → Shows asked c gs fs → IsServed asked
unfolding is_form_served
served_shown (command.Send s) c gs fs g h shown =
    let no_input = send_parts_served gs (rw shown.0 at h) in
    let no_host = host_with_input gs (both_or_neither c gs fs g) no_input in
    (none_where_not_given s.input _ shown.1.input no_input, none_where_not_given s.host _ shown.1.host no_host)
served_shown (command.Gen g) c gs fs m h shown = absurd (false≢true (rw shown.0 at h))
served_shown (command.Trace file) c gs fs g h shown = tt
served_shown (command.Check k) c gs fs g h shown = absurd (false≢true (rw shown.0 at h))

-- what the grammar has of FILE words is what the command shows
filled : (c : CommandName) (gs : List Given) (fs : List (List ℕ)) (files : List (String Global)) → is_of_grammar c gs fs ≡ true → takes_files c (length fs) ≡ nat_lt 0 (length fs) → map string_bytes files ≡ fs → 0 < length files
filled c gs fs files g takes shown =
    let some : nat_lt 0 (length fs) ≡ true = sym takes ∙ (grammar_parts c gs fs g).2 in
    let same : length fs ≡ length files = ap length (sym shown) ∙ length-map files string_bytes in
    omega (arith, ltb-true 0 (length fs) some, same)

-- a command that reads captures shows one at least
pub files_shown : (asked : Command) (c : CommandName) (gs : List Given) (fs : List (List ℕ)) → is_of_grammar c gs fs ≡ true → Shows asked c gs fs → HasFiles asked
files_shown (command.Send s) c gs fs g shown = filled c gs fs s.files.items g (rw shown.0 refl) shown.1.files
files_shown (command.Gen m) c gs fs g shown = tt
files_shown (command.Trace file) c gs fs g shown = tt
files_shown (command.Check k) c gs fs g shown = filled c gs fs k.files.items g (rw shown.0 refl) shown.1.files
