-- What the words were read as is what they ask for, and the two files that `send` writes have two names.
use Rattle.std.proofs.Common.{◌≡◌, ◌≢◌, ℕ, Bool, true, false, cond, ◌&&◌, ◌||◌, List, [], ◌∷◌, map, Option, Some, None, Result, Ok, Err, refl, sym, ap, ◌∙◌}
use Rattle.std.specs.Prelude.{not, option_map, IfOk}
use Rattle.std.specs.String.{string_bytes}
use Rattle.std.specs.Str.{bytes_eq}
use Rattle.std.specs.List.{list_any}
use Rattle.std.proofs.lemmas.Slice.Eq.{bytes_eq-Decides}
use Rattle.ifl_conf.specs.declared.command.Command.{Command}
use Rattle.ifl_conf.specs.declared.command.Command.TheVariants as command
use Rattle.ifl_conf.specs.declared.command.SendWords.{SendWords}
use Rattle.ifl_conf.specs.declared.word_fault.WordFault.{WordFault}
use Rattle.ifl_conf.specs.declared.word_fault.WordFault.TheVariants as fault
use Rattle.ifl_conf.specs.Options.{writes_files, command_named, option_named}
use Rattle.ifl_conf.specs.Front.{Given, front}
use Rattle.ifl_conf.specs.FileWords.{files_of}
use Rattle.ifl_conf.specs.Grammar.{is_of_grammar}
use Rattle.ifl_conf.specs.Served.{is_form_served}
use Rattle.ifl_conf.specs.Clashes.{names_clash, is_value, is_read, clashes}
use Rattle.ifl_conf.specs.Reading.{Reading, no_command, unknown_command, refused, names, asks, reading_of, command_reading, reading}
use Rattle.ifl_conf.specs.Commands.{ShowsSend, Answers, IsServed}
use Rattle.ifl_engine.specs.declared.stop.WordsWhy.{WordsWhy}
use Rattle.ifl_engine.specs.declared.stop.Stop.{Stop}
use Rattle.ifl_engine.specs.Words.{Named, Asked, send, trace, asked, asked_of, named, first_name, stop_by_words}
use Rattle.ifl_engine.specs.Read.{names_of, GivesWords, IsApart}

-- ---- what was read is what is asked for

abbrev files_named : Option (List ℕ) → List ℕ → List ℕ → List (List ℕ) → Bool → Named
files_named settings wire order files ring = record { settings = settings; wire = wire; order = order; files = files; ring = ring }

named_is : (s : SendWords) (gs : List Given) (fs : List (List ℕ)) → ShowsSend s gs fs → named gs fs ≡ names_of s
unfolding option_named
named_is s gs fs h =
    let same : named gs fs ≡ files_named (option_map string_bytes s.settings) (string_bytes s.wire) (string_bytes s.order) (map string_bytes s.files.items) s.ring = rw (h.settings, h.wire, h.order, h.files, h.ring) refl in
    same

abbrev ask_send : Named → Result Asked WordsWhy
ask_send n = Ok (send n)

abbrev ask_trace : List (List ℕ) → Result Asked WordsWhy
ask_trace fs = Ok (trace (first_name fs))

-- what was read, with the stop for its fault
abbrev pub as_stop : Result Command WordFault → Result Command Stop
as_stop (Ok command) = Ok command
as_stop (Err e) = Err (stop_by_words e)

gives_of : (result : Result Command WordFault) (r : Reading) → Answers result r → IfOk result IsServed → GivesWords (as_stop result) (asked_of r)
gives_of (Ok (command.Send s)) r h served = ap asked_of h.3 ∙ ap (λ (d : _). asked_of (asks d h.1 h.2)) h.4.0 ∙ ap ask_send (named_is s h.1 h.2 h.4.1)
gives_of (Ok (command.Trace file)) r h served = ap asked_of h.3 ∙ ap (λ (d : _). asked_of (asks d h.1 h.2)) h.4.0 ∙ ap ask_trace h.4.1
gives_of (Ok (command.Gen g)) r h served = served
gives_of (Ok (command.Check c)) r h served = served
gives_of (Err fault.NoCommand) r h served = ap asked_of h
gives_of (Err fault.UnknownCommand) r h served = ap asked_of h
gives_of (Err fault.Refused) r h served = ap asked_of h
gives_of (Err fault.Names) r h served = ap asked_of h
gives_of (Err fault.Memory) r h served = tt

pub gives : (words : List (List ℕ)) (result : Result Command WordFault) → Answers result (reading words) → IfOk result IsServed → GivesWords (as_stop result) (asked words)
unfolding asked
gives words result h served = gives_of result (reading words) h served

-- ---- words that ask for something have no names that clash

abbrev clashing : Reading → Bool
clashing no_command = false
clashing unknown_command = false
clashing refused = false
clashing names = false
clashing (asks c gs fs) = writes_files c && names_clash gs fs

by_tests : (unfit clash : Bool) (c : _) (gs : List Given) (fs : List (List ℕ)) → (writes_files c && names_clash gs fs) ≡ clash → clashing (cond unfit refused (cond clash names (asks c gs fs))) ≡ false
by_tests true clash c gs fs is = refl
by_tests false true c gs fs is = refl
by_tests false false c gs fs is = is

by_files : (c : _) (gs : List Given) (files : Option (List (List ℕ))) → clashing (reading_of c gs files) ≡ false
by_files c gs None = refl
by_files c gs (Some fs) = by_tests (not (is_of_grammar c gs fs && is_form_served c gs)) (writes_files c && names_clash gs fs) c gs fs refl

by_command : (ws : List (List ℕ)) (c : Option _) → clashing (command_reading ws c) ≡ false
by_command ws None = refl
by_command ws (Some c) = by_files c (front c ws).0 (files_of (front c ws).1)

clashing-reading : (words : List (List ℕ)) → clashing (reading words) ≡ false
clashing-reading [] = refl
clashing-reading (w ∷ ws) = by_command ws (command_named w)

-- ---- so the two names of `send` are two

neither : (a b : Bool) → (a || b) ≡ false → a ≡ false
neither true b h = absurd cc
neither false b h = refl

differ : (w o : List ℕ) → bytes_eq w o ≡ false → w ≢ o
differ w o h = λ same. let test : bytes_eq w o ≡ true = (bytes_eq-Decides w o).1 same in absurd cc

clash_first : (wire order host : Option (List ℕ)) (gs : List Given) (fs : List (List ℕ)) (later : Bool) (w o : List ℕ) → wire ≡ Some w → order ≡ Some o → (clashes wire (order ∷ host ∷ []) gs fs || later) ≡ false → bytes_eq w o ≡ false
clash_first wire order host gs fs later w o is_w is_o h =
    let tests : ((bytes_eq w o || list_any (is_value w) (host ∷ [])) || is_read w gs fs) || later ≡ false = rw (is_w, is_o) at h in
    neither (bytes_eq w o) (list_any (is_value w) (host ∷ [])) (neither (bytes_eq w o || list_any (is_value w) (host ∷ [])) (is_read w gs fs) (neither _ later tests))

apart_of : (s : SendWords) (words : List (List ℕ)) (c : _) (gs : List Given) (fs : List (List ℕ)) → reading words ≡ asks c gs fs → (writes_files c ≡ true) → ShowsSend s gs fs → string_bytes s.wire ≢ string_bytes s.order
unfolding names_clash
apart_of s words c gs fs is writes h =
    let clash : (writes_files c && names_clash gs fs) ≡ false = ap clashing (sym is) ∙ clashing-reading words in
    let tests : names_clash gs fs ≡ false = rw writes at clash in
    differ (string_bytes s.wire) (string_bytes s.order) (clash_first _ _ _ gs fs _ (string_bytes s.wire) (string_bytes s.order) h.wire h.order tests)

pub apart : (words : List (List ℕ)) (result : Result Command WordFault) → Answers result (reading words) → IfOk result IsApart
apart words (Ok (command.Send s)) h = apart_of s words h.0 h.1 h.2 h.3 (ap writes_files h.4.0) h.4.1
apart words (Ok (command.Trace file)) h = tt
apart words (Ok (command.Gen g)) h = tt
apart words (Ok (command.Check c)) h = tt
apart words (Err e) h = tt
