-- What is spelled is read.
use Rattle.std.proofs.Common.{◌≡◌, ℕ, ◌<◌, ◌&&◌, Bool, true, false, not, List, [], ◌∷◌, ◌++◌, length, get_or, map, nat_lt, Option, None, Some, codes, refl, ap, sym, ◌∙◌, append_assoc, arith, inl, inr}
use Rattle.std.specs.List.{list_all, flat_map, find, position_or_len, before_first, after_first}
use Rattle.std.specs.Prelude.{◌⊎◌, if◌then◌else◌}
use Rattle.std.proofs.Common.{subst}
use Rattle.std.proofs.lemmas.Option.{none-some, same_Some, cond_some, option_and_then_some}
use Rattle.std.proofs.lemmas.Slice.Eq.{bytes_eq-Decides}
use Rattle.std.proofs.lemmas.List.Sums.{split_at_first, passes_at_first}
use Rattle.std.specs.Str.{bytes_eq}
use Rattle.std.proofs.lemmas.Bool.{and_parts, cases_Bool, false≢true}
use Rattle.std.proofs.lemmas.Bool.Decides.{nat_tests, Decides-eqb}
use Rattle.ifl_conf.specs.declared.words.CommandName.{CommandName}
use Rattle.ifl_conf.specs.declared.words.OptionName.{OptionName}
use Rattle.ifl_conf.specs.declared.words.OptionName.TheVariants.{Wire, Order, SettingsFile, Input, Host, Ring, Seed, Senders, Frames}
use Rattle.ifl_conf.specs.Front.{Given, is_plain, is_equals, one_word, two_words, joined, alone, front, with_option}
use Rattle.ifl_conf.specs.Options.{option_text, option_named, options, has_value, takes}
use Rattle.ifl_conf.specs.FileWords.{is_filled}
use Rattle.ifl_conf.specs.Spelling.{Written, joined_by_equals, before_its_value, by_itself, option_words, given_by, is_option_of, IsSpelled}
use Rattle.ifl_conf.proofs.Fronts.{front_one, front_two, front_empty, front_last, front_end}

-- each option's text names it
pub named_by_text : (o : OptionName) → option_named (option_text o) ≡ Some o
unfolding option_named
named_by_text Wire = refl
named_by_text Order = refl
named_by_text SettingsFile = refl
named_by_text Input = refl
named_by_text Host = refl
named_by_text Ring = refl
named_by_text Seed = refl
named_by_text Senders = refl
named_by_text Frames = refl

-- it has no `=`
pub text_whole : (o : OptionName) → nat_lt (position_or_len is_equals (option_text o)) (length (option_text o)) ≡ false
text_whole Wire = refl
text_whole Order = refl
text_whole SettingsFile = refl
text_whole Input = refl
text_whole Host = refl
text_whole Ring = refl
text_whole Seed = refl
text_whole Senders = refl
text_whole Frames = refl

-- before the equals sign stands the option's text
pub text_before : (o : OptionName) (v : List ℕ) → before_first is_equals (option_text o ++ codes "=" ++ v) ≡ option_text o
text_before Wire v = refl
text_before Order v = refl
text_before SettingsFile v = refl
text_before Input v = refl
text_before Host v = refl
text_before Ring v = refl
text_before Seed v = refl
text_before Senders v = refl
text_before Frames v = refl

-- behind it stands the value
pub text_after : (o : OptionName) (v : List ℕ) → after_first is_equals (option_text o ++ codes "=" ++ v) ≡ v
text_after Wire v = refl
text_after Order v = refl
text_after SettingsFile v = refl
text_after Input v = refl
text_after Host v = refl
text_after Ring v = refl
text_after Seed v = refl
text_after Senders v = refl
text_after Frames v = refl

-- there is an equals sign
pub text_split : (o : OptionName) (v : List ℕ) → nat_lt (position_or_len is_equals (option_text o ++ codes "=" ++ v)) (length (option_text o ++ codes "=" ++ v)) ≡ true
text_split Wire v = grind (arith, nat_tests)
text_split Order v = grind (arith, nat_tests)
text_split SettingsFile v = grind (arith, nat_tests)
text_split Input v = grind (arith, nat_tests)
text_split Host v = grind (arith, nat_tests)
text_split Ring v = grind (arith, nat_tests)
text_split Seed v = grind (arith, nat_tests)
text_split Senders v = grind (arith, nat_tests)
text_split Frames v = grind (arith, nat_tests)

-- an option with its value in one word is read
pub one_joined : (c : CommandName) (o : OptionName) (v : List ℕ) → is_option_of c (joined_by_equals o v) ≡ true → one_word c (option_text o ++ codes "=" ++ v) ≡ Some (o, v)
unfolding one_word joined
one_joined c o v h = rw (text_split o v, text_before o v, text_after o v, named_by_text o, h)

-- an option without a value is read
pub one_alone : (c : CommandName) (o : OptionName) → is_option_of c (by_itself o) ≡ true → one_word c (option_text o) ≡ Some (o, [])
unfolding one_word alone
one_alone c o h = rw (text_whole o, named_by_text o, h)

-- an option with a value is none without
apart_parts : (a b d : Bool) → a && (b && d) ≡ true → (a && not b) ≡ false
apart_parts true true d h = refl
apart_parts true false d h = absurd (false≢true h)
apart_parts false b d h = refl

-- the name alone is no option of one word
pub none_alone : (c : CommandName) (o : OptionName) (v : List ℕ) → is_option_of c (before_its_value o v) ≡ true → one_word c (option_text o) ≡ None
unfolding one_word alone
none_alone c o v h = rw (text_whole o, named_by_text o, apart_parts (takes c o) (has_value o) (is_plain v) h)

-- an option before its value is read
pub two_apart : (c : CommandName) (o : OptionName) (v : List ℕ) → is_option_of c (before_its_value o v) ≡ true → two_words c (option_text o) v ≡ Some (o, v)
unfolding two_words
two_apart c o v h = rw (named_by_text o, h)

-- options that a command has are read, whatever stands behind them
pub front_spelled : (c : CommandName) (os : List Written) (rest : List (List ℕ)) → list_all (is_option_of c) os ≡ true → front c rest ≡ ([], rest)
    → front c (flat_map option_words os ++ rest) ≡ (map given_by os, rest)
front_spelled c [] rest h stops = stops
front_spelled c (joined_by_equals o v ∷ os) rest h stops =
    let (here, more) = and_parts (is_option_of c (joined_by_equals o v)) (list_all (is_option_of c) os) h in
    front_one c _ _ (o, v) (one_joined c o v here) ∙ ap (with_option (o, v)) (front_spelled c os rest more stops)
front_spelled c (before_its_value o v ∷ os) rest h stops =
    let (here, more) = and_parts (is_option_of c (before_its_value o v)) (list_all (is_option_of c) os) h in
    front_two c _ v _ (o, v) (none_alone c o v here) (two_apart c o v here) ∙ ap (with_option (o, v)) (front_spelled c os rest more stops)
front_spelled c (by_itself o ∷ os) rest h stops =
    let (here, more) = and_parts (is_option_of c (by_itself o)) (list_all (is_option_of c) os) h in
    front_one c _ _ (o, []) (one_alone c o here) ∙ ap (with_option (o, [])) (front_spelled c os rest more stops)

-- ---- what is read is spelled so

-- what is found passes
find_passes : {X : Type 0} (p : X → Bool) (xs : List X) (x : X) → find p xs ≡ Some x → p x ≡ true
find_passes p [] x h = absurd (none-some x h)
find_passes p (y ∷ ys) x h =
    elim (cases_Bool (p y)) [
      | inl hit ↦ subst (λ z. p z ≡ true) (same_Some y x (rw hit at h)) hit
      | inr miss ↦ find_passes p ys x (rw miss at h)
    ]

-- the text of the option that a word names
pub text_of_named : (w : List ℕ) (o : OptionName) → option_named w ≡ Some o → w ≡ option_text o
unfolding option_named
text_of_named w o h = (bytes_eq-Decides w (option_text o)).0 (find_passes (λ p. bytes_eq w (option_text p)) options o h)

-- an option in this form stands for what was read
abbrev pub IsWrittenBy : CommandName → List (List ℕ) → Given → Type 0
IsWrittenBy c ws g = (x : Written) × (option_words x ≡ ws) × (given_by x ≡ g) × (is_option_of c x ≡ true)

-- an option read from one word with a value
joined_written : (c : CommandName) (name value : List ℕ) (g : Given) → joined c name value ≡ Some g → IsWrittenBy c ((name ++ codes "=" ++ value) ∷ []) g
unfolding joined
joined_written c name value g h =
    option_and_then_some (λ o. if takes c o && (has_value o && is_filled value) then Some (o, value) else None) (option_named name) g h
    (λ o named chosen. let (fits, same) = cond_some (takes c o && (has_value o && is_filled value)) (o, value) g chosen in
    (joined_by_equals o value, ap (λ t. (t ++ codes "=" ++ value) ∷ []) (sym (text_of_named name o named)), same, fits))

-- an option read from a word without a value
alone_written : (c : CommandName) (w : List ℕ) (g : Given) → alone c w ≡ Some g → IsWrittenBy c (w ∷ []) g
unfolding alone
alone_written c w g h =
    option_and_then_some (λ o. if takes c o && not (has_value o) then Some (o, []) else None) (option_named w) g h
    (λ o named chosen. let (fits, same) = cond_some (takes c o && not (has_value o)) (o, []) g chosen in
    (by_itself o, ap (λ t. t ∷ []) (sym (text_of_named w o named)), same, fits))

-- an option read from two words
two_written : (c : CommandName) (w v : List ℕ) (g : Given) → two_words c w v ≡ Some g → IsWrittenBy c (w ∷ v ∷ []) g
unfolding two_words
two_written c w v g h =
    option_and_then_some (λ o. if takes c o && (has_value o && is_plain v) then Some (o, v) else None) (option_named w) g h
    (λ o named chosen. let (fits, same) = cond_some (takes c o && (has_value o && is_plain v)) (o, v) g chosen in
    (before_its_value o v, ap (λ t. t ∷ v ∷ []) (sym (text_of_named w o named)), same, fits))

-- a word is its parts round the equals sign
cut_at_equals : (w : List ℕ) → nat_lt (position_or_len is_equals w) (length w) ≡ true → before_first is_equals w ++ codes "=" ++ after_first is_equals w ≡ w
cut_at_equals w h =
    let within : position_or_len is_equals w < length w = grind (arith, nat_tests) in
    let mark : get_or w (position_or_len is_equals w) 0 ≡ 61 = (Decides-eqb (get_or w (position_or_len is_equals w) 0) 61).0 (passes_at_first is_equals w 0 within) in
    append_assoc (before_first is_equals w) (codes "=") (after_first is_equals w)
    ∙ (ap (λ (b : ℕ). before_first is_equals w ++ (b ∷ after_first is_equals w)) (sym mark) ∙ sym (split_at_first is_equals w 0 within))

-- an option read from one word
one_written : (c : CommandName) (w : List ℕ) (g : Given) → one_word c w ≡ Some g → IsWrittenBy c (w ∷ []) g
unfolding one_word
one_written c w g h =
    elim (cases_Bool (nat_lt (position_or_len is_equals w) (length w))) [
      | inl cut ↦ subst (λ t. IsWrittenBy c (t ∷ []) g) (cut_at_equals w cut) (joined_written c (before_first is_equals w) (after_first is_equals w) g (rw cut at h))
      | inr whole ↦ alone_written c w g (rw whole at h)
    ]

-- one more option is spelled
more_spelled : (c : CommandName) (front_words ws : List (List ℕ)) (g : Given) (read : List Given × List (List ℕ)) → IsWrittenBy c front_words g → IsSpelled c ws read → IsSpelled c (front_words ++ ws) (with_option g read)
more_spelled c front_words ws g read w s = record {
  options = w.0 ∷ s.options;
  words = append_assoc (option_words w.0) (flat_map option_words s.options) read.1 ∙ (ap (λ t. t ++ (flat_map option_words s.options ++ read.1)) w.1 ∙ ap (λ t. front_words ++ t) s.words);
  given = ap (λ t. t ∷ map given_by s.options) w.2 ∙ ap (λ t. g ∷ t) s.given;
  fits = rw (w.3, s.fits);
}

-- no option is spelled
none_spelled : (c : CommandName) (ws : List (List ℕ)) → IsSpelled c ws ([], ws)
none_spelled c ws = record { options = []; words = refl; given = refl; fits = refl }

-- something is there or not
cases_Option : {X : Type 0} (o : Option X) → ((x : X) × (o ≡ Some x)) ⊎ (o ≡ None)
cases_Option None = inr refl
cases_Option (Some x) = inl (x, refl)

-- what is read is spelled so
pub front_is_spelled : (c : CommandName) (ws : List (List ℕ)) → IsSpelled c ws (front c ws)
front_is_spelled c [] = rw (front_empty c) (none_spelled c [])
front_is_spelled c (w ∷ []) =
    elim (cases_Option (one_word c w)) [
      | inl one ↦ rw (front_one c w [] one.0 one.1) (more_spelled c (w ∷ []) [] one.0 (front c []) (one_written c w one.0 one.1) (front_is_spelled c []))
      | inr none ↦ rw (front_last c w none) (none_spelled c (w ∷ []))
    ]
front_is_spelled c (w ∷ v ∷ ws) =
    elim (cases_Option (one_word c w)) [
      | inl one ↦ rw (front_one c w (v ∷ ws) one.0 one.1) (more_spelled c (w ∷ []) (v ∷ ws) one.0 (front c (v ∷ ws)) (one_written c w one.0 one.1) (front_is_spelled c (v ∷ ws)))
      | inr none ↦ elim (cases_Option (two_words c w v)) [
        | inl two ↦ rw (front_two c w v ws two.0 none two.1) (more_spelled c (w ∷ v ∷ []) ws two.0 (front c ws) (two_written c w v two.0 two.1) (front_is_spelled c ws))
        | inr neither ↦ rw (front_end c w v ws none neither) (none_spelled c (w ∷ v ∷ ws))
      ]
    ]
