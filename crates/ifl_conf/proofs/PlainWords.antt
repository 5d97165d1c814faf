-- A FILE word is no option, so the options end before it.
use Rattle.std.proofs.Common.{◌≡◌, ℕ, suc, ◌+◌, take, ◌==◌, true, false, List, [], ◌∷◌, ◌++◌, length, map, nat_lt, None, codes, refl, arith, inl, inr}
use Rattle.std.specs.List.{list_all, flat_map, position_or_len, before_first}
use Rattle.std.proofs.lemmas.Bool.{and_parts, cases_Bool, false≢true}
use Rattle.std.proofs.lemmas.Bool.Decides.{nat_tests}
use Rattle.ifl_conf.specs.declared.words.CommandName.{CommandName}
use Rattle.ifl_conf.specs.Front.{is_plain, is_equals, one_word, two_words, joined, alone, front}
use Rattle.ifl_conf.specs.Options.{option_named}
use Rattle.ifl_conf.specs.Spelling.{Written, Files, plain_files, marked_files, file_words, are_files, option_words, given_by, is_option_of}
use Rattle.ifl_conf.proofs.Fronts.{front_empty, front_last, front_end}
use Rattle.ifl_conf.proofs.SpelledWords.{front_spelled}

-- a word whose name is no option's is no option of one word
no_one : (c : CommandName) (w : List ℕ) → option_named w ≡ None → option_named (before_first is_equals w) ≡ None → one_word c w ≡ None
unfolding one_word joined alone
no_one c w a b =
    elim (cases_Bool (nat_lt (position_or_len is_equals w) (length w))) [
      | inl cut ↦ rw (cut, b)
      | inr whole ↦ rw (whole, a)
    ]

-- nor of two words
no_two : (c : CommandName) (w v : List ℕ) → option_named w ≡ None → two_words c w v ≡ None
unfolding two_words
no_two c w v a = rw a

-- a word that does not begin with a dash names no option
unnamed : (b : ℕ) (bs : List ℕ) → (b == 45) ≡ false → option_named (b ∷ bs) ≡ None
unfolding option_named
unnamed b bs h = rw h

-- nor does a word of one byte
unnamed_one : (b : ℕ) → option_named (b ∷ []) ≡ None
unfolding option_named
unnamed_one b =
    elim (cases_Bool (b == 45)) [
      | inl dash ↦ rw dash
      | inr other ↦ rw other
    ]

-- nor does the empty word
unnamed_none : option_named [] ≡ None
unfolding option_named
unnamed_none = refl

-- one more byte is taken
take_past : (n : ℕ) (b : ℕ) (bs : List ℕ) → take (1 + n) (b ∷ bs) ≡ b ∷ take n bs
take_past n b bs = let next : 1 + n ≡ suc n = omega arith in rw next

-- nor does what stands before the equals sign
unnamed_before : (b : ℕ) (bs : List ℕ) → (b == 45) ≡ false → option_named (before_first is_equals (b ∷ bs)) ≡ None
unnamed_before b bs h =
    elim (cases_Bool (is_equals b)) [
      | inl mark ↦ rw mark unnamed_none
      | inr other ↦ rw (other, take_past (position_or_len is_equals bs) b bs) (unnamed b (before_first is_equals bs) h)
    ]

-- the same of a word of one byte
unnamed_before_one : (b : ℕ) → option_named (before_first is_equals (b ∷ [])) ≡ None
unnamed_before_one b =
    elim (cases_Bool (is_equals b)) [
      | inl mark ↦ rw mark unnamed_none
      | inr other ↦ rw other (unnamed_one b)
    ]

-- a longer plain word does not begin with a dash
not_dash : (b d : ℕ) (bs : List ℕ) → is_plain (b ∷ d ∷ bs) ≡ true → (b == 45) ≡ false
unfolding is_plain
not_dash b d bs h = grind (arith, nat_tests)

-- a plain word is no option
pub plain_is_no_option : (c : CommandName) (w : List ℕ) → is_plain w ≡ true → (one_word c w ≡ None) × ((v : List ℕ) → two_words c w v ≡ None)
unfolding is_plain
plain_is_no_option c [] h = absurd (false≢true h)
plain_is_no_option c (b ∷ []) h = (no_one c (b ∷ []) (unnamed_one b) (unnamed_before_one b), λ v. no_two c (b ∷ []) v (unnamed_one b))
plain_is_no_option c (b ∷ d ∷ bs) h =
    let other = not_dash b d bs h in
    (no_one c (b ∷ d ∷ bs) (unnamed b (d ∷ bs) other) (unnamed_before b (d ∷ bs) other), λ v. no_two c (b ∷ d ∷ bs) v (unnamed b (d ∷ bs) other))

-- the mark names no option
unnamed_mark : option_named (codes "--") ≡ None
unfolding option_named
unnamed_mark = refl

-- the options end before a word that is none
stops_at : (c : CommandName) (w : List ℕ) (ws : List (List ℕ)) → one_word c w ≡ None → ((v : List ℕ) → two_words c w v ≡ None) → front c (w ∷ ws) ≡ ([], w ∷ ws)
stops_at c w [] one two = front_last c w one
stops_at c w (v ∷ ws) one two = front_end c w v ws one (two v)

-- the options end before FILE words
pub stops_at_files : (c : CommandName) (fs : Files) → are_files fs ≡ true → front c (file_words fs) ≡ ([], file_words fs)
stops_at_files c (plain_files []) h = front_empty c
stops_at_files c (plain_files (w ∷ ws)) h =
    let (here, more) = and_parts (is_plain w) (list_all is_plain ws) h in
    let (one, two) = plain_is_no_option c w here in
    stops_at c w ws one two
stops_at_files c (marked_files ws) h = stops_at c (codes "--") ws (no_one c (codes "--") unnamed_mark unnamed_mark) (λ v. no_two c (codes "--") v unnamed_mark)

-- what is spelled is read
pub front_reads : (c : CommandName) (os : List Written) (fs : Files) → list_all (is_option_of c) os ≡ true → are_files fs ≡ true
    → front c (flat_map option_words os ++ file_words fs) ≡ (map given_by os, file_words fs)
front_reads c os fs h k = front_spelled c os (file_words fs) h (stops_at_files c fs k)
