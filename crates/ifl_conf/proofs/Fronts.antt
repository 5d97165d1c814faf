-- The options at the front, step by step.
use Rattle.std.proofs.Common.{◌≡◌, ℕ, List, [], ◌∷◌, ◌++◌, length, get_or, drop, take, ◌+◌, ◌-◌, ◌<◌, ◌≤◌, arith, String, Global, string_bytes, sym, None, Some, refl, ap, ◌∙◌, append_assoc, append-nil, map}
use Rattle.std.proofs.lemmas.List.{drop_more}
use Rattle.std.proofs.lemmas.Grind.{common_steps}
use Rattle.ifl_conf.specs.declared.words.CommandName.{CommandName}
use Rattle.ifl_conf.specs.Front.{Given, front, one_word, two_words, with_option}

-- what was read, behind the options read before
abbrev pub behind : List Given → List Given × List (List ℕ) → List Given × List (List ℕ)
behind gs r = (gs ++ r.0, r.1)

-- one more option before what is read
pub behind-more : (gs : List Given) (g : Given) (r : List Given × List (List ℕ)) → behind (gs ++ g ∷ []) r ≡ behind gs (with_option g r)
behind-more gs g r = rw append_assoc

-- an option of one word
pub front_one : (c : CommandName) (w : List ℕ) (ws : List (List ℕ)) (g : Given) → one_word c w ≡ Some g → front c (w ∷ ws) ≡ with_option g (front c ws)
unfolding front
front_one c w [] g h = rw h
front_one c w (v ∷ ws) g h = rw h

-- an option of two words
pub front_two : (c : CommandName) (w v : List ℕ) (ws : List (List ℕ)) (g : Given) → one_word c w ≡ None → two_words c w v ≡ Some g → front c (w ∷ v ∷ ws) ≡ with_option g (front c ws)
unfolding front
front_two c w v ws g h k = rw (h, k)

-- no words
pub front_empty : (c : CommandName) → front c [] ≡ ([], [])
unfolding front
front_empty c = refl

-- a last word that is no option
pub front_last : (c : CommandName) (w : List ℕ) → one_word c w ≡ None → front c (w ∷ []) ≡ ([], w ∷ [])
unfolding front
front_last c w h = rw h

-- two words that are no option
pub front_end : (c : CommandName) (w v : List ℕ) (ws : List (List ℕ)) → one_word c w ≡ None → two_words c w v ≡ None → front c (w ∷ v ∷ ws) ≡ ([], w ∷ v ∷ ws)
unfolding front
front_end c w v ws h k = rw (h, k)

-- the texts of the words from one on
abbrev pub texts_from : ℕ → List (String Global) → List (List ℕ)
texts_from i ws = map string_bytes (drop i ws)

-- the first of the texts that are left
pub texts_from-next : (ws : List (String Global)) (i : ℕ) (w : String Global) → i < length ws → w ≡ get_or ws i w → texts_from i ws ≡ string_bytes w ∷ texts_from (i + 1) ws
texts_from-next ws i w h e = ap (map string_bytes) (drop_more ws i w h) ∙ ap (λ x. string_bytes x ∷ texts_from (i + 1) ws) (sym e)

-- nothing is left behind the end
drop_past : {X : Type 0} (xs : List X) (i : ℕ) → length xs ≤ i → drop i xs ≡ []
drop_past xs i h = grind (arith, common_steps)

-- one turn of the reading
pub read_one : (c : CommandName) (ws : List (String Global)) (i : ℕ) (w : String Global) (g : Given) (old new : List Given) (all : List Given × List (List ℕ))
    → i < length ws → w ≡ get_or ws i w → one_word c (string_bytes w) ≡ Some g → new ≡ old ++ g ∷ []
    → behind old (front c (texts_from i ws)) ≡ all → behind new (front c (texts_from (i + 1) ws)) ≡ all
read_one c ws i w g old new all h e one pushed read =
    rw (pushed, behind-more)
    (ap (behind old) (sym (ap (front c) (texts_from-next ws i w h e) ∙ front_one c (string_bytes w) (texts_from (i + 1) ws) g one)) ∙ read)

-- a turn that reads two words
pub read_two : (c : CommandName) (ws : List (String Global)) (i : ℕ) (w v : String Global) (g : Given) (old new : List Given) (all : List Given × List (List ℕ))
    → i + 1 < length ws → w ≡ get_or ws i w → v ≡ get_or ws (i + 1) v → one_word c (string_bytes w) ≡ None → two_words c (string_bytes w) (string_bytes v) ≡ Some g
    → new ≡ old ++ g ∷ [] → behind old (front c (texts_from i ws)) ≡ all → behind new (front c (texts_from (i + 2) ws)) ≡ all
read_two c ws i w v g old new all h e f one two pushed read =
    let ahead = texts_from-next ws i w (omega (arith, h)) e ∙ ap (λ t. string_bytes w ∷ t) (texts_from-next ws (i + 1) v h f) in
    let same : i + 1 + 1 ≡ i + 2 = omega arith in
    let found = rw same at (front_two c (string_bytes w) (string_bytes v) (texts_from (i + 1 + 1) ws) g one two) in
    let there = rw same at ahead in
    rw (pushed, behind-more) (ap (behind old) (sym (ap (front c) there ∙ found)) ∙ read)

-- where it stops
pub stops_past : (c : CommandName) (ws : List (String Global)) (i : ℕ) → length ws ≤ i → front c (texts_from i ws) ≡ ([], texts_from i ws)
stops_past c ws i h = rw (drop_past ws i h) (front_empty c)

-- it stops at a last word that is no option
pub stops_last : (c : CommandName) (ws : List (String Global)) (i : ℕ) (w : String Global) → i + 1 ≡ length ws → w ≡ get_or ws i w → one_word c (string_bytes w) ≡ None
    → front c (texts_from i ws) ≡ ([], texts_from i ws)
stops_last c ws i w h e one =
    let ahead = texts_from-next ws i w (omega (arith, h)) e ∙ ap (λ t. string_bytes w ∷ map string_bytes t) (drop_past ws (i + 1) (omega (arith, h))) in
    rw ahead (front_last c (string_bytes w) one)

-- it stops at two words that are no option
pub stops_before : (c : CommandName) (ws : List (String Global)) (i : ℕ) (w v : String Global) → i + 1 < length ws → w ≡ get_or ws i w → v ≡ get_or ws (i + 1) v
    → one_word c (string_bytes w) ≡ None → two_words c (string_bytes w) (string_bytes v) ≡ None → front c (texts_from i ws) ≡ ([], texts_from i ws)
stops_before c ws i w v h e f one two =
    let ahead = texts_from-next ws i w (omega (arith, h)) e ∙ ap (λ t. string_bytes w ∷ t) (texts_from-next ws (i + 1) v h f) in
    rw ahead (front_end c (string_bytes w) (string_bytes v) (texts_from (i + 1 + 1) ws) one two)

-- what was read when it stops
pub read_all : (c : CommandName) (ws : List (String Global)) (i : ℕ) (old : List Given) (all : List Given × List (List ℕ)) → i ≤ length ws → front c (texts_from i ws) ≡ ([], texts_from i ws)
    → behind old (front c (texts_from i ws)) ≡ all → (old, map string_bytes (take (length ws - i) (drop i ws))) ≡ all
read_all c ws i old all h stops read =
    let whole : take (length ws - i) (drop i ws) ≡ drop i ws = grind (arith, common_steps) in
    let nil = append-nil old in
    rw whole (ap (λ os. (os, texts_from i ws)) (sym nil) ∙ (ap (behind old) (sym stops) ∙ read))
