-- The FILE words of a list of words.
use Rattle.std.proofs.Common.{◌≡◌, ◌<◌, Bool, true, false, cond, List, [], ◌∷◌, length, get_or, drop, map, None, Some, String, Global, string_bytes, codes, refl, ap, sym, arith}
use Rattle.std.specs.List.{list_all, list_any}
use Rattle.std.specs.Str.{bytes_eq}
use Rattle.ifl_conf.specs.FileWords.{files_of, is_filled}
use Rattle.ifl_conf.specs.Front.{is_plain}

-- a test of all texts is one of all words
pub all_of_map : {X Y : Type 0} (p : Y → Bool) (f : X → Y) (xs : List X) → list_all p (map f xs) ≡ list_all (λ x. p (f x)) xs
all_of_map p f [] = refl
all_of_map p f (x ∷ xs) = rw (all_of_map p f xs)

-- the FILE words behind a mark
pub files_marked : (xs : List (String Global)) (w : String Global) → 0 < length xs → w ≡ get_or xs 0 w → bytes_eq (string_bytes w) (codes "--") ≡ true
    → files_of (map string_bytes xs) ≡ cond (list_all (λ f. is_filled (string_bytes f)) (drop 1 xs)) (Some (map string_bytes (drop 1 xs))) None
unfolding files_of
files_marked [] w h e m = absurd (omega arith)
files_marked (x ∷ xs) w h e m =
    let here = rw e at m in
    rw (here, all_of_map is_filled string_bytes xs)

-- the FILE words without a mark
pub files_plain : (xs : List (String Global)) (w : String Global) → 0 < length xs → w ≡ get_or xs 0 w → bytes_eq (string_bytes w) (codes "--") ≡ false
    → files_of (map string_bytes xs) ≡ cond (list_all (λ f. is_plain (string_bytes f)) xs) (Some (map string_bytes xs)) None
unfolding files_of
files_plain [] w h e m = absurd (omega arith)
files_plain (x ∷ xs) w h e m =
    let here = rw e at m in
    rw (here, all_of_map is_plain string_bytes xs)

-- a test of some text is one of some word
pub any_of_map : {X Y : Type 0} (p : Y → Bool) (f : X → Y) (xs : List X) → list_any p (map f xs) ≡ list_any (λ x. p (f x)) xs
any_of_map p f [] = refl
any_of_map p f (x ∷ xs) = rw (any_of_map p f xs)

-- one text is that of the first word
pub only_file : (xs : List (String Global)) → length (map string_bytes xs) ≡ 1 → (0 < length xs) × ((x : String Global) → x ≡ get_or xs 0 x → map string_bytes xs ≡ string_bytes x ∷ [])
only_file [] h = absurd (omega arith)
only_file (y ∷ []) h = (omega arith, λ x e. ap (λ z. string_bytes z ∷ []) (sym e))
only_file (y ∷ z ∷ ys) h = absurd (omega arith)
