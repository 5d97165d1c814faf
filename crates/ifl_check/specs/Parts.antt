-- The parts of a text.
use Rattle.std.specs.Prelude.{◌≢◌, ℕ, Bool, ◌&&◌, ◌||◌, not, List, [], ◌∷◌, length, nat_lt, nat_eq, slice_index}
use Rattle.std.specs.Char.{is_ascii_digit}
use Rattle.std.specs.List.{list_all}

-- the byte does not stand in the text
abbrev pub Lacks : ℕ → List ℕ → Type 0
Lacks b [] = Unit {0}
Lacks b (x ∷ xs) = (x ≢ b) × Lacks b xs

-- digits, and no zero in front of others
abbrev pub is_number : List ℕ → Bool
is_number word = (nat_lt 0 (length word) && list_all is_ascii_digit word) && (nat_eq (length word) 1 || not (nat_eq (slice_index word 0) 48))
