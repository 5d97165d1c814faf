-- Lines of a text, and the words of a line.
use Rattle.std.specs.Prelude.{◌≢◌, ℕ, ◌^◌, ◌<◌, List, [], ◌∷◌, ◌++◌, codes, decimal, Option, Some, None}

-- the byte does not stand in the text
abbrev pub Lacks : ℕ → List ℕ → Type 0
Lacks b [] = Unit {0}
Lacks b (x ∷ xs) = (x ≢ b) × Lacks b xs

-- a space, and then the number
abbrev pub spaced : ℕ → List ℕ
spaced n = codes " " ++ decimal n

abbrev pub spaced_if : Option ℕ → List ℕ
spaced_if None = []
spaced_if (Some n) = spaced n

-- the number, if there is one, fits 32 bits
abbrev pub Fits32 : Option ℕ → Type 0
Fits32 None = Unit {0}
Fits32 (Some n) = n < 2 ^ 32
