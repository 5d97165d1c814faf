-- How the entries of two seats lie among each other.
use Rattle.std.specs.Prelude.{◌≡◌, ◌⊎◌, List, [], ◌∷◌}
use Rattle.ifl_ringcore.specs.declared.history.Entry.{Entry}

-- the third list is the first two merged: it has all entries of both, and those of each in their order
abbrev pub IsMerge : List Entry → List Entry → List Entry → Type 0
IsMerge xs ys [] = (xs ≡ []) × (ys ≡ [])
IsMerge xs ys (e ∷ es) = ((ws : List Entry) × (xs ≡ e ∷ ws) × IsMerge ws ys es) ⊎ ((ws : List Entry) × (ys ≡ e ∷ ws) × IsMerge xs ws es)
