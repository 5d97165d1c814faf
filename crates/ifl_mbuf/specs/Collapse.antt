-- Segments copied whole behind those before them, as far as there is room.
use Rattle.std.specs.Prelude.{ℕ, ◌-◌, ◌<◌, List, [], ◌∷◌, length, nat_lt, if◌then◌else◌}
use Rattle.ifl_mbuf.specs.Segment.{Segment, room, extended}

-- s and the segments behind it, of which at most `surplus` are to go: one whose bytes have room behind
-- those of the segment before it is copied there and gone. With the clusters of those that are gone
abbrev pub packed : ℕ → Segment → List Segment → List Segment × List ℕ
packed surplus s [] = (s ∷ [], [])
packed surplus s (t ∷ ts) =
    let moved = packed (surplus - 1) (extended s t.bytes) ts in
    let stays = packed surplus t ts in
    if nat_lt 0 surplus
    then (if nat_lt (room s) (length t.bytes)
    then (s ∷ stays.0, stays.1)
    else (moved.0, t.number ∷ moved.1))
    else (s ∷ t ∷ ts, [])

-- the segments packed until `max` are left, and the clusters of those that are gone
abbrev pub collapsed : ℕ → List Segment → List Segment × List ℕ
collapsed max [] = ([], [])
collapsed max (s ∷ ss) = packed (length (s ∷ ss) - max) s ss

-- no segment's bytes have room behind those of the segment before it
abbrev pub IsTight : List Segment → Type 0
IsTight [] = Unit {0}
IsTight (s ∷ []) = Unit {0}
IsTight (s ∷ t ∷ ts) = (room s < length t.bytes) × IsTight (t ∷ ts)
