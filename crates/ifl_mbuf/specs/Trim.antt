-- Segments without the bytes at one end of them.
use Rattle.std.specs.Prelude.{ℕ, ◌+◌, ◌-◌, List, [], ◌∷◌, length, take, drop, nat_lt, if◌then◌else◌}
use Rattle.ifl_mbuf.specs.Segment.{Segment}

-- s without its first n bytes
abbrev pub behind : ℕ → Segment → Segment
behind n s = record { number = s.number; off = s.off + n; bytes = drop n s.bytes }

-- s with at most its first n bytes
abbrev pub shortened : ℕ → Segment → Segment
shortened n s = record { number = s.number; off = s.off; bytes = take n s.bytes }

-- the segments without their first n bytes; a segment that has no byte left is gone
abbrev pub without_first : ℕ → List Segment → List Segment
without_first n [] = []
without_first n (s ∷ ss) =
    let rest = without_first (n - length s.bytes) ss in
    if nat_lt n (length s.bytes) then behind n s ∷ ss else rest

-- the first n bytes of the segments; a segment that has no byte left is gone
abbrev pub only_first : ℕ → List Segment → List Segment
only_first n [] = []
only_first n (s ∷ ss) =
    let rest = only_first (n - length s.bytes) ss in
    if nat_lt 0 n then shortened n s ∷ rest else []
