-- A segment as a contract sees it, and the bytes of a list of segments.
use Rattle.std.specs.Prelude.{ℕ, ◌+◌, ◌-◌, ◌<◌, ◌≤◌, ◌++◌, List, [], ◌∷◌, length, map}
use Rattle.ifl_base.specs.declared.limits.TheConstants.{CHAIN_MAX, CLUSTER_BYTES}

-- the part in use of a cluster: the cluster's number, where the part starts, and its bytes
pub record Segment : Type 0 where
  pub number : ℕ
  pub off : ℕ
  pub bytes : List ℕ

-- the bytes of the segments, joined
abbrev pub bytes_of : List Segment → List ℕ
bytes_of [] = []
bytes_of (s ∷ ss) = s.bytes ++ bytes_of ss

-- how many bytes the segments have
abbrev pub size : List Segment → ℕ
size ss = length (bytes_of ss)

-- the clusters of the segments
abbrev pub numbers_of : List Segment → List ℕ
numbers_of = map (λ s. s.number)

-- it has a byte, and lies within its cluster
abbrev pub IsFilled : Segment → Type 0
IsFilled s = (0 < length s.bytes) × (s.off + length s.bytes ≤ CLUSTER_BYTES)

-- each segment has a byte, and lies within its cluster
abbrev pub AreFilled : List Segment → Type 0
AreFilled [] = Unit {0}
AreFilled (s ∷ ss) = IsFilled s × AreFilled ss

-- what every chain keeps
pub record IsChain (ss : List Segment) : Type 0 where
  pub short : length ss ≤ CHAIN_MAX
  pub filled : AreFilled ss

-- how many bytes of its cluster lie behind the segment
abbrev pub room : Segment → ℕ
room s = CLUSTER_BYTES - (s.off + length s.bytes)

-- s with further bytes behind its own
abbrev pub extended : Segment → List ℕ → Segment
extended s more = record { number = s.number; off = s.off; bytes = s.bytes ++ more }
