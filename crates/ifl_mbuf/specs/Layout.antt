-- Segments as they lie in clusters.
use Rattle.std.specs.Prelude.{◌≡◌, ℕ, ◌+◌, ◌<◌, ◌≤◌, List, [], ◌∷◌, length, map, take, drop}
use Rattle.ifl_base.specs.declared.limits.TheConstants.{CHAIN_MAX, CLUSTER_BYTES}
use Rattle.ifl_mbuf.specs.declared.node.Body.{Body}
use Rattle.ifl_mbuf.specs.Segment.{Segment, size}

-- the part of a cluster that is in use
abbrev pub segment_of : Body → Segment
segment_of b = record { number = b.number; off = b.off; bytes = take b.len (drop b.off b.bytes) }

-- that part lies within the cluster
abbrev pub Fits : Body → Type 0
Fits b = (b.off + b.len ≤ CLUSTER_BYTES) × (length b.bytes ≡ CLUSTER_BYTES)

-- that part lies within the cluster, and has a byte
abbrev pub IsFull : Body → Type 0
IsFull b = Fits b × (0 < b.len)

-- so it is for each cluster
abbrev pub AllFull : List Body → Type 0
AllFull [] = Unit {0}
AllFull (b ∷ bs) = IsFull b × AllFull bs

-- the clusters of a chain, which has `len` bytes
pub record HoldChain (bs : List Body) (len : ℕ) : Type 0 where
  pub short : length bs ≤ CHAIN_MAX
  pub len_is : len ≡ size (map segment_of bs)
  pub full : AllFull bs

-- each cluster has its bytes
abbrev pub AllWhole : List Body → Type 0
AllWhole [] = Unit {0}
AllWhole (b ∷ bs) = (length b.bytes ≡ CLUSTER_BYTES) × AllWhole bs

-- the clusters of a freed list
pub record HoldFreed (bs : List Body) : Type 0 where
  pub short : length bs ≤ CHAIN_MAX
  pub whole : AllWhole bs
