-- Bytes laid anew into clusters from the start of each.
use Rattle.std.specs.Prelude.{◌≡◌, ℕ, List, [], ◌∷◌, length, take, drop, nat_lt, if◌then◌else◌}
use Rattle.ifl_base.specs.declared.limits.TheConstants.{CLUSTER_BYTES}
use Rattle.ifl_mbuf.specs.Segment.{Segment, IsFilled}

-- bytes laid into clusters from the start of each, CLUSTER_BYTES to a cluster, as far as they go
abbrev pub laid : List ℕ → List ℕ → List Segment
laid [] bytes = []
laid (n ∷ ns) bytes =
    let rest = laid ns (drop CLUSTER_BYTES bytes) in
    if nat_lt 0 (length bytes)
    then record { number = n; off = 0; bytes = take CLUSTER_BYTES bytes } ∷ rest
    else []

-- each segment fills its cluster
abbrev pub AreWhole : List Segment → Type 0
AreWhole [] = Unit {0}
AreWhole (s ∷ ss) = (s.off ≡ 0) × (length s.bytes ≡ CLUSTER_BYTES) × AreWhole ss

-- full clusters, and one that is being filled from its start
pub record IsFilling (full : List Segment) (last : Segment) : Type 0 where
  pub whole : AreWhole full
  pub start : last.off ≡ 0
  pub filled : IsFilled last

-- each segment stands at the start of its cluster, and each but the last fills it
abbrev pub IsDense : List Segment → Type 0
IsDense [] = Unit {0}
IsDense (s ∷ []) = s.off ≡ 0
IsDense (s ∷ t ∷ ts) = (s.off ≡ 0) × (length s.bytes ≡ CLUSTER_BYTES) × IsDense (t ∷ ts)
