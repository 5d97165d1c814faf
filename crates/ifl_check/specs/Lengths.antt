-- What the length of a frame says of its line.
use Rattle.std.specs.Prelude.{ℕ, ◌+◌, ◌/◌, ◌<◌, ◌≤◌, List, length, IfSome}
use Rattle.std.specs.List.{All}
use Rattle.ifl_base.specs.declared.fate.Fate.{Fate}
use Rattle.ifl_base.specs.declared.fate.Fate.TheVariants as fate
use Rattle.ifl_base.specs.declared.fate.Away.{Away}
use Rattle.ifl_base.specs.declared.fate.Away.TheVariants as away
use Rattle.ifl_pcap.specs.declared.frame.Frame.{Frame}
use Rattle.ifl_check.specs.declared.line.Line.{Line}
use Rattle.ifl_check.specs.declared.terms.Terms.{Terms}
use Rattle.ifl_check.specs.Files.{frame_at}

-- how many clusters of 2,048 bytes so many bytes fill
abbrev pub clusters_needed : ℕ → ℕ
clusters_needed len = (len + 2047) / 2048

-- neither a runt nor oversize
abbrev pub IsFit : Terms → ℕ → Type 0
IsFit terms len = (14 ≤ len) × (len ≤ terms.max_frame)

-- a frame of this length may have this fate
abbrev pub SuitsFate : Terms → ℕ → Fate → Type 0
SuitsFate terms len fate.Wire = IsFit terms len × (clusters_needed len ≤ terms.max_segs)
SuitsFate terms len fate.TooManySegments = IsFit terms len × (terms.max_segs < clusters_needed len)
SuitsFate terms len fate.Reset = IsFit terms len × (clusters_needed len ≤ terms.max_segs)
SuitsFate terms len fate.Flush = IsFit terms len

-- a frame of this length may be turned away so
abbrev pub SuitsAway : Terms → ℕ → Away → Type 0
SuitsAway terms len away.Runt = len < 14
SuitsAway terms len away.Oversize = (14 ≤ len) × (terms.max_frame < len)
SuitsAway terms len away.NoClusters = IsFit terms len
SuitsAway terms len (away.NoBuffers w) = IsFit terms len

-- what a line says suits the length of its frame
abbrev pub SuitsFrame : {T : Type 0} → (Terms → ℕ → T → Type 0) → Terms → List (List Frame) → Line T → Type 0
SuitsFrame Suits terms files l = IfSome (frame_at files l.sender l.index) (λ f. Suits terms (length f.bytes) l.what)

pub record LengthsAgree (terms : Terms) (files : List (List Frame)) (accepted : List (Line Fate)) (turned : List (Line Away)) : Type 0 where
  pub fates : All (SuitsFrame SuitsFate terms files) accepted
  pub reasons : All (SuitsFrame SuitsAway terms files) turned
