-- What becomes of the frames of one sender.
use Rattle.std.specs.Prelude.{◌≡◌, ℕ, ◌+◌, ◌≤◌, ◌⊎◌, eqb, Bool, true, false, List, [], ◌∷◌, length}
use Rattle.ifl_base.specs.declared.judged.Judged.{Judged}
use Rattle.ifl_base.specs.declared.judged.Judged.TheVariants as judged
use Rattle.ifl_base.specs.Space.{space}
use Rattle.ifl_base.specs.Verdict.{verdict_of}
use Rattle.ifl_base.specs.Word.{pack, IsWithin}
use Rattle.ifl_pcap.specs.declared.frame.Frame.{Frame}
use Rattle.ifl_ringcore.specs.Counters.{one_if}
use Rattle.ifl_ringcore.specs.declared.history.Meaning.{Meaning}
use Rattle.ifl_base.specs.declared.fate.Away.{Away}
use Rattle.ifl_base.specs.declared.fate.Away.TheVariants as away
use Rattle.ifl_line.specs.declared.away_line.AwayLine.{AwayLine}
use Rattle.ifl_line.specs.declared.rules.Rules.{Rules}
use Rattle.ifl_line.specs.declared.rules.Policy.TheVariants.{Drop}
use Rattle.ifl_line.specs.Meanings.{packet_of}
use Rattle.ifl_line.specs.Needs.{clusters_needed}

abbrev pub judged_of : Rules → Frame → Judged
judged_of r f = verdict_of (length f.bytes) r.max_frame

abbrev pub IsFit : Rules → Frame → Type 0
IsFit r f = judged_of r f ≡ judged.Fit

-- why a frame may be turned away, in a ring of this size: its verdict; or it is fit, frames may be dropped, and there was no room for it
abbrev pub MayTurn : ℕ → Rules → Frame → Away → Type 0
MayTurn size r f away.Runt = judged_of r f ≡ judged.Runt
MayTurn size r f away.Oversize = judged_of r f ≡ judged.Oversize
MayTurn size r f away.NoClusters = IsFit r f × (r.policy ≡ Drop)
MayTurn size r f (away.NoBuffers w) = IsFit r f × (r.policy ≡ Drop) × (space size w ≤ 1) × IsWithin size w

abbrev pub line_of : ℕ → ℕ → Away → AwayLine
line_of s k why = record { ticket = record { sender = s; index = k }; away = why }

-- the frames of the sender s from its record k on: each in its order is accepted, and stands among the packets, or is turned away, and stands among the lines
abbrev pub Goes : ℕ → Rules → ℕ → ℕ → List Frame → List AwayLine → List Meaning → Type 0
Goes size r s k [] lines sent = (lines ≡ []) × (sent ≡ [])
Goes size r s k (f ∷ fs) lines sent =
    ((ms : List Meaning) × IsFit r f × (sent ≡ packet_of r.seg_bytes s k f ∷ ms) × Goes size r s (k + 1) fs lines ms)
    ⊎ ((why : Away) × (ls : List AwayLine) × MayTurn size r f why × (lines ≡ line_of s k why ∷ ls) × Goes size r s (k + 1) fs ls sent)

-- its length is why
abbrev pub IsByLength : Away → Type 0
IsByLength away.Runt = Unit {0}
IsByLength away.Oversize = Unit {0}
IsByLength away.NoClusters = ⊥
IsByLength (away.NoBuffers w) = ⊥

-- the line says that the ring had no room in the word that packs to n
abbrev pub bears : ℕ → Away → Bool
bears n away.Runt = false
bears n away.Oversize = false
bears n away.NoClusters = false
bears n (away.NoBuffers w) = eqb (pack w) n

abbrev pub lines_with : ℕ → List AwayLine → ℕ
lines_with n [] = 0
lines_with n (l ∷ ls) = one_if (bears n l.away) + lines_with n ls

abbrev pub is_no_clusters : Away → Bool
is_no_clusters away.Runt = false
is_no_clusters away.Oversize = false
is_no_clusters away.NoClusters = true
is_no_clusters (away.NoBuffers w) = false

abbrev pub no_clusters_in : List AwayLine → ℕ
no_clusters_in [] = 0
no_clusters_in (l ∷ ls) = one_if (is_no_clusters l.away) + no_clusters_in ls

abbrev pub need_by : Judged → ℕ → ℕ
need_by judged.Fit n = n
need_by judged.Runt n = 0
need_by judged.Oversize n = 0

-- the clusters that the fit frames take
abbrev pub needs : Rules → List Frame → ℕ
needs r [] = 0
needs r (f ∷ fs) = need_by (judged_of r f) (clusters_needed r.seg_bytes (length f.bytes)) + needs r fs
