-- One fit frame, from the clauses of the calls that handle it.
use Rattle.std.proofs.Common.{◌≡◌, ℕ, ◌+◌, ◌*◌, ◌^◌, ◌<◌, List, [], ◌∷◌, ◌++◌, length, sym, refl, ap, ◌∙◌, subst, arith, ◌≤◌, take, get_or}
use Rattle.std.specs.Prelude.{Some, None}
use Rattle.ifl_base.specs.declared.ticket.Ticket.{Ticket}
use Rattle.ifl_base.specs.declared.ticket.Stamp.{Stamp}
use Rattle.ifl_base.specs.declared.word.RingWord.{RingWord}
use Rattle.ifl_mbuf.specs.Segment.{Segment, bytes_of}
use Rattle.ifl_pcap.specs.declared.frame.Frame.{Frame}
use Rattle.ifl_pool.specs.declared.known.Known.{Known as Passed}
use Rattle.ifl_ring.specs.declared.view.Known.{Known}
use Rattle.ifl_ringcore.specs.declared.history.Entry.{Entry}
use Rattle.ifl_ringcore.specs.declared.history.Meaning.{Meaning}
use Rattle.ifl_base.specs.declared.fate.Away.TheVariants as away
use Rattle.ifl_line.specs.declared.away_line.AwayLine.{AwayLine}
use Rattle.ifl_line.specs.declared.rules.Rules.{Rules}
use Rattle.ifl_line.specs.declared.rules.Policy.TheVariants.{Drop}
use Rattle.ifl_line.specs.Frames.{IsFit, line_of}
use Rattle.ifl_txq.specs.Items.{marks_of}
use Rattle.ifl_line.specs.Meanings.{packet_of}
use Rattle.ifl_line.specs.Needs.{clusters_needed}
use Rattle.ifl_line.specs.Obtains.{IsObtained}
use Rattle.ifl_line.specs.Sent.{Rises, Handled}
use Rattle.ifl_line.specs.Steps.{Stepped, OnlyKicks, IsOffered}
use Rattle.ifl_line.proofs.Handling.{Held, handled_accepted, handled_no_buffers, handled_no_clusters}
use Rattle.std.proofs.lemmas.List.{length-take-le, take_all, take_more}
use Rattle.ifl_line.proofs.Joining.{handled_more}
use Rattle.ifl_line.proofs.Laying.{rises_as}

-- a packet of these parts means the frame
abbrev meaning_by : Ticket → Stamp → List Segment → Meaning
meaning_by t st chain = record { tag = t.sender * 2 ^ 32 + t.index; bytes = bytes_of chain; marks = marks_of st; weight = length chain }

same_meaning : (t : Ticket) (st : Stamp) (chain : List Segment) (seg_bytes s k : ℕ) (f : Frame) → t ≡ record { sender = s; index = k } → st ≡ f.stamp → bytes_of chain ≡ f.bytes → length chain ≡ clusters_needed seg_bytes (length f.bytes) → meaning_by t st chain ≡ packet_of seg_bytes s k f
same_meaning t st chain seg_bytes s k f a b c d = λ i. record { tag = (a i).sender * 2 ^ 32 + (a i).index; bytes = c i; marks = marks_of (b i); weight = d i }

held : (r : Rules) (bytes : List ℕ) (f : Frame) (chain : List Segment) (v : Known) (p : Passed) (u : Known) (q : Passed) → bytes ≡ f.bytes → (es : List Entry) × Stepped v es u × OnlyKicks es → IsObtained r bytes (Some chain) p q
    → Held r (clusters_needed r.seg_bytes (length f.bytes)) v p u q × (bytes_of chain ≡ f.bytes) × (length chain ≡ clusters_needed r.seg_bytes (length f.bytes))
held r bytes f chain v p u q is (es, stepped, only) (has, many, given, empty, rises, once) = let n : length chain ≡ clusters_needed r.seg_bytes (length f.bytes) = many ∙ ap (λ (z : List ℕ). clusters_needed r.seg_bytes (length z)) is in (
  record { es = es; stepped = stepped; only = only; given = given; empty = empty; rises = rises_as (given + length chain) given empty _ given empty p q (let z : given + clusters_needed r.seg_bytes (length f.bytes) ≡ given + length chain = omega arith in z) refl refl rises; once = once },
  has ∙ is,
  n,
)

pub sent_accepted : (size : ℕ) (r : Rules) (s k : ℕ) (f : Frame) (bytes : List ℕ) (chain kept : List Segment) (t : Ticket) (st : Stamp) (v : Known) (p : Passed) (u : Known) (q : Passed) (w : Known) (e : Passed) (old : List AwayLine)
    → s < 65536 → k < 4294967296 → IsFit r f → bytes ≡ f.bytes → (es : List Entry) × Stepped v es u × OnlyKicks es → IsObtained r bytes (Some chain) p q → t ≡ record { sender = s; index = k } → st ≡ f.stamp → kept ≡ chain
    → (es : List Entry) × Stepped u es w × IsOffered size r.budget r.abdicate (meaning_by t st kept ∷ []) None es → Rises 0 0 0 q e → Handled size r s k (f ∷ []) v p old w e old
sent_accepted size r s k f bytes chain kept t st v p u q w e old low small fit is only obtained a b same offered rises = let h = held r bytes f chain v p u q is only obtained in
    handled_accepted size r s k f (meaning_by t st kept) v p u q w e old low small fit (same_meaning t st kept r.seg_bytes s k f a b (ap bytes_of same ∙ h.1) (ap length same ∙ h.2)) h.0 offered rises

pub sent_no_buffers : (size : ℕ) (r : Rules) (s k : ℕ) (f : Frame) (bytes : List ℕ) (chain kept : List Segment) (m : Meaning) (seen : RingWord) (v : Known) (p : Passed) (u : Known) (q : Passed) (w : Known) (e : Passed) (old new : List AwayLine)
    → IsFit r f → bytes ≡ f.bytes → (es : List Entry) × Stepped v es u × OnlyKicks es → IsObtained r bytes (Some chain) p q → kept ≡ chain
    → (es : List Entry) × Stepped u es w × IsOffered size r.budget r.abdicate (m ∷ []) (Some seen) es → (r.policy ≡ Drop) × Rises 0 (length kept) 0 q e → new ≡ old ++ line_of s k (away.NoBuffers seen) ∷ [] → Handled size r s k (f ∷ []) v p old w e new
sent_no_buffers size r s k f bytes chain kept m seen v p u q w e old new fit is only obtained same offered (drops, rises) line = let h = held r bytes f chain v p u q is only obtained in
    handled_no_buffers size r s k f m seen v p u q w e old new fit drops line h.0 offered (rises_as 0 (length kept) 0 0 _ 0 q e refl (sym h.2 ∙ ap length (sym same)) refl rises)

pub sent_no_clusters : (size : ℕ) (r : Rules) (s k : ℕ) (f : Frame) (bytes : List ℕ) (v : Known) (p : Passed) (w : Known) (t : Passed) (old new : List AwayLine)
    → IsFit r f → bytes ≡ f.bytes → (es : List Entry) × Stepped v es w × OnlyKicks es → IsObtained r bytes None p t → new ≡ old ++ line_of s k away.NoClusters ∷ [] → Handled size r s k (f ∷ []) v p old w t new
sent_no_clusters size r s k f bytes v p w t old new fit is only (drops, j, fewer, rises) line =
    handled_no_clusters size r s k j f v p w t old new fit drops line only (subst (λ (z : List ℕ). j < clusters_needed r.seg_bytes (length z)) is fewer) rises

-- one more frame of a sender
pub next_frame : (size : ℕ) (r : Rules) (s n k : ℕ) (frames : List Frame) (f : Frame) (u : Known) (p : Passed) (a : List AwayLine) (v : Known) (q : Passed) (b : List AwayLine) (w : Known) (t : Passed) (c : List AwayLine)
    → k < length frames → f ≡ get_or frames k f → n ≡ s → Handled size r s 0 (take k frames) u p a v q b → Handled size r n k (f ∷ []) v q b w t c → Handled size r s 0 (take (k + 1) frames) u p a w t c
next_frame size r s n k frames f u p a v q b w t c lt is same before here =
    let long : k ≡ 0 + length (take k frames) = omega (arith, length-take-le k frames (omega arith)) in
    let more : Handled size r s (0 + length (take k frames)) (f ∷ []) v q b w t c = subst (λ (z : ℕ × ℕ). Handled size r z.0 z.1 (f ∷ []) v q b w t c) (λ i. (same i, long i)) here in
    subst (λ (z : List Frame). Handled size r s 0 z u p a w t c) (sym (take_more frames k f lt ∙ ap (λ (y : Frame). take k frames ++ y ∷ []) (sym is))) (handled_more size r s 0 (take k frames) (f ∷ []) u p a v q b w t c before more)

pub all_frames : (size : ℕ) (r : Rules) (s k : ℕ) (frames : List Frame) (u : Known) (p : Passed) (a : List AwayLine) (v : Known) (q : Passed) (b : List AwayLine) → length frames ≤ k → Handled size r s 0 (take k frames) u p a v q b → Handled size r s 0 frames u p a v q b
all_frames size r s k frames u p a v q b le h = subst (λ (z : List Frame). Handled size r s 0 z u p a v q b) (take_all k frames le) h
