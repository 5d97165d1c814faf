-- A packet as it is laid into descriptors.
use Rattle.std.proofs.Common.{◌≡◌, ℕ, suc, ◌+◌, ◌<◌, List, [], ◌∷◌, ◌++◌, length, refl, ap, arith, length-append}
use Rattle.std.proofs.lemmas.List.{length-map}
use Rattle.std.proofs.lemmas.List.Sorted.{length_permutation}
use Rattle.ifl_base.specs.declared.ticket.Ticket.{Ticket}
use Rattle.ifl_base.specs.declared.ticket.Stamp.{Stamp}
use Rattle.ifl_mbuf.specs.declared.packet.Packet.{Packet}
use Rattle.ifl_mbuf.specs.Segment.{Segment, bytes_of, numbers_of}
use Rattle.ifl_desc.specs.declared.desc.Desc.{Desc}
use Rattle.ifl_txq.specs.Items.{marks_of}
use Rattle.ifl_desc.specs.Frames.{IsWholeFrame}
use Rattle.ifl_txq.specs.Frames.{joined}
use Rattle.ifl_txq.specs.Encap.{IsPlan, IsEncapsulation}
use Rattle.ifl_txq.specs.Standing.{AreOf}

module _ (t : Ticket) (s : Stamp) where
  pub plan_names : (gs : List Segment) (ds : List Desc) → IsPlan t s gs ds → AreOf t (marks_of s) ds
  plan_names [] [] p = tt
  plan_names [] (d ∷ ds) p = absurd p
  plan_names (g ∷ gs) [] p = absurd p
  plan_names (g ∷ gs) (d ∷ ds) p = (p.1, ap marks_of p.2, plan_names gs ds p.5)

  pub plan_joined : (gs : List Segment) (ds : List Desc) → IsPlan t s gs ds → joined ds ≡ bytes_of gs
  plan_joined [] [] p = refl
  plan_joined [] (d ∷ ds) p = absurd p
  plan_joined (g ∷ gs) [] p = absurd p
  plan_joined (g ∷ gs) (d ∷ ds) p = λ i. (p.0 i).bytes ++ plan_joined gs ds p.5 i

  pub plan_length : (gs : List Segment) (ds : List Desc) → IsPlan t s gs ds → length ds ≡ length gs
  plan_length [] [] p = refl
  plan_length [] (d ∷ ds) p = absurd p
  plan_length (g ∷ gs) [] p = absurd p
  plan_length (g ∷ gs) (d ∷ ds) p = ap suc (plan_length gs ds p.5)

  pub plan_whole : (gs : List Segment) (ds : List Desc) → IsPlan t s gs ds → 0 < length gs → IsWholeFrame ds
  plan_whole [] ds p some = absurd (omega arith)
  plan_whole (g ∷ gs) [] p some = absurd p
  plan_whole (g ∷ []) (d ∷ []) p some = p.4
  plan_whole (g ∷ []) (d ∷ (x ∷ ds)) p some = absurd p.5
  plan_whole (g ∷ (h ∷ gs)) (d ∷ []) p some = absurd p.5
  plan_whole (g ∷ (h ∷ gs)) (d ∷ (x ∷ ds)) p some = (p.4, plan_whole (h ∷ gs) (x ∷ ds) p.5 (omega arith))

-- what is posted and what is freed are the packet's clusters
pub laid_length : (max : ℕ) (p : Packet) (ds : List Desc) (freed : List ℕ) → IsEncapsulation max p ds freed → length freed + length ds ≡ length p.chain
laid_length max p ds freed e =
    let n = length_permutation (freed ++ numbers_of e.segments) (numbers_of p.chain) e.clusters in
    let a = length-append freed (numbers_of e.segments) in
    let b : length (numbers_of e.segments) ≡ length e.segments = length-map e.segments (λ s. s.number) in
    let c : length (numbers_of p.chain) ≡ length p.chain = length-map p.chain (λ s. s.number) in
    let d = plan_length p.ticket p.stamp e.segments ds e.plan in
    omega arith
