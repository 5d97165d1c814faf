-- What `encap` did with a packet.
use Rattle.std.proofs.Common.{◌≡◌, ℕ, ◌+◌, ◌<◌, ◌≤◌, List, ◌++◌, length, ap, ◌∙◌, arith}
use Rattle.std.specs.Prelude.{IsPermutation}
use Rattle.std.proofs.lemmas.List.{length-map}
use Rattle.ifl_base.specs.declared.ticket.Ticket.{Ticket}
use Rattle.ifl_base.specs.declared.ticket.Stamp.{Stamp}
use Rattle.ifl_mbuf.specs.Segment.{Segment, numbers_of}
use Rattle.ifl_desc.specs.declared.desc.Desc.{Desc}
use Rattle.ifl_desc.specs.Ends.{DriverSees, IsDriver}
use Rattle.ifl_txq.specs.Encap.{IsPlan}
use Rattle.ifl_desc.specs.Frames.{open_after}
use Rattle.ifl_txq.specs.Queue.{QueueSees, IsQueue}
use Rattle.ifl_desc.proofs.Framing.{open_append}
use Rattle.ifl_desc.proofs.Splitting.{whole_open}
use Rattle.ifl_txq.proofs.Plans.{plan_whole}
use Rattle.ifl_txq.proofs.Chains.{freed_count}

-- all clusters of a packet fit into one list
pub few_clusters : (freed all : List ℕ) (now before : List Segment) → IsPermutation (freed ++ numbers_of now) (numbers_of before) → length before ≤ 64 → all ≡ numbers_of now → length freed + length all ≤ 64
few_clusters freed all now before p short is = let n = freed_count freed now before p in let l = ap length is in let m : length (numbers_of now) ≡ length now = length-map now (λ (s : Segment). s.number) in omega arith

-- what was posted are whole frames
pub posts_queue : (a : QueueSees) → IsQueue a → (t : Ticket) (s : Stamp) (now : List Segment) (ds : List Desc) (driver : DriverSees) → IsPlan t s now ds → 0 < length now → driver ≡ record (a.driver) { pending = a.driver.pending ++ ds } → IsDriver driver → IsQueue (record a { driver = driver })
posts_queue a k t s now ds driver plan more is lawful = record {
  of_ring = ap (λ (z : DriverSees). z.ring) is ∙ k.of_ring;
  of_port = k.of_port;
  of_pool = k.of_pool;
  lawful = lawful;
  whole = ap (λ (z : DriverSees). open_after 0 z.pending) is ∙ open_append 0 a.driver.pending ds ∙ ap (λ (z : ℕ). open_after z ds) k.whole ∙ whole_open 0 ds (plan_whole t s now ds plan more);
  some_segs = k.some_segs;
  few_segs = k.few_segs;
  some_every = k.some_every;
  few_every = k.few_every;
  fits = k.fits;
}
