-- How a packet is laid into descriptors.
use Rattle.std.specs.Prelude.{◌≡◌, ℕ, ◌+◌, ◌<◌, ◌≤◌, Bool, true, false, List, [], ◌∷◌, ◌++◌, length, IsPermutation}
use Rattle.std.specs.Int.{div_ceil}
use Rattle.ifl_base.specs.declared.ticket.Ticket.{Ticket}
use Rattle.ifl_base.specs.declared.ticket.Stamp.{Stamp}
use Rattle.ifl_mbuf.specs.declared.packet.Packet.{Packet}
use Rattle.ifl_mbuf.specs.Segment.{Segment, bytes_of, numbers_of, size}
use Rattle.ifl_desc.specs.declared.desc.Desc.{Desc}
use Rattle.ifl_desc.specs.declared.desc.Status.TheVariants as status
use Rattle.ifl_desc.specs.Ends.{room_of}
use Rattle.ifl_txq.specs.declared.encap.Encap.{Encap}
use Rattle.ifl_txq.specs.declared.encap.Encap.TheVariants as encap
use Rattle.ifl_txq.specs.Queue.{QueueSees}

-- nothing stands behind it
abbrev pub is_last : List Segment → Bool
is_last [] = true
is_last (s ∷ ss) = false

-- an entry for each segment, in order, with the packet's ticket and stamp, the last one alone marked
abbrev pub IsPlan : Ticket → Stamp → List Segment → List Desc → Type 0
IsPlan t s [] [] = Unit {0}
IsPlan t s [] (d ∷ ds) = ⊥
IsPlan t s (g ∷ gs) [] = ⊥
IsPlan t s (g ∷ gs) (d ∷ ds) = (d.seg ≡ g) × (d.ticket ≡ t) × (d.stamp ≡ s) × (d.status ≡ status.Posted) × (d.last ≡ is_last gs) × IsPlan t s gs ds

-- the packet as it is posted: its bytes in at most max segments, which with what compaction freed are its clusters
pub record IsEncapsulation (max : ℕ) (p : Packet) (ds : List Desc) (freed : List ℕ) : Type 0 where
  pub segments : List Segment
  pub plan : IsPlan p.ticket p.stamp segments ds
  pub bytes : bytes_of segments ≡ bytes_of p.chain
  pub clusters : IsPermutation (freed ++ numbers_of segments) (numbers_of p.chain)
  pub some : 0 < length segments
  pub few : length segments ≤ max

-- so many clusters are needed for the bytes of a packet
abbrev pub needed : Packet → ℕ
needed p = div_ceil (size p.chain) 2048

-- what `encap` did, by its answer
abbrev pub Encapped : QueueSees → Packet → Encap → QueueSees → Type 0
Encapped a p (encap.NoRoom back avail) b = (room_of a.driver ≤ a.max_segs + 2) × (avail ≡ room_of a.driver) × (back ≡ p) × (b ≡ a)
Encapped a p (encap.Dropped freed) b = (a.max_segs + 2 < room_of a.driver) × (a.max_segs < needed p) × IsPermutation freed (numbers_of p.chain) × (b ≡ a)
Encapped a p (encap.Posted count freed) b = (a.max_segs + 2 < room_of a.driver) × (needed p ≤ a.max_segs)
    × (ds : List Desc) × (count ≡ length ds) × IsEncapsulation a.max_segs p ds freed × (b ≡ record a { driver = record (a.driver) { pending = a.driver.pending ++ ds } })
