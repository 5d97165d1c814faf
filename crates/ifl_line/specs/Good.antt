-- A good run: what its closed parts say of its files and of each other.
use Rattle.std.specs.Prelude.{◌≡◌, ℕ, ◌+◌, ◌≤◌, List, [], ◌∷◌, ◌++◌, length, map, All, AllPairs, Some, None, cond}
use Rattle.std.specs.List.{filter_map}
use Rattle.std.specs.List.Sorted.{IsPermutation}
use Rattle.ifl_base.specs.declared.ticket.Ticket.{Ticket}
use Rattle.ifl_desc.specs.declared.history.Side.TheVariants.{Device}
use Rattle.ifl_desc.specs.Closed.{ClosedSees, IsClosed, left_of}
use Rattle.ifl_desc.specs.Frames.{frames_of}
use Rattle.ifl_desc.specs.History.{sent}
use Rattle.ifl_pcap.specs.declared.frame.Frame.{Frame}
use Rattle.ifl_pcap.specs.File.{written}
use Rattle.ifl_pool.specs.History.{counts_of}
use Rattle.ifl_pool.specs.Pools.{ClosedState as ClosedPool, IsClosedPool}
use Rattle.ifl_reset.specs.Quiet.{IsQuiet}
use Rattle.ifl_ring.specs.Closed.{ClosedState as ClosedRing, IsEnded}
use Rattle.ifl_ringcore.specs.Counters.{capped, counters_of}
use Rattle.ifl_ringcore.specs.declared.counters.Counters.{Counters as RingCounters}
use Rattle.ifl_ringcore.specs.declared.history.Entry.{Entry}
use Rattle.ifl_ringcore.specs.declared.history.Meaning.{Meaning}
use Rattle.ifl_ringcore.specs.History.{state_after}
use Rattle.ifl_ringcore.specs.State.{first_state}
use Rattle.ifl_txq.specs.declared.item.Item.{Item}
use Rattle.ifl_txq.specs.declared.line.OrderLine.{OrderLine}
use Rattle.ifl_txq.specs.Done.{AreFramesOf, is_wire}
use Rattle.ifl_txq.specs.Log.{kept}
use Rattle.ifl_line.specs.declared.away_line.AwayLine.{AwayLine}
use Rattle.ifl_line.specs.declared.rules.Rules.{Rules}
use Rattle.ifl_line.specs.declared.rules.Policy.TheVariants.{Drop}
use Rattle.ifl_line.specs.declared.sizes.Sizes.{Sizes}
use Rattle.ifl_line.specs.Frames.{IsFit, lines_with, no_clusters_in}
use Rattle.ifl_line.specs.Meanings.{packet_of}
use Rattle.ifl_line.specs.Runs.{IsInFileOrder, IsBefore, IsLineOf, all_from, frame_of}
use Rattle.ifl_line.specs.Sent.{all_needs}
use Rattle.ifl_line.specs.Steps.{AreLawful, packets, refusals, weigh}

-- the packet is the fit frame that the ticket names, whole
abbrev pub IsNamed : Rules → List (List Frame) → Ticket → Meaning → Type 0
IsNamed r files t m = (f : Frame) × (frame_of files t ≡ Some f) × IsFit r f × (m ≡ packet_of r.seg_bytes t.sender t.index f)

-- the packets are the frames that these lines name, in the order of the lines
abbrev pub ArePacketsOf : Rules → List (List Frame) → List OrderLine → List Meaning → Type 0
ArePacketsOf r files [] ms = ms ≡ []
ArePacketsOf r files (l ∷ ls) [] = ⊥
ArePacketsOf r files (l ∷ ls) (m ∷ ms) = IsNamed r files l.ticket m × ArePacketsOf r files ls ms

-- the frames of the lines with fate wire, in the order of their lines
abbrev pub emitted : List (List Frame) → List OrderLine → List Frame
emitted files order = filter_map (λ l. cond (is_wire l.fate) (frame_of files l.ticket) None) order

-- the order record and the away lines account for all records of the files
pub record IsLawful (size : ℕ) (r : Rules) (files : List (List Frame)) (order : List OrderLine) (away : List AwayLine) (history : List Entry) : Type 0 where
  -- every record stands in exactly one line of the two lists, and no line names another
  pub each_once : IsPermutation (all_from 0 files) (map (λ l. l.ticket) order ++ map (λ l. l.ticket) away)
  -- each sender's accepted frames stand in the order of its file
  pub in_file_order : AllPairs IsInFileOrder (map (λ l. l.ticket) order)
  -- the away lines stand in the order of sender and record
  pub away_in_order : AllPairs IsBefore (map (λ l. l.ticket) away)
  -- the accepted frames are what the ring published as packets, fit and whole, in this order
  pub accepted : ArePacketsOf r files order (packets history)
  -- the others are what their line says
  pub turned_away : All (IsLineOf size r files) away
  -- no word stands in more lines than it refused
  pub refused : (n : ℕ) → lines_with n away ≤ refusals n history

-- the ring is closed at rest, empty, after a legal history in which packets and kicks were published as the rules say
pub record IsRingOf (z : Sizes) (r : Rules) (ring : ClosedRing Item) (counters : RingCounters) : Type 0 where
  pub size : ring.size ≡ z.ring
  pub ended : IsEnded z.ring ring.history
  pub rest : IsQuiet (state_after first_state ring.history)
  pub left : ring.left ≡ []
  pub lawful : AreLawful r.budget r.abdicate ring.history
  pub counted : counters ≡ capped (counters_of first_state ring.history)

-- the descriptor ring is closed and empty, its frames are those of the packets with fate wire or reset and some of those with fate flush, each with the status of its fate, and the wire is the capture of those with fate wire
pub record IsAdapterOf (z : Sizes) (files : List (List Frame)) (order : List OrderLine) (sent_packets : List Meaning) (desc : ClosedSees) (wire : List ℕ) : Type 0 where
  pub size : desc.size ≡ z.descriptors
  pub closed : IsClosed desc
  pub left : left_of desc ≡ []
  pub frames : AreFramesOf sent_packets (map kept order) (frames_of (sent Device desc.history))
  pub capture : wire ≡ written (emitted files order)

-- the pool is closed and has all its clusters; as many were taken as lie in the packets, and no more than the rules allow
pub record IsPoolOf (z : Sizes) (r : Rules) (files : List (List Frame)) (away : List AwayLine) (history : List Entry) (pool : ClosedPool) : Type 0 where
  pub size : pool.size ≡ z.clusters
  pub closed : IsClosedPool z.clusters pool.history (length pool.clusters)
  pub all : length pool.clusters ≡ z.clusters
  pub taken : weigh history ≤ (counts_of pool.history).taken
  pub empty : no_clusters_in away ≤ (counts_of pool.history).empty
  pub bound : r.policy ≡ Drop → (counts_of pool.history).taken + no_clusters_in away ≤ all_needs r files
