-- Where the receive worker stands.
use Rattle.std.specs.Prelude.{◌≡◌, ℕ, ◌≤◌, List, ◌++◌, take}
use Rattle.ifl_base.specs.declared.limits.TheConstants.{PART}
use Rattle.ifl_pcap.specs.declared.frame.Frame.{Frame}
use Rattle.ifl_desc.specs.declared.desc.Desc.{Desc}
use Rattle.ifl_desc.specs.Frames.{open_after, frames_of}
use Rattle.ifl_device.specs.Receive.{RxSees, rx_returned}
use Rattle.ifl_rxq.specs.declared.line.MissedLine.{MissedLine}
use Rattle.ifl_rxq.specs.FreeLists.{FreeSees, IsFreeList, accounted, outstanding, settled}
use Rattle.ifl_rxq.specs.Receive.{Ran, full_of}

-- the first n frames have arrived
abbrev pub HasArrived : ℕ → ℕ → List Frame → ℕ → RxSees → List MissedLine → Type 0
HasArrived burst full frames n e missed = (used : ℕ) × Ran burst full 0 0 (take n frames) missed (frames_of (rx_returned e)) used

-- the full number of buffers of a list
abbrev pub full_for : FreeSees → ℕ
full_for f = full_of f.ring.slots f.pool.size

-- before a burst: n frames have arrived, all that was returned is settled, and a full number of buffers is rung
pub record IsReady (burst : ℕ) (frames : List Frame) (n : ℕ) (f : FreeSees) (e : RxSees) (missed : List MissedLine) : Type 0 where
  pub arrived : HasArrived burst (full_for f) frames n e missed
  pub caught_up : (more : List Desc) × (settled f ≡ rx_returned e ++ more)
  pub full : full_for f ≤ outstanding f
  pub ring : e.ring ≡ f.ring
  pub part : f.pass.part ≡ PART
  pub accounts : f.pass.counts.taken ≡ accounted f
  pub list : IsFreeList f
  pub ends : open_after 0 (rx_returned e) ≡ 0

-- in the end: nothing is outstanding, and what the engine returned is what the list settled
pub record IsDone (f : FreeSees) (e : RxSees) : Type 0 where
  pub none : outstanding f ≡ 0
  pub all : rx_returned e ≡ settled f
