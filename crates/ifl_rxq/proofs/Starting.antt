-- The first refill, and where the worker's loop ends.
use Rattle.std.proofs.Common.{◌≡◌, ℕ, ◌+◌, ◌-◌, ◌%◌, ◌<◌, min, List, [], sym, refl, ap, ◌∙◌, arith, append-nil}
use Rattle.ifl_base.specs.declared.limits.TheConstants.{PART}
use Rattle.ifl_pcap.specs.declared.frame.Frame.{Frame}
use Rattle.ifl_desc.specs.Frames.{open_after, frames_of}
use Rattle.ifl_device.specs.Receive.{RxSees, rx_returned}
use Rattle.ifl_rxq.specs.declared.line.MissedLine.{MissedLine}
use Rattle.ifl_rxq.specs.FreeLists.{FreeSees, IsFreeList, Refills, accounted, settled}
use Rattle.ifl_rxq.specs.Worker.{IsReady}
use Rattle.ifl_rxq.proofs.Bound.{refill_fills, next_burst}
use Rattle.ifl_rxq.proofs.Serving.{owes_same}

-- after the first refill it is ready
pub first_ready : (burst n : ℕ) (frames : List Frame) (a b : FreeSees) (e : RxSees) (m : List MissedLine) → e.ring ≡ a.ring → settled a ≡ [] → rx_returned e ≡ [] → m ≡ [] → a.pass.part ≡ PART → a.pass.counts.taken ≡ accounted a
    → Refills a 4294967295 n b → IsFreeList b → IsReady burst frames 0 b e m
first_ready burst n frames a b e m ring none returned lines part owes r k = record {
  arrived = (0, (lines, ap frames_of returned, refl));
  caught_up = ([], r.still ∙ none ∙ sym returned ∙ sym (append-nil (rx_returned e)));
  full = refill_fills n 4294967295 a b k r (omega arith) part owes;
  ring = ring ∙ sym r.on.ring;
  part = r.on.part ∙ part;
  accounts = owes_same a b r.on owes;
  list = k;
  ends = ap (open_after 0) returned;
}

-- the next burst begins behind a whole one
pub next_first : (burst next len : ℕ) → next < len → next % burst ≡ 0 → next + min burst (len - next) < len → (next + min burst (len - next)) % burst ≡ 0
next_first burst next len low first less = let is : next + min burst (len - next) ≡ next + burst = omega arith in ap (λ (z : ℕ). z % burst) is ∙ next_burst burst next first
