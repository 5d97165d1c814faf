-- Captures with the room of their senders.
use Rattle.std.specs.Prelude.{◌≡◌, ℕ, ◌+◌, List, [], ◌∷◌}
use Rattle.ifl_pcap.specs.declared.capture.Capture.{Capture}
use Rattle.ifl_line.specs.declared.making.Load.{Load}
use Rattle.ifl_line.specs.Ready.{IsReady}

abbrev pub loaded : List Load → List Capture
loaded [] = []
loaded (x ∷ xs) = x.capture ∷ loaded xs

-- each sender has room for its capture; they have the numbers from s on
abbrev pub AreLoads : ℕ → List Load → Type 0
AreLoads s [] = Unit {0}
AreLoads s (x ∷ xs) = IsReady x.capture.frames x.sender × (x.sender.number ≡ s) × AreLoads (s + 1) xs
