-- What the receive path does with the frames that arrive.
use Rattle.std.specs.Prelude.{◌≡◌, ℕ, suc, ◌+◌, ◌-◌, ◌%◌, ◌<◌, ◌≤◌, ◌⊎◌, min, cond, nat_eq, List, [], ◌∷◌, ◌++◌, length}
use Rattle.ifl_base.specs.declared.ticket.Ticket.{Ticket}
use Rattle.ifl_pcap.specs.declared.frame.Frame.{Frame}
use Rattle.ifl_desc.specs.declared.desc.Desc.{Desc}
use Rattle.ifl_desc.specs.declared.history.Side.TheVariants.{Driver}
use Rattle.ifl_desc.specs.History.{sent}
use Rattle.ifl_device.specs.Receive.{RxSees, IsStored, Returns, free_of, needed, rx_returned}
use Rattle.ifl_rxq.specs.declared.line.MissedLine.{MissedLine}

-- the ticket of arrival k
abbrev pub arrival : ℕ → Ticket
arrival k = record { sender = 0; index = k }

-- how many buffers the stored arrivals before arrival k needed in its burst, where up to k - 1 it was so many: a burst begins with 0
abbrev pub used_before : ℕ → ℕ → ℕ → ℕ
used_before burst k used = cond (nat_eq (k % burst) 0) 0 used

-- the arrivals from k on: each is the next stored frame, or the next missed line, which has fewer buffers free than it needs, and at least the full number less what its burst used before it
abbrev pub AreReceived : ℕ → ℕ → ℕ → ℕ → List Frame → List MissedLine → List (List Desc) → Type 0
AreReceived burst full k used [] missed stored = (missed ≡ []) × (stored ≡ [])
AreReceived burst full k used (f ∷ fs) missed stored =
    ((frame : List Desc) × (rest : List (List Desc)) × (stored ≡ frame ∷ rest) × IsStored (arrival k) f.stamp f.bytes frame
    × AreReceived burst full (suc k) (used_before burst k used + needed (length f.bytes)) fs missed rest)
    ⊎ ((line : MissedLine) × (rest : List MissedLine) × (missed ≡ line ∷ rest) × (line.index ≡ k) × (line.free < needed (length f.bytes)) × (full ≤ line.free + used_before burst k used)
    × AreReceived burst full (suc k) (used_before burst k used) fs rest stored)

-- the full number of buffers: as many as a ring of so many slots holds, or as there are clusters
abbrev pub full_of : ℕ → ℕ → ℕ
full_of slots clusters = min (slots - 1) clusters

-- one arrival: a stored frame more, or a missed line more
abbrev pub Arrives : ℕ → Frame → RxSees → List MissedLine → RxSees → List MissedLine → Type 0
Arrives k f a m b n =
    ((frame : List Desc) × IsStored (arrival k) f.stamp f.bytes frame × Returns frame a b × (n ≡ m))
    ⊎ ((line : MissedLine) × (line.index ≡ k) × (line.free < needed (length f.bytes)) × (line.free ≡ free_of b) × Returns [] a b × (n ≡ m ++ line ∷ []))

-- the same, with what the last burst used in the end
abbrev pub Ran : ℕ → ℕ → ℕ → ℕ → List Frame → List MissedLine → List (List Desc) → ℕ → Type 0
Ran burst full k used [] missed stored end = (missed ≡ []) × (stored ≡ []) × (end ≡ used)
Ran burst full k used (f ∷ fs) missed stored end =
    ((frame : List Desc) × (rest : List (List Desc)) × (stored ≡ frame ∷ rest) × IsStored (arrival k) f.stamp f.bytes frame
    × Ran burst full (suc k) (used_before burst k used + needed (length f.bytes)) fs missed rest end)
    ⊎ ((line : MissedLine) × (rest : List MissedLine) × (missed ≡ line ∷ rest) × (line.index ≡ k) × (line.free < needed (length f.bytes)) × (full ≤ line.free + used_before burst k used)
    × Ran burst full (suc k) (used_before burst k used) fs rest stored end)

-- before arrival k the engine has as many buffers as a full ring less what the burst used
abbrev pub HasBuffers : ℕ → ℕ → ℕ → ℕ → RxSees → Type 0
HasBuffers burst full k used e = full + length (rx_returned e) ≤ length (sent Driver e.device.seen) + used_before burst k used
