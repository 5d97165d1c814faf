-- The packets of a run have distinct tickets, each that of a record of its files.
use Rattle.std.proofs.Common.{◌≡◌, ℕ, zero, suc, ◌/◌, ◌%◌, ◌^◌, ◌<◌, List, [], ◌∷◌, length, sym, ap, arith}
use Rattle.std.specs.Prelude.{map, All, AllPairs, Some, slice_index, slice_index_or}
use Rattle.std.proofs.lemmas.List.Elements.{All-head, All-tail}
use Rattle.std.proofs.lemmas.Option.{slice_get_within}
use Rattle.ifl_base.specs.declared.ticket.Ticket.{Ticket}
use Rattle.ifl_pcap.specs.declared.frame.Frame.{Frame}
use Rattle.ifl_ringcore.specs.declared.history.Meaning.{Meaning}
use Rattle.ifl_txq.specs.Standing.{AreDistinct, AreListed, IsNew}
use Rattle.ifl_line.specs.declared.rules.Rules.{Rules}
use Rattle.ifl_line.specs.Runs.{ticket, ticket_of, frame_of, IsInFileOrder, IsPacketOf}

new_to : (m : Meaning) (ms : List Meaning) → ((j : ℕ) (d : Ticket) → j < length (map ticket_of ms) → IsInFileOrder (ticket_of m) (slice_index_or (map ticket_of ms) j d)) → IsNew m.tag ms
new_to m [] h = tt
new_to m (x ∷ xs) h = (λ e. (let lt : m.tag % 2 ^ 32 < x.tag % 2 ^ 32 = h 0 (ticket_of m) (omega arith) (ap (λ (z : ℕ). z / 2 ^ 32) (sym e)) in let same : x.tag % 2 ^ 32 ≡ m.tag % 2 ^ 32 = ap (λ (z : ℕ). z % 2 ^ 32) e in omega arith), new_to m xs (λ j d lt. h (suc j) d (omega arith)))

-- packets in the order of their files have distinct tickets
pub order_distinct : (ms : List Meaning) → AllPairs IsInFileOrder (map ticket_of ms) → AreDistinct ms
order_distinct [] h = tt
order_distinct (m ∷ ms) h = (new_to m ms (λ j d lt. h 0 (suc j) d (omega arith) (omega arith)), order_distinct ms (λ i j d lt le. h (suc i) (suc j) d (omega arith) (omega arith)))

-- a ticket that names a frame is that of a record
frame_within : (files : List (List Frame)) (s k : ℕ) (f : Frame) → frame_of files (ticket s k) ≡ Some f → k < slice_index (map length files) s
frame_within [] s k f is = absurd (cc)
frame_within (fs ∷ fss) zero k f is = slice_get_within fs k f is
frame_within (fs ∷ fss) (suc s) k f is = frame_within fss s k f is

pub named_listed : (r : Rules) (files : List (List Frame)) (ms : List Meaning) → All (IsPacketOf r files) ms → AreListed (map length files) ms
named_listed r files [] h = tt
named_listed r files (m ∷ ms) h = let named = All-head (IsPacketOf r files) m ms h in (frame_within files (m.tag / 2 ^ 32) (m.tag % 2 ^ 32) named.0 named.1, named_listed r files ms (All-tail (IsPacketOf r files) m ms h))
