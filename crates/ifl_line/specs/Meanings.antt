-- Packets and kicks, as the history of a ring keeps them.
use Rattle.std.specs.Prelude.{ℕ, ◌+◌, ◌*◌, ◌/◌, ◌^◌, Bool, eqb, cond, List, [], ◌∷◌, length}
use Rattle.ifl_pcap.specs.declared.frame.Frame.{Frame}
use Rattle.ifl_ringcore.specs.declared.history.Meaning.{Meaning}
use Rattle.ifl_txq.specs.Items.{kick_tag, marks_of, meaning_of}
use Rattle.ifl_txq.specs.declared.item.Item.TheVariants.{Kick}
use Rattle.ifl_line.specs.Needs.{clusters_needed}

abbrev pub kick : Meaning
kick = meaning_of Kick

-- no ticket has a kick's tag
abbrev pub is_kick : Meaning → Bool
is_kick m = eqb m.tag kick_tag

-- the items of one sender
abbrev pub of_sender : ℕ → List Meaning → List Meaning
of_sender s [] = []
of_sender s (m ∷ ms) = cond (eqb (m.tag / 2 ^ 32) s) (m ∷ of_sender s ms) (of_sender s ms)

-- what the frame k of the sender s means as a packet
abbrev pub packet_of : ℕ → ℕ → ℕ → Frame → Meaning
packet_of seg_bytes s k f = record { tag = s * 2 ^ 32 + k; bytes = f.bytes; marks = marks_of f.stamp; weight = clusters_needed seg_bytes (length f.bytes) }
