use Rattle.std.proofs.Common.{◌≡◌, ◌+◌, ◌-◌, ◌<◌, ◌≤◌, ◌⊎◌, ℕ, ◌++◌, length, take, drop, false, slice_index_or}
use Rattle.std.specs.Mem.Slots.{slots_items, slots_filled, slots_len}
use Rattle.std.specs.VecDeque.{deque_capacity}
use Rattle.ifl_ring.specs.Closed.{items_lying}
use Rattle.ifl_ring.proofs.bare.closing.sweep.Given as goal

abbrev pub invariant-loop-k : goal.invariant-loop-k
invariant-loop-k g l = (l.left.items ≡ l.initial.left.items ++ items_lying (take (l.k - l.from) (drop l.from (slots_items l.initial.closed.slots))))
    × (length l.left.items ≤ length l.initial.left.items + (l.k - l.from))
    × (deque_capacity l.left ≡ deque_capacity l.initial.left)
    × ((j : ℕ) → l.from ≤ j → j < l.k → slice_index_or (slots_filled l.closed.slots) j false ≡ false)
    × ((j : ℕ) → (j < l.from) ⊎ (l.k ≤ j) → slice_index_or (slots_filled l.closed.slots) j false ≡ slice_index_or (slots_filled l.initial.closed.slots) j false)
    × (slots_items l.closed.slots ≡ slots_items l.initial.closed.slots) × (slots_len l.closed.slots ≡ slots_len l.initial.closed.slots) × (l.closed.words ≡ l.initial.closed.words)
