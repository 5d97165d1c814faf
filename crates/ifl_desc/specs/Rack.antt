-- How an end holds its slots: those of the entries that it placed, then empty ones, then those of the entries that it may take.
use Rattle.std.specs.Prelude.{◌≡◌, ℕ, zero, suc, ◌+◌, ◌-◌, ◌%◌, ◌<◌, ◌≤◌, List, ◌++◌, length, take, drop, map, replicate, Some, None}
use Rattle.atomic_table.specs.declared.shared.Seat.{Seat}
use Rattle.atomic_table.specs.Table.{turned}
use Rattle.ifl_desc.specs.declared.desc.Desc.{Desc}
use Rattle.ifl_desc.specs.declared.history.Side.{Side}
use Rattle.ifl_desc.specs.declared.history.Event.{Event}
use Rattle.ifl_desc.specs.declared.history.View.{View}
use Rattle.ifl_desc.specs.declared.rack.Rack.{Rack}
use Rattle.ifl_desc.specs.History.{other, sent, known}
use Rattle.ifl_desc.specs.Rule.{Slot, laid, view, InOrder}
use Rattle.ifl_desc.specs.Plays.{valued}

abbrev pub spin : {X : Type 0} → ℕ → List (ℕ × X) → List (ℕ × X)
spin zero c = c
spin (suc n) c = turned (spin n c)

-- the history that a seat has seen
abbrev pub seen_at : Seat Slot View → List Event
seen_at s = s.me.0.seen

abbrev pub seen_of : Rack → List Event
seen_of h = h.seat.me.0.seen

abbrev pub placed : Rack → List Desc
placed h = valued (take h.put h.seat.me.1)

abbrev pub taken : Side → Rack → ℕ
taken r h = known r (seen_of h) - h.left

-- the entries that may be taken
abbrev pub ahead : Side → List Event → ℕ → List Desc
ahead r seen left = drop (known r seen - left) (take (known r seen) (sent (other r) seen))

abbrev pub row : List Desc → ℕ → List Desc → List Slot
row p n q = map Some p ++ (replicate n None ++ map Some q)

pub record IsRack (r : Side) (h : Rack) : Type 0 where
  pub role : h.seat.me.0 ≡ view r (seen_of h)
  pub size : h.seat.table_id.slots ≡ h.size
  pub some : 0 < h.size
  pub small : h.size ≤ 32768
  pub rack : h.seat.me.1 ≡ laid h.size (length (sent r (seen_of h))) (row (placed h) h.bare (ahead r (seen_of h) h.left))
  pub many : length (placed h) ≡ h.put
  pub first : h.first ≡ length (sent r (seen_of h)) % h.size
  pub left : h.left ≤ known r (seen_of h)
  pub order : InOrder h.size (seen_of h)
  pub fits : (h.put + h.bare) + h.left ≤ h.size

abbrev pub SameSeat : Seat Slot View → Seat Slot View → Type 0
SameSeat a b = (b.table_id ≡ a.table_id) × (b.id ≡ a.id) × (b.me.0 ≡ a.me.0)
