-- What contracts see of a turnstile and of its seats.
use Rattle.std.specs.Prelude.{◌≡◌, ℕ, ◌<◌, Bool, true, false, List, [], ◌∷◌, Option, None}
use Rattle.atomic_table.specs.Table.{Me}
use Rattle.atomic_table.specs.Seated.{TableId}
use Rattle.ifl_desc.specs.declared.turns.TurnView.{TurnView}

-- which turnstile it is, and with what its value was made
pub record TurnstileId (O : Type 0) : Type 0 where
  pub table : TableId
  pub origin : Option O

-- whose seat it is, its part, whether it has the turn, how many of its exchanges took the turn and how many found it taken, and the values that it took and gave back last
pub record TurnState (E O : Type 0) : Type 0 where
  pub turnstile : TurnstileId O
  pub part : ℕ
  pub held : Bool
  pub turns : ℕ
  pub looks : ℕ
  pub found : Option E
  pub left : Option E

-- the slot is out, and empty, exactly with the seat that has the turn
abbrev pub slots_of : {E : Type 0} → Bool → List (ℕ × Option E)
slots_of true = (0, None) ∷ []
slots_of false = []

-- what every seat keeps
pub record IsTurnSeat {E O : Type 0} (me : Me (Option E) (TurnView E O)) : Type 0 where
  pub part : 0 < me.0.part
  pub slots : me.1 ≡ slots_of me.0.holds
