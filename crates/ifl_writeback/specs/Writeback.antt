-- What the two words of a writeback ring show of its history.
use Rattle.std.specs.Prelude.{◌≡◌, ℕ, ◌%◌, List, length, slice_index}
use Rattle.ifl_desc.specs.declared.history.Side.TheVariants.{Driver, Device}
use Rattle.ifl_desc.specs.declared.history.Event.{Event}
use Rattle.ifl_desc.specs.History.{sent}
use Rattle.ifl_desc.specs.Rule.{RingState, Tied}

-- the doorbell is what was rung, and the head what was returned, modulo the size
pub record WordTie (S : ℕ) (words : List ℕ) (h : List Event) : Type 0 where
  pub count : length words ≡ 2
  pub bell : slice_index words 0 ≡ length (sent Driver h) % S
  pub head : slice_index words 1 ≡ length (sent Device h) % S

-- the rule of a ring of size S
abbrev pub Holds : ℕ → RingState → Type 0
Holds S = Tied S (WordTie S)
