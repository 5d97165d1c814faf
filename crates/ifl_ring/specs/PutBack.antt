-- A batch goes back into its slots, item by item.
use Rattle.std.specs.Prelude.{◌≡◌, ℕ, ◌+◌, ◌%◌, ◌≤◌, List, [], ◌++◌, length, take, drop}
use Rattle.ifl_ring.specs.declared.place.Place.{Place}
use Rattle.ifl_ring.specs.Acts.{out_all, laid}
use Rattle.ifl_ring.specs.Tells.{nothing}

pub record IsBack {I D : Type 0} (size a : ℕ) (c : List (ℕ × Place I D)) (all left : List I) (at : ℕ) (out : List (ℕ × Place I D)) : Type 0 where
  pub k : ℕ
  pub few : k ≤ length all
  pub rest : left ≡ drop k all
  pub here : at ≡ (a + k) % size
  pub is : out ≡ out_all nothing size (a + k) (length left) (c ++ laid size a (take k all) [])
