-- What a seat does in several steps.
use Rattle.std.specs.Prelude.{◌≡◌, ℕ, List, [], ◌∷◌, ◌++◌}
use Rattle.ifl_base.specs.declared.word.Flag.{Flag}
use Rattle.ifl_ringcore.specs.declared.counters.Counters.{Counters}
use Rattle.ifl_ringcore.specs.declared.history.Entry.{Entry}
use Rattle.ifl_ringcore.specs.History.{state_after, IsLegalHistory}
use Rattle.ifl_ringcore.specs.Invariant.{RingInvariant}
use Rattle.ifl_ringcore.specs.State.{first_state}
use Rattle.ifl_ring.specs.declared.view.Known.{Known}
use Rattle.ifl_ring.specs.Calls.{AreLooks, parting}
use Rattle.ifl_ring.specs.Seats.{IsWholeAmong, Went}
use Rattle.ifl_ring.specs.Tally.{Counts}

-- the seat has seen a legal history, and with all parts it stands for all numbers in it
abbrev pub IsLived : ℕ → Known → Type 0
IsLived size v = IsLegalHistory size first_state v.seen × RingInvariant size (state_after first_state v.seen) × IsWholeAmong v v.seen

-- the seat made just these entries, which count so much
abbrev pub Trails : ℕ → Known → List Entry → Counters → Known → Type 0
Trails size v es x w = Went size v es w × Counts x v w

-- looks, and then the step by which a consumer releases n items and sets a flag
pub record IsRelease (flag : Flag) (n : ℕ) (es : List Entry) : Type 0 where
  pub looks : List Entry
  pub last : Entry
  pub is : es ≡ looks ++ last ∷ []
  pub quiet : AreLooks looks
  pub parts : last.event ≡ parting flag n
