-- Histories of a ring: which are legal, and what state they lead to.
use Rattle.std.specs.Prelude.{◌≡◌, ◌<◌, ℕ, cond, eqb, List, [], ◌∷◌}
use Rattle.ifl_base.specs.Word.{pack}
use Rattle.ifl_ringcore.specs.declared.history.Entry.{Entry}
use Rattle.ifl_ringcore.specs.State.{RingState, ring_word}
use Rattle.ifl_ringcore.specs.Conditions.{IsAllowed}
use Rattle.ifl_ringcore.specs.Effects.{effect}

-- the state after a history
abbrev pub state_after : RingState → List Entry → RingState
state_after st [] = st
state_after st (e ∷ es) = state_after (effect st e.seat e.event) es

-- each step found the word as it was, and might come there
abbrev pub IsLegalHistory : ℕ → RingState → List Entry → Type 0
IsLegalHistory size st [] = Unit {0}
IsLegalHistory size st (e ∷ es) = (e.found ≡ pack (ring_word size st)) × IsAllowed size st e.seat e.event × IsLegalHistory size (effect st e.seat e.event) es

-- each step is one of a seat whose number is below this
abbrev pub AreSeatsBelow : ℕ → List Entry → Type 0
AreSeatsBelow seats [] = Unit {0}
AreSeatsBelow seats (e ∷ es) = (e.seat < seats) × AreSeatsBelow seats es

-- the entries of one seat
abbrev pub own : ℕ → List Entry → List Entry
own seat [] = []
own seat (e ∷ es) = cond (eqb e.seat seat) (e ∷ own seat es) (own seat es)
