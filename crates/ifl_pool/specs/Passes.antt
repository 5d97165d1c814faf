-- What a pass knows, and what each call changes of it.
use Rattle.std.specs.Prelude.{◌≡◌, ℕ, ◌+◌, ◌-◌, ◌/◌, ◌<◌, ◌≤◌, Bool, true, false, if◌then◌else◌, ◌==◌, IsTrue, List, [], ◌∷◌, ◌++◌}
use Rattle.ifl_base.specs.declared.limits.TheConstants.{PART}
use Rattle.ifl_pool.specs.declared.history.Event.{Event}
use Rattle.ifl_pool.specs.declared.history.Entry.{Entry}
use Rattle.ifl_pool.specs.declared.history.Counts.{Counts}
use Rattle.ifl_pool.specs.declared.known.Known.{Known}
use Rattle.ifl_pool.specs.History.{entry_of, no_counts, counts_after, counts_sum, counts_of, IsPoolHistory, IsPrefix}

-- whether the number is one of these
abbrev pub is_one_of : List ℕ → ℕ → Bool
is_one_of [] k = false
is_one_of (x ∷ xs) k = if x == k then true else is_one_of xs k

-- each entry bears one of these numbers
abbrev pub AllBear : List ℕ → List Entry → Type 0
AllBear numbers [] = Unit {0}
AllBear numbers (e ∷ es) = IsTrue (is_one_of numbers e.pass) × AllBear numbers es

-- no entry bears one of these numbers
abbrev pub NoneBears : List ℕ → List Entry → Type 0
NoneBears numbers [] = Unit {0}
NoneBears numbers (e ∷ es) = (is_one_of numbers e.pass ≡ false) × NoneBears numbers es

-- the events that bear one of these numbers, in a history that follows on earlier ones
abbrev pub own_counts_from : Counts → List ℕ → List Entry → Counts
own_counts_from c numbers [] = c
own_counts_from c numbers (e ∷ es) = own_counts_from (if is_one_of numbers e.pass then counts_after e.event c else c) numbers es

-- the events of a whole history that bear one of these numbers
abbrev pub own_counts : List ℕ → List Entry → Counts
own_counts numbers history = own_counts_from no_counts numbers history

-- what holds of each pass between calls: it has counted its own events, and the whole pass stands for all numbers and
-- has counted all events
pub record IsPass (size : ℕ) (k : Known) : Type 0 where
  pub alive : 0 < k.part
  pub fits : k.part ≤ PART
  pub named : IsTrue (is_one_of k.numbers k.number)
  pub legal : IsPoolHistory size k.seen
  pub counts : own_counts k.numbers k.seen ≡ k.counts
  pub whole : k.part ≡ PART → counts_of k.seen ≡ k.counts
  pub stands : k.part ≡ PART → AllBear k.numbers k.seen

-- a new pass has seen nothing and done nothing
abbrev pub new_known : ℕ → ℕ → Known
new_known number part = record { number = number; part = part; numbers = number ∷ []; seen = []; counts = no_counts }

-- the number is none of the pass's, and no entry that the pass has seen bears it
abbrev pub IsNewTo : Known → ℕ → Type 0
IsNewTo k number = (is_one_of k.numbers number ≡ false) × NoneBears (number ∷ []) k.seen

-- it has seen this history
abbrev pub known_after_look : List Entry → Known → Known
known_after_look seen k = record k { seen = seen }

-- it has seen this history, in which its next event stands last
abbrev pub known_after_event : List Entry → Event → Known → Known
known_after_event seen event k = record k { seen = seen; counts = counts_after event k.counts }

-- it has given away half of its part, rounded down
abbrev pub known_after_split : Known → Known
known_after_split k = record k { part = k.part - k.part / 2 }

-- it stands for the numbers of both
abbrev pub known_after_join : Known → Known → Known
known_after_join k l = record k { part = k.part + l.part; numbers = k.numbers ++ l.numbers; counts = counts_sum k.counts l.counts }

-- the pass made this one event, behind some of others
abbrev pub Did : Event → Known → Known → Type 0
Did event old new = (between : List Entry) × (new ≡ known_after_event ((old.seen ++ between) ++ entry_of old.number event ∷ []) event old)

-- the pass has seen more, and did nothing
abbrev pub OnlySaw : Known → Known → Type 0
OnlySaw old new = (new ≡ known_after_look new.seen old) × IsPrefix old.seen new.seen

-- two passes are one, which has seen what both had
abbrev pub Joined : Known → Known → Known → Type 0
Joined old other new = (new ≡ known_after_look new.seen (known_after_join old other)) × IsPrefix old.seen new.seen × IsPrefix other.seen new.seen

-- as many clusters are out with the pass as before, and its part is the same
abbrev pub OwesTheSame : Known → Known → Type 0
OwesTheSame old new = (new.part ≡ old.part) × (new.counts.taken + old.counts.given ≡ old.counts.taken + new.counts.given)
