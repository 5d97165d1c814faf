-- The history of a pool of `size` clusters: its events, their counts, and when it is legal.
use Rattle.std.specs.Prelude.{◌≡◌, ℕ, ◌+◌, ◌-◌, ◌<◌, List, [], ◌∷◌, ◌++◌}
use Rattle.ifl_pool.specs.declared.history.Event.{Event}
use Rattle.ifl_pool.specs.declared.history.Event.TheVariants.{Take, Give, Empty}
use Rattle.ifl_pool.specs.declared.history.Entry.{Entry}
use Rattle.ifl_pool.specs.declared.history.Counts.{Counts}

-- an event of the pass with this number
abbrev pub entry_of : ℕ → Event → Entry
entry_of number event = record { pass = number; event = event }

-- no event yet
abbrev pub no_counts : Counts
no_counts = record { taken = 0; given = 0; empty = 0 }

-- one event more
abbrev pub counts_after : Event → Counts → Counts
counts_after Take c = record { taken = c.taken + 1; given = c.given; empty = c.empty }
counts_after Give c = record { taken = c.taken; given = c.given + 1; empty = c.empty }
counts_after Empty c = record { taken = c.taken; given = c.given; empty = c.empty + 1 }

-- the events of both
abbrev pub counts_sum : Counts → Counts → Counts
counts_sum c d = record { taken = c.taken + d.taken; given = c.given + d.given; empty = c.empty + d.empty }

-- the events of a history that follows on earlier ones
abbrev pub counts_from : Counts → List Entry → Counts
counts_from c [] = c
counts_from c (e ∷ es) = counts_from (counts_after e.event c) es

-- the events of a whole history
abbrev pub counts_of : List Entry → Counts
counts_of history = counts_from no_counts history

-- how many clusters a pool holds after these events
abbrev pub stock_of : ℕ → Counts → ℕ
stock_of size c = (size + c.given) - c.taken

-- a cluster is taken only where there is one and given only where one is out, and the pool is found empty where it is
abbrev pub IsLegalEvent : ℕ → ℕ → Event → Type 0
IsLegalEvent size stock Take = 0 < stock
IsLegalEvent size stock Give = stock < size
IsLegalEvent size stock Empty = stock ≡ 0

-- each event is legal where it stands, after earlier ones with these counts
abbrev pub IsLegalFrom : ℕ → Counts → List Entry → Type 0
IsLegalFrom size c [] = Unit {0}
IsLegalFrom size c (e ∷ es) = IsLegalEvent size (stock_of size c) e.event × IsLegalFrom size (counts_after e.event c) es

-- a whole history is legal
abbrev pub IsPoolHistory : ℕ → List Entry → Type 0
IsPoolHistory size history = IsLegalFrom size no_counts history

-- what was seen is the beginning of the history
abbrev pub IsPrefix : List Entry → List Entry → Type 0
IsPrefix seen history = (rest : List Entry) × (seen ++ rest ≡ history)
