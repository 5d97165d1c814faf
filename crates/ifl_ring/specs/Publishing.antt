-- The step by which a seat publishes.
use Rattle.std.specs.Prelude.{◌≡◌, ℕ, ◌%◌, ◌<◌, Bool, true, false, List, [], ◌∷◌, Some, None}
use Rattle.atomic_table.specs.Table.{Me}
use Rattle.ifl_base.specs.declared.word.Flag.{Flag}
use Rattle.ifl_base.specs.declared.word.RingWord.{RingWord}
use Rattle.ifl_ringcore.specs.declared.counters.Counters.{Counters}
use Rattle.ifl_ringcore.specs.declared.history.Entry.{Entry}
use Rattle.ifl_ringcore.specs.declared.history.Meaning.{Meaning}
use Rattle.ifl_ringcore.specs.declared.history.Step.{Step}
use Rattle.ifl_ringcore.specs.declared.history.Step.TheVariants as step
use Rattle.ifl_ringcore.specs.Counters.{nothing_counted, one_if, is_idle}
use Rattle.ifl_ringcore.specs.History.{state_after}
use Rattle.ifl_ringcore.specs.State.{first_state, reservation, role_of}
use Rattle.ifl_ring.specs.declared.place.Place.{Place}
use Rattle.ifl_ring.specs.declared.published.Published.{Published}
use Rattle.ifl_ring.specs.declared.published.Published.TheVariants.{Behind, Abdicated, Elected}
use Rattle.ifl_ring.specs.declared.view.Known.{Known}
use Rattle.ifl_ring.specs.declared.view.View.{View}
use Rattle.ifl_ring.specs.Acts.{out_all}
use Rattle.ifl_ring.specs.Calls.{Finds}
use Rattle.ifl_ring.specs.Seats.{Has}
use Rattle.ifl_ring.specs.Law.{Rests}
use Rattle.ifl_ring.specs.Draining.{Drives, IsFresh}
use Rattle.ifl_ring.specs.Tells.{nothing}
use Rattle.ifl_ring.specs.Trails.{Trails}

abbrev pub published_step : ℕ → List Meaning → Published → Step
published_step budget xs Behind = step.Behind xs
published_step budget xs Abdicated = step.Abdicating xs
published_step budget xs (Elected items) = step.Elected budget xs

-- what it counts, where it found this flag
abbrev pub published_rise : ℕ → Flag → Published → Counters
published_rise n found Behind = record nothing_counted { enqueues = n }
published_rise n found Abdicated = record nothing_counted { enqueues = n }
published_rise n found (Elected items) = record nothing_counted { enqueues = n; starts = one_if (is_idle found) }

-- a seat abdicates where it is asked to
abbrev pub IsAsAsked : Bool → Published → Type 0
IsAsAsked abdicate Behind = abdicate ≡ false
IsAsAsked abdicate Abdicated = abdicate ≡ true
IsAsAsked abdicate (Elected items) = abdicate ≡ false

-- the seat published n items with these meanings, in one step that found this word
pub record IsPublished (size budget n : ℕ) (abdicate : Bool) (xs : List Meaning) (w : RingWord) (v : Known) (p : Published) (v' : Known) : Type 0 where
  pub entry : Entry
  pub finds : Finds (published_step budget xs p) w entry
  pub asked : IsAsAsked abdicate p
  pub trail : Trails size v (entry ∷ []) (published_rise n w.flag p) v'

-- a seat with a reservation of n places from the place at on, which are empty
pub record HasPlaces {I D O : Type 0} (size n at : ℕ) (m : Me (Place I D) (View O)) : Type 0 where
  pub start : ℕ
  pub named : Has m.0.known.number m.0.known.stands
  pub still : m.0.told ≡ []
  pub role : role_of m.0.known.number (state_after first_state m.0.known.seen) ≡ (Some (reservation m.0.known.number start n), None)
  pub lies : m.1 ≡ out_all nothing size start n []
  pub here : at ≡ start % size

module _ {I D O : Type 0} (meaning : I → Meaning) (origin : D → O) (settled : D → Type 0) (stands_for : D → List Meaning → Type 0) where
  -- a seat that published is the consumer of so many items, or holds nothing
  abbrev pub IsConsumer : ℕ → ℕ → RingWord → Published → Me (Place I D) (View O) → Type 0
  IsConsumer size budget w Behind m = Rests m
  IsConsumer size budget w Abdicated m = Rests m
  IsConsumer size budget w (Elected items) m = (items < size) × ((v : Drives meaning origin settled stands_for size items w.cidx m) × IsFresh budget w.flag v.consumer)
