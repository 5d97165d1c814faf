-- What contracts know of a seat, and what a call does to it.
use Rattle.std.specs.Prelude.{◌≡◌, ◌⊎◌, ◌-◌, ◌/◌, ◌+◌, ◌≤◌, ℕ, Bool, true, false, eqb, ◌||◌, cond, List, [], ◌∷◌, ◌++◌}
use Rattle.ifl_base.specs.declared.limits.TheConstants.{PART}
use Rattle.ifl_base.specs.declared.word.RingWord.{RingWord}
use Rattle.ifl_base.specs.Word.{pack}
use Rattle.ifl_ringcore.specs.declared.history.Entry.{Entry}
use Rattle.ifl_ringcore.specs.declared.history.Step.{Step}
use Rattle.ifl_ringcore.specs.declared.history.Step.TheVariants.{Look}
use Rattle.ifl_ringcore.specs.State.{role_of, free, first_state, ring_word}
use Rattle.ifl_ringcore.specs.History.{state_after, IsLegalHistory, own}
use Rattle.ifl_ringcore.specs.Invariant.{RingInvariant}
use Rattle.ifl_ring.specs.declared.view.Known.{Known}

-- the number is one of these
abbrev pub has : ℕ → List ℕ → Bool
has k [] = false
has k (x ∷ xs) = eqb x k || has k xs

-- the same, as a fact
abbrev pub Has : ℕ → List ℕ → Type 0
Has k xs = has k xs ≡ true

-- each entry bears one of these numbers
abbrev pub AreAmong : List ℕ → List Entry → Type 0
AreAmong stands [] = Unit {0}
AreAmong stands (e ∷ es) = Has e.seat stands × AreAmong stands es

-- each entry bears this number
abbrev pub AreOf : ℕ → List Entry → Type 0
AreOf number [] = Unit {0}
AreOf number (e ∷ es) = (e.seat ≡ number) × AreOf number es

-- a seat with all parts stands for the numbers of all entries
abbrev pub IsWholeAmong : Known → List Entry → Type 0
IsWholeAmong v es = v.part ≡ PART → AreAmong v.stands es

-- the history begins so
abbrev pub Begins : List Entry → List Entry → Type 0
Begins log seen = (rest : List Entry) × (seen ++ rest ≡ log)

-- a history that was seen has all entries of the numbers that stand with it
abbrev pub Complete : List Entry → List ℕ → List Entry → Type 0
Complete log stands seen = (k : ℕ) → Has k stands → own k log ≡ own k seen

-- no number is in both
abbrev pub AreDisjoint : List ℕ → List ℕ → Type 0
AreDisjoint xs ys = (k : ℕ) → Has k xs → Has k ys → ⊥

-- the seat has seen this history
abbrev pub saw : List Entry → Known → Known
saw log v = record v { seen = log }

-- the seat with which a ring is made
abbrev pub first_known : Known
first_known = record { number = 0; part = PART; stands = 0 ∷ []; seen = [] }

-- half of a part, rounded down
abbrev pub half : ℕ → ℕ
half n = n / 2

-- a seat that has given half of its part away
abbrev pub left_known : Known → Known
left_known v = record v { part = v.part - half v.part }

-- the seat that gets it, which has no number yet
abbrev pub right_known : Known → Known
right_known v = record { number = 0; part = half v.part; stands = []; seen = v.seen }

-- a seat that has the parts and numbers of both
abbrev pub joined_known : Known → Known → Known
joined_known v w = record v { part = v.part + w.part; stands = v.stands ++ w.stands }

-- one step of a seat: the word that it found, and what it did
abbrev pub entry : ℕ → ℕ → Step → Entry
entry k n e = record { seat = k; found = n; event = e }

-- the seat saw all that came between, and then made this event
pub record Made (size : ℕ) (v : Known) (e : Entry) (w : Known) : Type 0 where
  pub between : List Entry
  pub mine : e.seat ≡ v.number
  pub is : w ≡ saw ((v.seen ++ between) ++ e ∷ []) v
  pub found : e.found ≡ pack (ring_word size (state_after first_state (v.seen ++ between)))
  pub apart : (k : ℕ) → Has k v.stands → own k (v.seen ++ between) ≡ own k v.seen
  pub whole : IsWholeAmong v (v.seen ++ between)
  pub role : role_of v.number (state_after first_state (v.seen ++ between)) ≡ role_of v.number (state_after first_state v.seen)
  pub legal : IsLegalHistory size first_state w.seen
  pub good : RingInvariant size (state_after first_state w.seen)

-- the word as the seat saw it last
abbrev pub last_word : ℕ → Known → RingWord
last_word size v = ring_word size (state_after first_state v.seen)

-- the seat looked, and this is the word that it found
abbrev pub Sees : ℕ → Known → RingWord → Known → Type 0
Sees size v w after_it = Made size v (entry v.number (pack w) Look) after_it × (w ≡ last_word size after_it)

-- a new seat got its number, and has seen what came between
pub record Names (size : ℕ) (v w : Known) : Type 0 where
  pub between : List Entry
  pub seen : w.seen ≡ v.seen ++ between
  pub part : w.part ≡ v.part
  pub stands : w.stands ≡ w.number ∷ []
  pub silent : own w.number w.seen ≡ []
  pub role : role_of w.number (state_after first_state w.seen) ≡ free
  pub legal : IsLegalHistory size first_state w.seen
  pub good : RingInvariant size (state_after first_state w.seen)

-- one seat stands for the numbers of both, and both histories begin what it has seen; with all parts it stands for all
pub record Joined (size : ℕ) (v w x : Known) : Type 0 where
  pub is : x ≡ saw x.seen (joined_known v w)
  pub first : Begins x.seen v.seen
  pub first_whole : Complete x.seen v.stands v.seen
  pub second : Begins x.seen w.seen
  pub second_whole : Complete x.seen w.stands w.seen
  pub apart : AreDisjoint v.stands w.stands
  pub within : x.part ≤ PART
  pub whole : IsWholeAmong x x.seen
  pub legal : IsLegalHistory size first_state x.seen
  pub good : RingInvariant size (state_after first_state x.seen)

-- the entries of these seats
abbrev pub of_all : List ℕ → List Entry → List Entry
of_all stands [] = []
of_all stands (e ∷ es) = cond (has e.seat stands) (e ∷ of_all stands es) (of_all stands es)

-- the own events of a seat
abbrev pub events : Known → List Entry
events v = of_all v.stands v.seen

-- what a call does to a seat: it has seen more, and made just these events, which bear its own number; with all parts it
-- stands for the numbers of all that it has seen
pub record Went (size : ℕ) (v : Known) (es : List Entry) (w : Known) : Type 0 where
  pub is : w ≡ saw w.seen v
  pub begins : Begins w.seen v.seen
  pub made : events w ≡ events v ++ es
  pub mine : AreOf v.number es
  pub whole : IsWholeAmong w w.seen
  pub legal : IsLegalHistory size first_state w.seen
  pub good : RingInvariant size (state_after first_state w.seen)

-- the seat is as it was, or has made some events
abbrev pub Moved : ℕ → Known → Known → Type 0
Moved size v w = (v ≡ w) ⊎ ((es : List Entry) × Went size v es w)
