-- What a seat's own steps on the ring published, and which words refused it.
use Rattle.std.specs.Prelude.{◌≡◌, ℕ, ◌+◌, ◌≤◌, ◌⊎◌, ◌&&◌, eqb, Bool, true, false, List, [], ◌∷◌, ◌++◌, Option, Some, None}
use Rattle.ifl_ringcore.specs.Counters.{one_if}
use Rattle.ifl_ringcore.specs.declared.history.Entry.{Entry}
use Rattle.ifl_ringcore.specs.declared.history.Meaning.{Meaning}
use Rattle.ifl_ringcore.specs.declared.history.Step.{Step}
use Rattle.ifl_ringcore.specs.declared.history.Step.TheVariants.{Look, Refuse, Reserve, Behind, Elected, Abdicating, Advance, LeaveIdle, LeaveAbdicated, Stall, TakeOver}
use Rattle.ifl_ring.specs.declared.view.Known.{Known}
use Rattle.ifl_base.specs.declared.word.RingWord.{RingWord}
use Rattle.ifl_base.specs.Space.{space}
use Rattle.ifl_base.specs.Word.{pack, IsWithin}
use Rattle.ifl_ring.specs.declared.answers.Enqueued.{Enqueued}
use Rattle.ifl_ring.specs.declared.answers.Enqueued.TheVariants as enqueued
use Rattle.ifl_ring.specs.Calls.{publishing}
use Rattle.ifl_ring.specs.Seats.{Begins, saw, events}
use Rattle.ifl_reset.specs.Quiet.{AreKicks}
use Rattle.ifl_txq.specs.Standing.{packets as packets_in, weight_of as weight_in}
use Rattle.ifl_line.specs.Meanings.{kick, is_kick}

-- the items that a step publishes
abbrev pub items_of : Step → List Meaning
items_of Look = []
items_of (Refuse n) = []
items_of (Reserve n) = []
items_of (Behind xs) = xs
items_of (Elected b xs) = xs
items_of (Abdicating xs) = xs
items_of (Advance n) = []
items_of (LeaveIdle n) = []
items_of (LeaveAbdicated n) = []
items_of (Stall n) = []
items_of (TakeOver b) = []

-- the packets that these entries published, in order
abbrev pub packets : List Entry → List Meaning
packets [] = []
packets (e ∷ es) = packets_in (items_of e.event) ++ packets es

-- the clusters that lie in what they published
abbrev pub weigh : List Entry → ℕ
weigh [] = 0
weigh (e ∷ es) = weight_in (items_of e.event) + weigh es

abbrev pub is_refusal : Step → Bool
is_refusal Look = false
is_refusal (Refuse n) = true
is_refusal (Reserve n) = false
is_refusal (Behind xs) = false
is_refusal (Elected b xs) = false
is_refusal (Abdicating xs) = false
is_refusal (Advance n) = false
is_refusal (LeaveIdle n) = false
is_refusal (LeaveAbdicated n) = false
is_refusal (Stall n) = false
is_refusal (TakeOver b) = false

-- how many of the entries are refusals that found this word
abbrev pub refusals : ℕ → List Entry → ℕ
refusals n [] = 0
refusals n (e ∷ es) = one_if (is_refusal e.event && eqb e.found n) + refusals n es

abbrev pub IsKick : List Meaning → Type 0
IsKick xs = xs ≡ kick ∷ []

abbrev pub IsOnePacket : List Meaning → Type 0
IsOnePacket xs = (m : Meaning) × (xs ≡ m ∷ []) × (is_kick m ≡ false)

-- a packet is published by abdicating exactly where that is asked, and else with this budget; a kick never abdicates, and has the budget 32
abbrev pub IsLawfulStep : ℕ → Bool → Step → Type 0
IsLawfulStep budget abdicate Look = Unit {0}
IsLawfulStep budget abdicate (Refuse n) = Unit {0}
IsLawfulStep budget abdicate (Reserve n) = Unit {0}
IsLawfulStep budget abdicate (Behind xs) = IsKick xs ⊎ ((abdicate ≡ false) × IsOnePacket xs)
IsLawfulStep budget abdicate (Elected b xs) = ((b ≡ 32) × IsKick xs) ⊎ ((b ≡ budget) × (abdicate ≡ false) × IsOnePacket xs)
IsLawfulStep budget abdicate (Abdicating xs) = (abdicate ≡ true) × IsOnePacket xs
IsLawfulStep budget abdicate (Advance n) = Unit {0}
IsLawfulStep budget abdicate (LeaveIdle n) = Unit {0}
IsLawfulStep budget abdicate (LeaveAbdicated n) = Unit {0}
IsLawfulStep budget abdicate (Stall n) = Unit {0}
IsLawfulStep budget abdicate (TakeOver b) = Unit {0}

abbrev pub AreLawful : ℕ → Bool → List Entry → Type 0
AreLawful budget abdicate [] = Unit {0}
AreLawful budget abdicate (e ∷ es) = IsLawfulStep budget abdicate e.event × AreLawful budget abdicate es

-- the seat made just these entries
pub record Stepped (v : Known) (es : List Entry) (w : Known) : Type 0 where
  pub is : w ≡ saw w.seen v
  pub begins : Begins w.seen v.seen
  pub made : events w ≡ events v ++ es

-- nothing but kicks was published
abbrev pub OnlyKicks : List Entry → Type 0
OnlyKicks es = AreKicks kick (publishing es)

-- these items alone were published, in one step
abbrev pub IsPublished : ℕ → Bool → List Meaning → List Entry → Type 0
IsPublished budget abdicate xs es =
    ((abdicate ≡ false) × (publishing es ≡ Behind xs ∷ []))
    ⊎ (((abdicate ≡ false) × (publishing es ≡ Elected budget xs ∷ []))
    ⊎ ((abdicate ≡ true) × (publishing es ≡ Abdicating xs ∷ [])))

-- the word in which items were refused
abbrev pub refusal_of : Enqueued → Option RingWord
refusal_of enqueued.Behind = None
refusal_of enqueued.Abdicated = None
refusal_of (enqueued.Drained left total) = None
refusal_of (enqueued.NoBuffers seen) = Some seen

-- nothing was published, and this word of the ring had no room
abbrev pub IsTurnedAway : ℕ → RingWord → List Entry → Type 0
IsTurnedAway size seen es = (publishing es ≡ []) × (1 ≤ refusals (pack seen) es) × (space size seen ≤ 1) × IsWithin size seen

-- one item of these meanings was published, or refused in a word
abbrev pub IsOffered : ℕ → ℕ → Bool → List Meaning → Option RingWord → List Entry → Type 0
IsOffered size budget abdicate xs None es = IsPublished budget abdicate xs es
IsOffered size budget abdicate xs (Some seen) es = IsTurnedAway size seen es
