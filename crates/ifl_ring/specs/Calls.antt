-- What the entries of a call say of its answer.
use Rattle.std.specs.Prelude.{◌≡◌, ◌≢◌, ℕ, ◌+◌, ◌≤◌, ◌⊎◌, Bool, true, false, cond, List, [], ◌∷◌, ◌++◌}
use Rattle.ifl_base.specs.declared.word.Flag.{Flag}
use Rattle.ifl_base.specs.declared.word.Flag.TheVariants.{Idle, Busy, Stalled, Abdicated}
use Rattle.ifl_base.specs.declared.word.RingWord.{RingWord}
use Rattle.ifl_base.specs.Space.{space}
use Rattle.ifl_base.specs.Word.{pack, IsWithin}
use Rattle.ifl_ringcore.specs.declared.history.Entry.{Entry}
use Rattle.ifl_ringcore.specs.declared.history.Meaning.{Meaning}
use Rattle.ifl_ringcore.specs.declared.history.Step.{Step}
use Rattle.ifl_ringcore.specs.declared.history.Step.TheVariants.{Look, Refuse, Reserve, Behind, Elected, Abdicating, Advance, LeaveIdle, LeaveAbdicated, Stall, TakeOver}
use Rattle.ifl_ring.specs.declared.answers.Enqueued.{Enqueued}
use Rattle.ifl_ring.specs.declared.answers.Enqueued.TheVariants as enqueued
use Rattle.ifl_ring.specs.declared.answers.Checked.{Checked}
use Rattle.ifl_ring.specs.declared.answers.Checked.TheVariants as checked

-- the number t, as 64 bits hold it: it stays at the largest
abbrev pub IsTotal : ℕ → ℕ → Type 0
IsTotal total t = (total ≡ t) ⊎ ((total ≡ 18446744073709551615) × (18446744073709551615 ≤ t))

-- the entry is of this step, which found this word
abbrev pub Finds : Step → RingWord → Entry → Type 0
Finds step w e = (e.event ≡ step) × (e.found ≡ pack w)

-- how many items a step releases
abbrev pub released_by : Step → ℕ
released_by Look = 0
released_by (Refuse n) = 0
released_by (Reserve n) = 0
released_by (Behind xs) = 0
released_by (Elected b xs) = 0
released_by (Abdicating xs) = 0
released_by (Advance n) = n
released_by (LeaveIdle n) = n
released_by (LeaveAbdicated n) = n
released_by (Stall n) = n
released_by (TakeOver b) = 0

abbrev pub released_in : List Entry → ℕ
released_in [] = 0
released_in (e ∷ es) = released_by e.event + released_in es

-- the step of a consumer that releases so many items and sets this flag
abbrev pub parting : Flag → ℕ → Step
parting Idle n = LeaveIdle n
parting Busy n = Advance n
parting Stalled n = Stall n
parting Abdicated n = LeaveAbdicated n

-- the steps are looks
abbrev pub AreLooks : List Entry → Type 0
AreLooks [] = Unit {0}
AreLooks (e ∷ es) = (e.event ≡ Look) × AreLooks es

-- the steps are looks, and advances of a consumer
abbrev pub AreOfDrain : List Entry → Type 0
AreOfDrain [] = Unit {0}
AreOfDrain (e ∷ es) = ((e.event ≡ Look) ⊎ ((n : ℕ) × (e.event ≡ Advance n))) × AreOfDrain es

-- the entries of a whole drain: the last one leaves this flag, and all together release so many items
pub record IsDrain (left : Flag) (total : ℕ) (es : List Entry) : Type 0 where
  pub going : List Entry
  pub last : Entry
  pub count : ℕ
  pub is : es ≡ going ++ last ∷ []
  pub goes : AreOfDrain going
  pub leaves : last.event ≡ parting left count
  pub over : left ≢ Busy
  pub total_is : IsTotal total (released_in es)

-- the steps that publish
abbrev pub publishes : Step → Bool
publishes Look = false
publishes (Refuse n) = false
publishes (Reserve n) = false
publishes (Behind xs) = true
publishes (Elected b xs) = true
publishes (Abdicating xs) = true
publishes (Advance n) = false
publishes (LeaveIdle n) = false
publishes (LeaveAbdicated n) = false
publishes (Stall n) = false
publishes (TakeOver b) = false

abbrev pub publishing : List Entry → List Step
publishing [] = []
publishing (e ∷ es) = cond (publishes e.event) (e.event ∷ publishing es) (publishing es)

-- a consumer left items, and no seat is about to publish
abbrev pub IsLeft : RingWord → Type 0
IsLeft w = ((w.flag ≡ Stalled) ⊎ (w.flag ≡ Abdicated)) × (w.tail ≡ w.head)

abbrev pub IsNotLeft : RingWord → Type 0
IsNotLeft w = ((w.flag ≢ Stalled) × (w.flag ≢ Abdicated)) ⊎ (w.tail ≢ w.head)

-- the entries of a look for items that were left, with this budget
abbrev pub IsChecked : ℕ → Checked → List Entry → Type 0
IsChecked budget (checked.NotNeeded seen) es = (e : Entry) × (es ≡ e ∷ []) × Finds Look seen e × IsNotLeft seen
IsChecked budget (checked.Lost seen) es = (w : RingWord) × (e : Entry) × (f : Entry) × (es ≡ e ∷ f ∷ []) × Finds Look w e × IsLeft w × Finds Look seen f × (seen ≢ w)
IsChecked budget (checked.Drained left total) es = (w : RingWord) × (e : Entry) × (f : Entry) × (drained : List Entry)
    × (es ≡ e ∷ f ∷ drained) × Finds Look w e × IsLeft w × Finds (TakeOver budget) w f × IsDrain left total drained

-- looks, and then n items were refused in this word
abbrev pub EndsRefused : ℕ → RingWord → List Entry → Type 0
EndsRefused n seen es = (before : List Entry) × (e : Entry) × (es ≡ before ++ e ∷ []) × AreLooks before × Finds (Refuse n) seen e

-- behind a refusal: a look for items that were left, with a budget of nothing, where the word said stalled
abbrev pub IsRelieved : RingWord → List Entry → Type 0
IsRelieved seen es = (seen.flag ≡ Stalled → (got : Checked) × IsChecked 0 got es) × (seen.flag ≢ Stalled → es ≡ [])

-- looks, a refusal of n items in this word, and what comes behind one
abbrev pub IsRefused : ℕ → RingWord → List Entry → Type 0
IsRefused n seen es = (before : List Entry) × (e : Entry) × (behind_it : List Entry) × (es ≡ before ++ e ∷ behind_it) × AreLooks before × Finds (Refuse n) seen e × IsRelieved seen behind_it

-- looks, and then n places were reserved
abbrev pub EndsReserved : ℕ → List Entry → Type 0
EndsReserved n es = (before : List Entry) × (e : Entry) × (es ≡ before ++ e ∷ []) × AreLooks before × (e.event ≡ Reserve n)

-- looks, the step that publishes, and what comes behind it
abbrev pub IsPublication : Step → List Entry → List Entry → Type 0
IsPublication step behind_it es = (before : List Entry) × (e : Entry) × (es ≡ before ++ e ∷ behind_it) × AreLooks before × (e.event ≡ step)

-- behind a reservation: items with these meanings were published, and where no consumer was there the seat drained
abbrev pub IsDelivery : ℕ → Bool → List Meaning → Enqueued → List Entry → Type 0
IsDelivery budget abdicate xs enqueued.Behind es = (abdicate ≡ false) × IsPublication (Behind xs) [] es
IsDelivery budget abdicate xs enqueued.Abdicated es = (abdicate ≡ true) × IsPublication (Abdicating xs) [] es
IsDelivery budget abdicate xs (enqueued.Drained left total) es = (abdicate ≡ false) × (drained : List Entry) × IsPublication (Elected budget xs) drained es × IsDrain left total drained
IsDelivery budget abdicate xs (enqueued.NoBuffers seen) es = ⊥

-- a reservation of n places, and the delivery behind it
abbrev pub IsSent : ℕ → ℕ → Bool → List Meaning → Enqueued → List Entry → Type 0
IsSent n budget abdicate xs got es = (first : List Entry) × (others : List Entry) × (es ≡ first ++ others) × EndsReserved n first × IsDelivery budget abdicate xs got others

-- the entries of the enqueueing of n items with these meanings, with this budget, in a ring of this size
abbrev pub IsEnqueued : ℕ → ℕ → Bool → ℕ → List Meaning → Enqueued → List Entry → Type 0
IsEnqueued size budget abdicate n xs enqueued.Behind es = (publishing es ≡ Behind xs ∷ []) × IsSent n budget abdicate xs enqueued.Behind es
IsEnqueued size budget abdicate n xs enqueued.Abdicated es = (publishing es ≡ Abdicating xs ∷ []) × IsSent n budget abdicate xs enqueued.Abdicated es
IsEnqueued size budget abdicate n xs (enqueued.Drained left total) es = (publishing es ≡ Elected budget xs ∷ []) × IsSent n budget abdicate xs (enqueued.Drained left total) es
IsEnqueued size budget abdicate n xs (enqueued.NoBuffers seen) es = (publishing es ≡ []) × IsRefused n seen es × (space size seen ≤ n) × IsWithin size seen

-- where the items are afterwards
abbrev pub AreHandedOver : {I : Type 0} → Enqueued → List I → List I → Type 0
AreHandedOver enqueued.Behind before after_it = after_it ≡ []
AreHandedOver enqueued.Abdicated before after_it = after_it ≡ []
AreHandedOver (enqueued.Drained left total) before after_it = after_it ≡ []
AreHandedOver (enqueued.NoBuffers seen) before after_it = after_it ≡ before

-- the items were handed over
abbrev pub IsDelivered : Enqueued → Type 0
IsDelivered enqueued.Behind = Unit {0}
IsDelivered enqueued.Abdicated = Unit {0}
IsDelivered (enqueued.Drained left total) = Unit {0}
IsDelivered (enqueued.NoBuffers seen) = ⊥
