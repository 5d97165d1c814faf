-- What a seat's steps published, call by call.
use Rattle.std.proofs.Common.{Bool, true, false, ◌≡◌, ℕ, ◌+◌, ◌≤◌, eqb, List, [], ◌∷◌, ◌++◌, append_assoc, append-nil, sym, refl, ap, ◌∙◌, subst, inl, inr, ◌⊎◌, ⊎_elim, arith, eq-eqb}
use Rattle.std.specs.Prelude.{◌&&◌, Option, Some, None}
use Rattle.ifl_base.specs.declared.word.RingWord.{RingWord}
use Rattle.ifl_base.specs.Word.{pack}
use Rattle.ifl_ringcore.specs.Counters.{one_if}
use Rattle.ifl_ringcore.specs.declared.history.Entry.{Entry}
use Rattle.ifl_ringcore.specs.declared.history.Meaning.{Meaning}
use Rattle.ifl_ringcore.specs.declared.history.Step.{Step}
use Rattle.ifl_ringcore.specs.declared.history.Step.TheVariants.{Look, Refuse, Reserve, Behind, Elected, Abdicating, Advance, LeaveIdle, LeaveAbdicated, Stall, TakeOver}
use Rattle.ifl_ring.specs.declared.answers.Enqueued.{Enqueued}
use Rattle.ifl_ring.specs.declared.answers.Enqueued.TheVariants as enqueued
use Rattle.ifl_ring.specs.declared.view.Known.{Known}
use Rattle.ifl_ring.specs.Calls.{publishes, publishing, IsEnqueued, IsRefused}
use Rattle.ifl_ring.specs.Seats.{saw, events, Went}
use Rattle.ifl_reset.specs.Quiet.{AreKicks}
use Rattle.ifl_txq.specs.Standing.{packets as packets_in, weight_of as weight_in}
use Rattle.ifl_line.specs.Meanings.{kick, is_kick}
use Rattle.ifl_line.specs.Steps.{items_of, packets, weigh, is_refusal, refusals, IsLawfulStep, AreLawful, Stepped, OnlyKicks, IsPublished, IsTurnedAway, IsOffered, refusal_of}
use Rattle.ifl_line.proofs.Merging.{bool_cases}

-- ---- lists of steps

pub publishing-append : (es fs : List Entry) → publishing (es ++ fs) ≡ publishing es ++ publishing fs
publishing-append [] fs = refl
publishing-append (e ∷ es) fs = ⊎_elim (λ (t : publishes e.event ≡ true). rw t (ap (λ (z : List Step). e.event ∷ z) (publishing-append es fs)))
    (λ (f : publishes e.event ≡ false). rw f (publishing-append es fs)) (bool_cases (publishes e.event))

-- behind entries that publish nothing
pub publishing-behind : (es fs : List Entry) → publishing es ≡ [] → publishing (es ++ fs) ≡ publishing fs
publishing-behind es fs none = publishing-append es fs ∙ ap (λ (z : List Step). z ++ publishing fs) none

pub quiet-more : (es fs : List Entry) → publishing es ≡ [] → publishing fs ≡ [] → publishing (es ++ fs) ≡ []
quiet-more es fs p q = publishing-behind es fs p ∙ q

pub kicks-append : (ss ts : List Step) → AreKicks kick ss → AreKicks kick ts → AreKicks kick (ss ++ ts)
kicks-append [] ts p q = q
kicks-append (s ∷ ss) ts (is, p) q = (is, kicks-append ss ts p q)

pub kicks-more : (es fs : List Entry) → OnlyKicks es → OnlyKicks fs → OnlyKicks (es ++ fs)
kicks-more es fs p q = subst (AreKicks kick) (sym (publishing-append es fs)) (kicks-append (publishing es) (publishing fs) p q)

pub kicks-quiet : (es : List Entry) → publishing es ≡ [] → OnlyKicks es
kicks-quiet es none = subst (AreKicks kick) (sym none) tt

pub silent_kicks : (es : List Entry) → es ≡ [] → OnlyKicks es
silent_kicks es none = kicks-quiet es (ap publishing none)

-- ---- what steps publish

quiet_items : (s : Step) → publishes s ≡ false → items_of s ≡ []
quiet_items Look q = refl
quiet_items (Refuse n) q = refl
quiet_items (Reserve n) q = refl
quiet_items (Behind xs) q = absurd (cc)
quiet_items (Elected b xs) q = absurd (cc)
quiet_items (Abdicating xs) q = absurd (cc)
quiet_items (Advance n) q = refl
quiet_items (LeaveIdle n) q = refl
quiet_items (LeaveAbdicated n) q = refl
quiet_items (Stall n) q = refl
quiet_items (TakeOver b) q = refl

quiet_lawful : (budget : ℕ) (abdicate : Bool) (s : Step) → publishes s ≡ false → IsLawfulStep budget abdicate s
quiet_lawful budget abdicate Look q = tt
quiet_lawful budget abdicate (Refuse n) q = tt
quiet_lawful budget abdicate (Reserve n) q = tt
quiet_lawful budget abdicate (Behind xs) q = absurd (cc)
quiet_lawful budget abdicate (Elected b xs) q = absurd (cc)
quiet_lawful budget abdicate (Abdicating xs) q = absurd (cc)
quiet_lawful budget abdicate (Advance n) q = tt
quiet_lawful budget abdicate (LeaveIdle n) q = tt
quiet_lawful budget abdicate (LeaveAbdicated n) q = tt
quiet_lawful budget abdicate (Stall n) q = tt
quiet_lawful budget abdicate (TakeOver b) q = tt

abbrev packets_by : List Step → List Meaning
packets_by [] = []
packets_by (s ∷ ss) = packets_in (items_of s) ++ packets_by ss

abbrev weight_by : List Step → ℕ
weight_by [] = 0
weight_by (s ∷ ss) = weight_in (items_of s) + weight_by ss

abbrev AreLawfulSteps : ℕ → Bool → List Step → Type 0
AreLawfulSteps budget abdicate [] = Unit {0}
AreLawfulSteps budget abdicate (s ∷ ss) = IsLawfulStep budget abdicate s × AreLawfulSteps budget abdicate ss

packets-published : (es : List Entry) → packets es ≡ packets_by (publishing es)
packets-published [] = refl
packets-published (e ∷ es) = ⊎_elim (λ (t : publishes e.event ≡ true). rw t (ap (λ (z : List Meaning). packets_in (items_of e.event) ++ z) (packets-published es)))
    (λ (f : publishes e.event ≡ false). rw f (ap (λ (z : List Meaning). packets_in z ++ packets es) (quiet_items e.event f) ∙ packets-published es)) (bool_cases (publishes e.event))

weigh-published : (es : List Entry) → weigh es ≡ weight_by (publishing es)
weigh-published [] = refl
weigh-published (e ∷ es) = ⊎_elim (λ (t : publishes e.event ≡ true). rw t (ap (λ (z : ℕ). weight_in (items_of e.event) + z) (weigh-published es)))
    (λ (f : publishes e.event ≡ false). rw f (let a : weight_in (items_of e.event) ≡ 0 = ap weight_in (quiet_items e.event f) in let b = weigh-published es in omega arith)) (bool_cases (publishes e.event))

lawful-published : (budget : ℕ) (abdicate : Bool) (es : List Entry) → AreLawfulSteps budget abdicate (publishing es) → AreLawful budget abdicate es
lawful-published budget abdicate [] p = tt
lawful-published budget abdicate (e ∷ es) p = ⊎_elim
    (λ (t : publishes e.event ≡ true). let q : AreLawfulSteps budget abdicate (e.event ∷ publishing es) = rw t at p in (q.0, lawful-published budget abdicate es q.1))
    (λ (f : publishes e.event ≡ false). let q : AreLawfulSteps budget abdicate (publishing es) = rw f at p in (quiet_lawful budget abdicate e.event f, lawful-published budget abdicate es q))
    (bool_cases (publishes e.event))

-- a kick is no packet and weighs nothing
kick_items : (s : Step) → (s ≡ Behind (kick ∷ [])) ⊎ (s ≡ Elected 32 (kick ∷ [])) → items_of s ≡ kick ∷ []
kick_items s (inl e) = ap items_of e
kick_items s (inr e) = ap items_of e

kick_lawful : (budget : ℕ) (abdicate : Bool) (s : Step) → (s ≡ Behind (kick ∷ [])) ⊎ (s ≡ Elected 32 (kick ∷ [])) → IsLawfulStep budget abdicate s
kick_lawful budget abdicate s (inl e) = subst (IsLawfulStep budget abdicate) (sym e) (inl refl)
kick_lawful budget abdicate s (inr e) = subst (IsLawfulStep budget abdicate) (sym e) (inl (refl, refl))

kicks_packets : (ss : List Step) → AreKicks kick ss → packets_by ss ≡ []
kicks_packets [] p = refl
kicks_packets (s ∷ ss) (is, p) = ap (λ (z : List Meaning). packets_in z ++ packets_by ss) (kick_items s is) ∙ kicks_packets ss p

kicks_weight : (ss : List Step) → AreKicks kick ss → weight_by ss ≡ 0
kicks_weight [] p = refl
kicks_weight (s ∷ ss) (is, p) = let a : weight_in (items_of s) ≡ 0 = ap weight_in (kick_items s is) in let b = kicks_weight ss p in omega arith

kicks_lawful : (budget : ℕ) (abdicate : Bool) (ss : List Step) → AreKicks kick ss → AreLawfulSteps budget abdicate ss
kicks_lawful budget abdicate [] p = tt
kicks_lawful budget abdicate (s ∷ ss) (is, p) = (kick_lawful budget abdicate s is, kicks_lawful budget abdicate ss p)

-- what kicks alone come to
pub kicks-packets : (es : List Entry) → OnlyKicks es → packets es ≡ []
kicks-packets es p = packets-published es ∙ kicks_packets (publishing es) p

pub kicks-weigh : (es : List Entry) → OnlyKicks es → weigh es ≡ 0
kicks-weigh es p = weigh-published es ∙ kicks_weight (publishing es) p

pub kicks-lawful : (budget : ℕ) (abdicate : Bool) (es : List Entry) → OnlyKicks es → AreLawful budget abdicate es
kicks-lawful budget abdicate es p = lawful-published budget abdicate es (kicks_lawful budget abdicate (publishing es) p)

-- what one packet comes to
one_packet : (m : Meaning) → is_kick m ≡ false → packets_in (m ∷ []) ++ [] ≡ m ∷ []
one_packet m is = rw is refl

pub published-packets : (budget : ℕ) (abdicate : Bool) (m : Meaning) (es : List Entry) → is_kick m ≡ false → IsPublished budget abdicate (m ∷ []) es → packets es ≡ m ∷ []
published-packets budget abdicate m es is (inl (a, p)) = packets-published es ∙ ap packets_by p ∙ one_packet m is
published-packets budget abdicate m es is (inr (inl (a, p))) = packets-published es ∙ ap packets_by p ∙ one_packet m is
published-packets budget abdicate m es is (inr (inr (a, p))) = packets-published es ∙ ap packets_by p ∙ one_packet m is

pub published-weigh : (budget : ℕ) (abdicate : Bool) (m : Meaning) (es : List Entry) → IsPublished budget abdicate (m ∷ []) es → weigh es ≡ m.weight
published-weigh budget abdicate m es (inl (a, p)) = let e : weigh es ≡ weight_by (Behind (m ∷ []) ∷ []) = weigh-published es ∙ ap weight_by p in omega arith
published-weigh budget abdicate m es (inr (inl (a, p))) = let e : weigh es ≡ weight_by (Elected budget (m ∷ []) ∷ []) = weigh-published es ∙ ap weight_by p in omega arith
published-weigh budget abdicate m es (inr (inr (a, p))) = let e : weigh es ≡ weight_by (Abdicating (m ∷ []) ∷ []) = weigh-published es ∙ ap weight_by p in omega arith

pub published-lawful : (budget : ℕ) (abdicate : Bool) (m : Meaning) (es : List Entry) → is_kick m ≡ false → IsPublished budget abdicate (m ∷ []) es → AreLawful budget abdicate es
published-lawful budget abdicate m es is (inl (a, p)) = lawful-published budget abdicate es (subst (AreLawfulSteps budget abdicate) (sym p) (inr (a, (m, refl, is)), tt))
published-lawful budget abdicate m es is (inr (inl (a, p))) = lawful-published budget abdicate es (subst (AreLawfulSteps budget abdicate) (sym p) (inr (refl, a, (m, refl, is)), tt))
published-lawful budget abdicate m es is (inr (inr (a, p))) = lawful-published budget abdicate es (subst (AreLawfulSteps budget abdicate) (sym p) ((a, (m, refl, is)), tt))

pub published-behind : (budget : ℕ) (abdicate : Bool) (xs : List Meaning) (es fs : List Entry) → publishing es ≡ [] → IsPublished budget abdicate xs fs → IsPublished budget abdicate xs (es ++ fs)
published-behind budget abdicate xs es fs q (inl (a, p)) = inl (a, publishing-behind es fs q ∙ p)
published-behind budget abdicate xs es fs q (inr (inl (a, p))) = inr (inl (a, publishing-behind es fs q ∙ p))
published-behind budget abdicate xs es fs q (inr (inr (a, p))) = inr (inr (a, publishing-behind es fs q ∙ p))

-- a kick that was published
pub published-kick : (es : List Entry) → IsPublished 32 false (kick ∷ []) es → OnlyKicks es
published-kick es (inl (a, p)) = subst (AreKicks kick) (sym p) (inl refl, tt)
published-kick es (inr (inl (a, p))) = subst (AreKicks kick) (sym p) (inr refl, tt)
published-kick es (inr (inr (a, p))) = absurd (cc)

-- ---- refusals

pub refusals-append : (n : ℕ) (es fs : List Entry) → refusals n (es ++ fs) ≡ refusals n es + refusals n fs
refusals-append n [] fs = omega arith
refusals-append n (e ∷ es) fs = let t = refusals-append n es fs in omega arith

here_refused : (e : Entry) (n k : ℕ) → e.event ≡ Refuse n → e.found ≡ k → one_if (is_refusal e.event && eqb e.found k) ≡ 1
here_refused e n k is found = (λ i. one_if (is_refusal (is i) && eqb e.found k)) ∙ ap one_if (eq-eqb e.found k found)

pub refused-counts : (n : ℕ) (seen : RingWord) (es : List Entry) → IsRefused n seen es → 1 ≤ refusals (pack seen) es
refused-counts n seen es (before, e, rest, is, looks, finds, relieved) =
    let k : ℕ = pack seen in let a : refusals k es ≡ refusals k (before ++ e ∷ rest) = ap (refusals k) is in let b = refusals-append k before (e ∷ rest) in let c = here_refused e n k finds.0 finds.1 in omega arith

-- ---- calls

-- one item was offered
pub offered : (size budget : ℕ) (abdicate : Bool) (xs : List Meaning) (got : Enqueued) (es : List Entry) → IsEnqueued size budget abdicate 1 xs got es → IsOffered size budget abdicate xs (refusal_of got) es
offered size budget abdicate xs enqueued.Behind es (p, s) = inl (s.4.0, p)
offered size budget abdicate xs enqueued.Abdicated es (p, s) = inr (inr (s.4.0, p))
offered size budget abdicate xs (enqueued.Drained left total) es (p, s) = inr (inl (s.4.0, p))
offered size budget abdicate xs (enqueued.NoBuffers seen) es (p, r, full, within) = (p, refused-counts 1 seen es r, full, within)

-- behind steps that publish nothing
pub offered-behind : (size budget : ℕ) (abdicate : Bool) (xs : List Meaning) (got : Option RingWord) (es fs : List Entry) → publishing es ≡ [] → IsOffered size budget abdicate xs got fs → IsOffered size budget abdicate xs got (es ++ fs)
offered-behind size budget abdicate xs None es fs q p = published-behind budget abdicate xs es fs q p
offered-behind size budget abdicate xs (Some seen) es fs q (p, r, full, within) = (quiet-more es fs q p, (let t = refusals-append (pack seen) es fs in omega arith), full, within)

-- and before some
pub turned-before : (size : ℕ) (seen : RingWord) (es fs : List Entry) → IsTurnedAway size seen es → publishing fs ≡ [] → IsTurnedAway size seen (es ++ fs)
turned-before size seen es fs (p, r, full, within) q = (quiet-more es fs p q, (let t = refusals-append (pack seen) es fs in omega arith), full, within)

-- ---- steps one after another

pub stepped_none : (v : Known) → Stepped v [] v
stepped_none v = record { is = refl; begins = ([], append-nil v.seen); made = sym (append-nil (events v)) }

pub stepped_more : (u v w : Known) (es fs : List Entry) → Stepped u es v → Stepped v fs w → Stepped u (es ++ fs) w
stepped_more u v w es fs a b = record {
  is = b.is ∙ ap (λ (z : Known). saw w.seen z) a.is;
  begins = (a.begins.0 ++ b.begins.0, sym (append_assoc u.seen a.begins.0 b.begins.0) ∙ ap (λ (z : List Entry). z ++ b.begins.0) a.begins.1 ∙ b.begins.1);
  made = b.made ∙ ap (λ (z : List Entry). z ++ fs) a.made ∙ append_assoc (events u) es fs;
}

pub went_stepped : (size : ℕ) (v w : Known) (es : List Entry) → Went size v es w → Stepped v es w
went_stepped size v w es t = record { is = t.is; begins = t.begins; made = t.made }
