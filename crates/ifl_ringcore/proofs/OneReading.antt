-- A schedule's text is read in one way.
use Rattle.std.proofs.Common.{◌≡◌, ◌≢◌, ℕ, suc, ◌+◌, ⊎_elim, List, [], ◌∷◌, ◌++◌, length, sym, refl, ap, ◌∙◌, arith, length-append}
use Rattle.std.specs.Prelude.{Some, decimal, codes}
use Rattle.std.specs.List.{All, AllByRecursion}
use mathlib.Core.List.{append_assoc}
use Rattle.std.proofs.lemmas.List.{append-nil}
use Rattle.ifl_ringcore.specs.declared.event.Event.{Event}
use Rattle.ifl_ringcore.specs.declared.schedule.Schedule.{Schedule}
use Rattle.ifl_ringcore.specs.Events.{seat_of}
use Rattle.ifl_ringcore.specs.Lines.{spaced_if}
use Rattle.ifl_ringcore.specs.Schedule.{name_of, number_of, IsEvent, IsRing, event_line, event_lines, ring_line, schedule_text, IsScheduleText, IsBadRing, IsFirstBadLine}
use Rattle.ifl_ringcore.proofs.Wording.{cut-same, named, event_named-of, event-fits, lacks-name, lacks-event_line, lacks-ring_line, ring-fits, ring-same, lacks-ring}

event_line-same : (e f : Event) → IsEvent e → IsEvent f → event_line e ≡ event_line f → e ≡ f
event_line-same e f a b is = let t = named (event_line e) (name_of e) (decimal (seat_of e) ++ spaced_if (number_of e)) (seat_of e) (number_of e) refl (lacks-name e).0 refl a.0 (event-fits e a) f b is in
    let u : Some e ≡ Some f = sym (event_named-of e) ∙ t in cc

-- no event's line begins the text
abbrev pub Ends : List ℕ → Type 0
Ends rest = (e : Event) (behind : List ℕ) → IsEvent e → rest ≢ event_line e ++ (10 ∷ behind)

no_text-ends : Ends []
no_text-ends e behind h at = absurd (omega (arith, ap length at, length-append (event_line e) (10 ∷ behind)))

-- lines of events that go on in one way
lines-same : (es fs : List Event) (r q : List ℕ) → AllByRecursion IsEvent es → AllByRecursion IsEvent fs → Ends r → Ends q → event_lines es ++ r ≡ event_lines fs ++ q → (es ≡ fs) × (r ≡ q)
lines-same [] [] r q a b c d is = (refl, is)
lines-same [] (f ∷ fs) r q a b c d is = absurd (c f (event_lines fs ++ q) b.0 (is ∙ append_assoc (event_line f) (10 ∷ event_lines fs) q))
lines-same (e ∷ es) [] r q a b c d is = absurd (d e (event_lines es ++ r) a.0 (sym is ∙ append_assoc (event_line e) (10 ∷ event_lines es) r))
lines-same (e ∷ es) (f ∷ fs) r q a b c d is =
    let t = cut-same 10 (event_line e) (event_lines es ++ r) (event_line f) (event_lines fs ++ q) (lacks-event_line e a.0) (lacks-event_line f b.0)
    (sym (append_assoc (event_line e) (10 ∷ event_lines es) r) ∙ is ∙ append_assoc (event_line f) (10 ∷ event_lines fs) q) in
    let here = event_line-same e f a.0 b.0 t.0 in let rest = lines-same es fs r q a.1 b.1 c d t.1 in
    (λ i. here i ∷ rest.0 i, rest.1)

by_recursion : (es : List Event) → All IsEvent es → AllByRecursion IsEvent es
by_recursion [] a = tt
by_recursion (e ∷ es) a = (a 0 e (omega arith), by_recursion es (λ k d h. a (suc k) d (omega arith)))

ring_line-same : (s z t y : ℕ) → IsRing s z → IsRing t y → ring_line s z ≡ ring_line t y → (s ≡ t) × (z ≡ y)
ring_line-same s z t y a b is = let f = ring-fits s z a in
    let u = ring-same (ring_line s z) (codes "ring") (decimal s ++ spaced_if (Some z)) s (Some z) refl lacks-ring refl f.0 f.1 t y b is in
    let v : Some z ≡ Some y = u.1 in (u.0, cc)

-- schedules and what follows their texts
texts-same : (s t : Schedule) (r q : List ℕ) → IsRing s.size s.seats → IsRing t.size t.seats → All IsEvent s.events → All IsEvent t.events → Ends r → Ends q
    → schedule_text s ++ r ≡ schedule_text t ++ q → (s ≡ t) × (r ≡ q)
texts-same s t r q a b c d f g is =
    let u = cut-same 10 (ring_line s.size s.seats) (event_lines s.events ++ r) (ring_line t.size t.seats) (event_lines t.events ++ q) (lacks-ring_line s.size s.seats a) (lacks-ring_line t.size t.seats b)
    (sym (append_assoc (ring_line s.size s.seats) (10 ∷ event_lines s.events) r) ∙ is ∙ append_assoc (ring_line t.size t.seats) (10 ∷ event_lines t.events) q) in
    let v = ring_line-same s.size s.seats t.size t.seats a b u.0 in
    let w = lines-same s.events t.events r q (by_recursion s.events c) (by_recursion t.events d) f g u.1 in
    (λ i. record { size = v.0 i; seats = v.1 i; events = w.0 i }, w.1)

pub one-schedule : (text : List ℕ) (s t : Schedule) → IsScheduleText text s → IsScheduleText text t → s ≡ t
one-schedule text s t a b = (texts-same s t [] [] a.ring b.ring a.events b.events no_text-ends no_text-ends
    (append-nil (schedule_text s) ∙ sym a.reads ∙ b.reads ∙ sym (append-nil (schedule_text t)))).0

-- a ring's line begins the text
rings : (text : List ℕ) (s : Schedule) (r : List ℕ) → IsRing s.size s.seats → text ≡ schedule_text s ++ r → IsBadRing text → ⊥
rings text s r a is bad = bad s.size s.seats (event_lines s.events ++ r) a (is ∙ append_assoc (ring_line s.size s.seats) (10 ∷ event_lines s.events) r)

pub one-line : (text : List ℕ) (m n : ℕ) → IsFirstBadLine text m → IsFirstBadLine text n → m ≡ n
one-line text m n a b = ⊎_elim
    (λ x. ⊎_elim (λ y. x.0 ∙ sym y.0) (λ y. absurd (rings text y.before y.rest y.ring y.reads x.1)) b)
    (λ x. ⊎_elim (λ y. absurd (rings text x.before x.rest x.ring x.reads y.1))
    (λ y. x.counted ∙ ap (λ (z : Schedule). length z.events + 2) (texts-same x.before y.before x.rest y.rest x.ring y.ring x.events y.events x.bad y.bad (sym x.reads ∙ y.reads)).0 ∙ sym y.counted) b)
    a

pub schedule-or-line : (text : List ℕ) (s : Schedule) (n : ℕ) → IsScheduleText text s → IsFirstBadLine text n → ⊥
schedule-or-line text s n a b = ⊎_elim
    (λ x. rings text s [] a.ring (a.reads ∙ sym (append-nil (schedule_text s))) x.1)
    (λ x. let t = texts-same s x.before [] x.rest a.ring x.ring a.events x.events no_text-ends x.bad (append-nil (schedule_text s) ∙ sym a.reads ∙ x.reads) in
    let more = x.more in absurd (omega (arith, ap length t.1)))
    b
