-- What the machine makes of the numbers that it keeps is what the step makes of each state for which it stands.
use Rattle.std.proofs.Common.{◌≡◌, ℕ, ◌+◌, ◌-◌, ◌%◌, ◌^◌, ◌<◌, ◌≤◌, min, Bool, true, false, not, ◌&&◌, eq-eqb, ne_eqb, nat_eq, List, [], ◌∷◌, ◌++◌, length, sym, refl, ap, ◌∙◌, subst, arith, slice_set, ⊎_elim}
use Rattle.std.specs.Prelude.{Option, Some, None}
use Rattle.std.specs.Option.{ForSome}
use Rattle.std.proofs.Math.Nat.{mod-add-mod}
use Rattle.std.proofs.lemmas.List.{get_or-set_same, get_or-set_other}
use Rattle.std.proofs.lemmas.Bool.{leb-true}
use mathlib.Core.Logic.{dite}
use native.Mathlib.Decide.{ℕ_discrete}
use Rattle.ifl_base.specs.declared.limits.TheConstants.{MAX_BATCH}
use Rattle.ifl_base.specs.declared.word.RingWord.{RingWord}
use Rattle.ifl_base.specs.declared.word.Flag.{Flag}
use Rattle.ifl_base.specs.declared.word.Flag.TheVariants.{Idle, Busy, Stalled, Abdicated}
use Rattle.ifl_ringcore.specs.declared.counters.Counters.{Counters}
use Rattle.ifl_ringcore.specs.declared.event.Event.{Event}
use Rattle.ifl_ringcore.specs.declared.event.Event.TheVariants.{Look, Refuse, Reserve, Behind, Elected, Abdicating, Advance, LeaveIdle, LeaveAbdicated, Stall, TakeOver}
use Rattle.ifl_ringcore.specs.declared.history.Meaning.{Meaning}
use Rattle.ifl_ringcore.specs.declared.kept.Held.{Held}
use Rattle.ifl_ringcore.specs.declared.kept.Drain.{Drain}
use Rattle.ifl_ringcore.specs.declared.sight.Sight.{Sight}
use Rattle.ifl_ringcore.specs.State.{RingState, Reservation, Consumer, reservation, reservation_of, without, ring_word}
use Rattle.ifl_ringcore.specs.Conditions.{IsAllowed}
use Rattle.ifl_ringcore.specs.Counters.{plus, capped, rise, restarted, stalled_again, is_idle, is_stalled, one_if, nothing_counted}
use Rattle.ifl_ringcore.specs.Effects.{risen, published_by, elected, went_on, left_with, effect}
use Rattle.ifl_ringcore.specs.Events.{seat_of, step_of, items_of, count_of}
use Rattle.ifl_ringcore.specs.Invariant.{RingInvariant}
use Rattle.ifl_ringcore.specs.Kept.{Kept, StandsFor, IsSound, held_by, held_of, drain_of, count_in}
use Rattle.ifl_ringcore.specs.Table.{sight_of, conditions, first_failing}
use Rattle.ifl_ringcore.specs.Residues.{sight_in, distance, drain_by, known_from, Fits, rise_in, ends_restart, stays_stalled, reserved_in, published_in, elected_in, raised_in, gone_on, advanced_in, left_in, made_in}
use Rattle.ifl_ringcore.proofs.Reservations.{reservation_of-append, reservation_of-append_other, reservation_of-without}
use Rattle.ifl_ringcore.proofs.Keeping.{cover-without, invariant-effect}
use Rattle.ifl_ringcore.proofs.Standing.{eqb-both, distance-cases, sight_in-kept}
use Rattle.ifl_ringcore.proofs.Deciding.{AllHold, all_hold, within, less-of, allowed}

-- what is kept are the state's numbers
record Keeps (m : Kept) (st : RingState) : Type 0 where
  word : m.word ≡ ring_word m.size st
  held : (seat : ℕ) → held_by seat m.held ≡ held_of m.size (reservation_of seat st.reservations)
  drain : m.drain ≡ drain_of m.size st.consumer

keeps-reserve : (m : Kept) (st : RingState) (k n : ℕ) → Keeps m st → k < length m.held → reservation_of k st.reservations ≡ None
    → Keeps (reserved_in m k n) (record st { reserved = st.reserved + n; reservations = st.reservations ++ reservation k st.reserved n ∷ [] })
keeps-reserve m st k n t in_range none = let w = t.word in let new : Held = record { start = m.word.head; count = n } in record {
  word = (λ i. record { head = (ap (λ (z : RingWord). (z.head + n) % m.size) w ∙ mod-add-mod st.reserved m.size n) i; tail = (w i).tail; cidx = (w i).cidx; flag = (w i).flag });
  held = (λ j. dite (ℕ_discrete j k)
      (λ same. subst (λ (z : ℕ). held_by z (slice_set m.held k (Some new)) ≡ held_of m.size (reservation_of z (st.reservations ++ reservation k st.reserved n ∷ []))) (sym same)
      (get_or-set_same m.held k (Some new) None in_range ∙ (λ i. Some record { start = (w i).head; count = n }) ∙ ap (held_of m.size) (sym (reservation_of-append k st.reserved n st.reservations none))))
      (λ other. get_or-set_other m.held k j (Some new) None other ∙ t.held j ∙ ap (held_of m.size) (sym (reservation_of-append_other j k st.reserved n st.reservations (λ e. other (sym e))))));
  drain = t.drain;
}

count_in-held_of : (size : ℕ) (o : Option Reservation) → count_in (held_of size o) ≡ count_of o
count_in-held_of size None = refl
count_in-held_of size (Some r) = refl

keeps-publish : (m : Kept) (st : RingState) (k : ℕ) (xs : List Meaning) → Keeps m st → k < length m.held → length xs ≡ count_of (reservation_of k st.reservations)
    → reservation_of k (without k st.reservations) ≡ None → Keeps (published_in m k) (published_by k xs st)
keeps-publish m st k xs t in_range count gone = let w = t.word in
    let n : count_in (held_by k m.held) ≡ length xs = ap count_in (t.held k) ∙ count_in-held_of m.size (reservation_of k st.reservations) ∙ sym count in record {
      word = (λ i. record { head = (w i).head; tail = ((λ j. ((w j).tail + n j) % m.size) ∙ mod-add-mod st.published m.size (length xs)) i; cidx = (w i).cidx; flag = (w i).flag });
      held = (λ j. dite (ℕ_discrete j k)
          (λ same. subst (λ (z : ℕ). held_by z (slice_set m.held k None) ≡ held_of m.size (reservation_of z (without k st.reservations))) (sym same)
          (get_or-set_same m.held k None None in_range ∙ ap (held_of m.size) (sym gone)))
          (λ other. get_or-set_other m.held k j None None other ∙ t.held j ∙ ap (held_of m.size) (sym (reservation_of-without j k st.reservations (λ e. other (sym e))))));
      drain = t.drain;
    }

keeps-elect : (m : Kept) (st : RingState) (k b : ℕ) → Keeps m st → Keeps (elected_in m k b) (record st { flag = Busy; consumer = Some (elected k st.published b st.flag st.released) })
keeps-elect m st k b t = let w = t.word in record {
  word = (λ i. record { head = (w i).head; tail = (w i).tail; cidx = (w i).cidx; flag = Busy });
  held = t.held;
  drain = (λ i. Some record { seat = k; known = (w i).tail; total = 0; budget = b; from = (w i).flag });
}

keeps-raise : (m : Kept) (st : RingState) → Keeps m st → Keeps (raised_in m) (record st { flag = risen st.flag })
keeps-raise m st t = let w = t.word in record {
  word = (λ i. record { head = (w i).head; tail = (w i).tail; cidx = (w i).cidx; flag = risen (w i).flag });
  held = t.held;
  drain = t.drain;
}

gone_on-drain_of : (size n tail : ℕ) (o : Option Consumer) → gone_on n (tail % size) (drain_of size o) ≡ drain_of size (went_on n tail o)
gone_on-drain_of size n tail None = refl
gone_on-drain_of size n tail (Some d) = let total : min (min d.total (2 ^ 64 - 1) + n) (2 ^ 64 - 1) ≡ min (d.total + n) (2 ^ 64 - 1) = omega arith in
    λ i. Some record { seat = d.seat; known = tail % size; total = total i; budget = d.budget; from = d.from }

keeps-advance : (m : Kept) (st : RingState) (n : ℕ) → Keeps m st → Keeps (advanced_in m n) (record st { released = st.released + n; consumer = went_on n st.published st.consumer })
keeps-advance m st n t = let w = t.word in record {
  word = (λ i. record { head = (w i).head; tail = (w i).tail; cidx = (ap (λ (z : RingWord). (z.cidx + n) % m.size) w ∙ mod-add-mod st.released m.size n) i; flag = (w i).flag });
  held = t.held;
  drain = (λ i. gone_on n (w i).tail (t.drain i)) ∙ gone_on-drain_of m.size n st.published st.consumer;
}

keeps-leave : (m : Kept) (st : RingState) (n : ℕ) (f : Flag) → Keeps m st → Keeps (left_in m n f) (left_with f n st)
keeps-leave m st n f t = let w = t.word in record {
  word = (λ i. record { head = (w i).head; tail = (w i).tail; cidx = (ap (λ (z : RingWord). (z.cidx + n) % m.size) w ∙ mod-add-mod st.released m.size n) i; flag = f });
  held = t.held;
  drain = refl;
}

-- ---- each event whose conditions hold

keeps-made : (m : Kept) (st : RingState) (e : Event) (xs : List Meaning) → IsSound m → RingInvariant m.size st → Keeps m st → length xs ≡ items_of st e
    → AllHold (conditions (sight_of m.size m.seats st (seat_of e)) e) → IsAllowed m.size st (seat_of e) (step_of xs e) → Keeps (made_in m e) (effect st (seat_of e) (step_of xs e))
keeps-made m st (Look k) xs s g t l h a = t
keeps-made m st (Refuse k n) xs s g t l h a = t
keeps-made m st (Reserve k n) xs s g t l h a = let k' = less-of m.seats k h.0 in keeps-reserve m st k n t (let z = s.seats in omega arith) a.2
keeps-made m st (Behind k) xs s g t l h a = let k' = less-of m.seats k h.0 in
    keeps-publish m st k xs t (let z = s.seats in omega arith) l (cover-without m.size st k (length xs) g a.0).3
keeps-made m st (Elected k b) xs s g t l h a = let k' = less-of m.seats k h.0 in
    keeps-elect (published_in m k) (published_by k xs st) k b (keeps-publish m st k xs t (let z = s.seats in omega arith) l (cover-without m.size st k (length xs) g a.0).3)
keeps-made m st (Abdicating k) xs s g t l h a = let k' = less-of m.seats k h.0 in
    keeps-raise (published_in m k) (published_by k xs st) (keeps-publish m st k xs t (let z = s.seats in omega arith) l (cover-without m.size st k (length xs) g a).3)
keeps-made m st (Advance k n) xs s g t l h a = keeps-advance m st n t
keeps-made m st (LeaveIdle k n) xs s g t l h a = keeps-leave m st n Idle t
keeps-made m st (LeaveAbdicated k n) xs s g t l h a = keeps-leave m st n Abdicated t
keeps-made m st (Stall k n) xs s g t l h a = keeps-leave m st n Stalled t
keeps-made m st (TakeOver k b) xs s g t l h a = keeps-elect m st k b t

-- the size of what is made is that of what it was made of
made_in-size : (m : Kept) (e : Event) → ((made_in m e).size ≡ m.size) × ((made_in m e).seats ≡ m.seats)
made_in-size m (Look k) = (refl, refl)
made_in-size m (Refuse k n) = (refl, refl)
made_in-size m (Reserve k n) = (refl, refl)
made_in-size m (Behind k) = (refl, refl)
made_in-size m (Elected k b) = (refl, refl)
made_in-size m (Abdicating k) = (refl, refl)
made_in-size m (Advance k n) = (refl, refl)
made_in-size m (LeaveIdle k n) = (refl, refl)
made_in-size m (LeaveAbdicated k n) = (refl, refl)
made_in-size m (Stall k n) = (refl, refl)
made_in-size m (TakeOver k b) = (refl, refl)

pub made_in-stands : (m : Kept) (st : RingState) (e : Event) (xs : List Meaning) → IsSound m → StandsFor m st → length xs ≡ items_of st e
    → AllHold (conditions (sight_of m.size m.seats st (seat_of e)) e) → StandsFor (made_in m e) (effect st (seat_of e) (step_of xs e))
made_in-stands m st e xs s f l h = let a = allowed m.size m.seats st e xs f.lawful l h in
    let t = keeps-made m st e xs s f.lawful (record { word = f.word; held = f.held; drain = f.drain }) l h a in record {
      lawful = subst (λ (z : ℕ). RingInvariant z (effect st (seat_of e) (step_of xs e))) (sym (made_in-size m e).0) (invariant-effect m.size st (seat_of e) (step_of xs e) f.lawful a);
      word = t.word;
      held = t.held;
      drain = t.drain;
    }

-- ---- what an event counts

ends_restart-drain_of : (size n : ℕ) (o : Option Consumer) → ends_restart n (drain_of size o) ≡ restarted n o
ends_restart-drain_of size n None = refl
ends_restart-drain_of size n (Some d) = ap (λ (z : Bool). is_stalled d.from && not z) (eqb-both (min d.total (2 ^ 64 - 1) + n) 0 (d.total + n) 0 (λ e. omega arith) (λ e. omega arith))

not-not : (b : Bool) → not (not b) ≡ b
not-not true = refl
not-not false = refl

stays_stalled-drain_of : (size n : ℕ) (o : Option Consumer) → stays_stalled n (drain_of size o) ≡ stalled_again n o
stays_stalled-drain_of size n None = refl
stays_stalled-drain_of size n (Some d) = ap (λ (z : Bool). is_stalled d.from && z) (not-not (nat_eq (min d.total (2 ^ 64 - 1) + n) 0) ∙ eqb-both (min d.total (2 ^ 64 - 1) + n) 0 (d.total + n) 0 (λ e. omega arith) (λ e. omega arith))

pub rise_in-stands : (m : Kept) (st : RingState) (e : Event) (xs : List Meaning) → StandsFor m st → length xs ≡ items_of st e → rise_in m e ≡ rise st (step_of xs e)
rise_in-stands m st (Look k) xs f l = refl
rise_in-stands m st (Refuse k n) xs f l = refl
rise_in-stands m st (Reserve k n) xs f l = refl
rise_in-stands m st (Behind k) xs f l = λ i. record nothing_counted { enqueues = (ap count_in (f.held k) ∙ count_in-held_of m.size (reservation_of k st.reservations) ∙ sym l) i }
rise_in-stands m st (Elected k b) xs f l = λ i. record nothing_counted { enqueues = (ap count_in (f.held k) ∙ count_in-held_of m.size (reservation_of k st.reservations) ∙ sym l) i; starts = one_if (is_idle (f.word i).flag) }
rise_in-stands m st (Abdicating k) xs f l = λ i. record nothing_counted { enqueues = (ap count_in (f.held k) ∙ count_in-held_of m.size (reservation_of k st.reservations) ∙ sym l) i }
rise_in-stands m st (Advance k n) xs f l = refl
rise_in-stands m st (LeaveIdle k n) xs f l = λ i. record nothing_counted { restarts = one_if ((ap (ends_restart n) f.drain ∙ ends_restart-drain_of m.size n st.consumer) i) }
rise_in-stands m st (LeaveAbdicated k n) xs f l = λ i. record nothing_counted { restarts = one_if ((ap (ends_restart n) f.drain ∙ ends_restart-drain_of m.size n st.consumer) i); abdications = 1 }
rise_in-stands m st (Stall k n) xs f l = λ i. record nothing_counted { restarts = one_if ((ap (ends_restart n) f.drain ∙ ends_restart-drain_of m.size n st.consumer) i); stalls = one_if (not ((ap (stays_stalled n) f.drain ∙ stays_stalled-drain_of m.size n st.consumer) i)) }
rise_in-stands m st (TakeOver k b) xs f l = refl

-- ---- what an event needs

distance-less : (size from to : ℕ) → from < size → to < size → distance size from to < size
distance-less size from to a b = ⊎_elim (λ t. let e = t.1 in let f = t.0 in omega arith) (λ t. let e = t.1 in let f = t.0 in omega arith) (distance-cases size from to)

known_from-less : (size cidx seat : ℕ) (o : Option Drain) → cidx < size → ForSome o (λ d. (d.known < size) × (d.budget < 2 ^ 32)) → known_from size cidx (drain_by seat o) < size
known_from-less size cidx seat None a h = omega arith
known_from-less size cidx seat (Some d) a h = dite (ℕ_discrete d.seat seat)
    (λ here. rw (eq-eqb d.seat seat here) (distance-less size cidx d.known a (h d refl).0))
    (λ ne. rw (ne_eqb d.seat seat ne) (omega arith))

pub sight_in-fits : (m : Kept) (e : Event) → IsSound m → AllHold (conditions (sight_in m (seat_of e)) e) → Fits m e
sight_in-fits m (Look k) s h = tt
sight_in-fits m (Refuse k n) s h = tt
sight_in-fits m (Reserve k n) s h = let w = within n 1 MAX_BATCH h.1.0 in let a : n ≤ 1 = w.1 in let four = s.size in (less-of m.seats k h.0, omega arith)
sight_in-fits m (Behind k) s h = less-of m.seats k h.0
sight_in-fits m (Elected k b) s h = less-of m.seats k h.0
sight_in-fits m (Abdicating k) s h = less-of m.seats k h.0
sight_in-fits m (Advance k n) s h = let a = less-of (distance m.size m.word.cidx m.word.tail) n h.1.1.1.1.1.0 in let b = distance-less m.size m.word.cidx m.word.tail s.places.2 s.places.1 in omega arith
sight_in-fits m (LeaveIdle k n) s h = let a = leb-true n (known_from m.size m.word.cidx (drain_by k m.drain)) h.1.1.1.0 in let b = known_from-less m.size m.word.cidx k m.drain s.places.2 s.consumer in omega arith
sight_in-fits m (LeaveAbdicated k n) s h = let a = leb-true n (known_from m.size m.word.cidx (drain_by k m.drain)) h.1.1.1.0 in let b = known_from-less m.size m.word.cidx k m.drain s.places.2 s.consumer in omega arith
sight_in-fits m (Stall k n) s h = let a = less-of (known_from m.size m.word.cidx (drain_by k m.drain)) n h.1.1.1.0 in let b = known_from-less m.size m.word.cidx k m.drain s.places.2 s.consumer in omega arith
sight_in-fits m (TakeOver k b) s h = tt

-- ---- the machine's whole answer

made_in-counters : (m : Kept) (e : Event) → (made_in m e).counters ≡ m.counters
made_in-counters m (Look k) = refl
made_in-counters m (Refuse k n) = refl
made_in-counters m (Reserve k n) = refl
made_in-counters m (Behind k) = refl
made_in-counters m (Elected k b) = refl
made_in-counters m (Abdicating k) = refl
made_in-counters m (Advance k n) = refl
made_in-counters m (LeaveIdle k n) = refl
made_in-counters m (LeaveAbdicated k n) = refl
made_in-counters m (Stall k n) = refl
made_in-counters m (TakeOver k b) = refl

-- the first condition that fails of what is kept is the first that fails of the state
pub first_failing-kept : (m : Kept) (st : RingState) (e : Event) → IsSound m → StandsFor m st
    → first_failing (conditions (sight_in m (seat_of e)) e) ≡ first_failing (conditions (sight_of m.size m.seats st (seat_of e)) e)
first_failing-kept m st e s f = ap (λ (z : Sight). first_failing (conditions z e)) (sight_in-kept m st (seat_of e) s f)

-- what was counted changes nothing else
made-stands : (m new : Kept) (more : Counters) (st : RingState) (e : Event) (xs : List Meaning) → IsSound m → StandsFor m st → length xs ≡ items_of st e
    → first_failing (conditions (sight_in m (seat_of e)) e) ≡ None → new ≡ made_in (record m { counters = more }) e → StandsFor new (effect st (seat_of e) (step_of xs e))
made-stands m new more st e xs s f l none is = subst (λ (z : Kept). StandsFor z (effect st (seat_of e) (step_of xs e))) (sym is)
    (made_in-stands (record m { counters = more }) st e xs
    (record { size = s.size; small = s.small; seats = s.seats; places = s.places; counts = s.counts; consumer = s.consumer })
    (record { lawful = f.lawful; word = f.word; held = f.held; drain = f.drain })
    l (all_hold (conditions (sight_of m.size m.seats st (seat_of e)) e) (sym (first_failing-kept m st e s f) ∙ none)))

pub applied-stands : (m now new : Kept) (more : Counters) (st : RingState) (e : Event) (xs : List Meaning) → IsSound m → m ≡ now → StandsFor now st → length xs ≡ items_of st e
    → None ≡ first_failing (conditions (sight_in now (seat_of e)) e) → new ≡ made_in (record m { counters = more }) e → StandsFor new (effect st (seat_of e) (step_of xs e))
applied-stands m now new more st e xs s view f l none is = made-stands m new more st e xs s (subst (λ (z : Kept). StandsFor z st) (sym view) f) l
    (ap (λ (z : Kept). first_failing (conditions (sight_in z (seat_of e)) e)) view ∙ sym none) is

pub applied-counters : (m now new : Kept) (more risen : Counters) (st : RingState) (e : Event) (xs : List Meaning) → m ≡ now → StandsFor now st → length xs ≡ items_of st e
    → risen ≡ rise_in now e → more ≡ capped (plus m.counters risen) → new ≡ made_in (record m { counters = more }) e → new.counters ≡ capped (plus now.counters (rise st (step_of xs e)))
applied-counters m now new more risen st e xs view f l r p is = ap (λ (z : Kept). z.counters) is ∙ made_in-counters (record m { counters = more }) e ∙ p
    ∙ (λ i. capped (plus (view i).counters ((r ∙ rise_in-stands now st e xs f l) i)))
