-- Each step invariant-effect the invariant, and leaves what other seats have.
use Rattle.std.proofs.Common.{◌≡◌, ◌≢◌, ℕ, ◌+◌, ◌<◌, ◌≤◌, eq-eqb, ne_eqb, List, [], ◌∷◌, length, sym, refl, ap, ◌∙◌, subst, ⊎_elim, arith, length-append, le_refl}
use Rattle.std.specs.Prelude.{Option, Some, None}
use mathlib.Core.Logic.{dite}
use native.Mathlib.Decide.{ℕ_discrete}
use Rattle.ifl_base.specs.declared.word.Flag.{Flag}
use Rattle.ifl_base.specs.declared.word.Flag.TheVariants.{Idle, Busy, Stalled, Abdicated}
use Rattle.ifl_ringcore.specs.declared.history.Meaning.{Meaning}
use Rattle.ifl_ringcore.specs.declared.history.Step.{Step}
use Rattle.ifl_ringcore.specs.declared.history.Step.TheVariants.{Look, Refuse, Reserve, Behind, Elected, Abdicating, Advance, LeaveIdle, LeaveAbdicated, Stall, TakeOver}
use Rattle.ifl_ringcore.specs.declared.history.Entry.{Entry}
use Rattle.ifl_ringcore.specs.State.{Reservation, Consumer, RingState, reservation, reservation_of, without, consumer_of, role_of, first_state}
use Rattle.ifl_ringcore.specs.Effects.{went_on, risen, effect}
use Rattle.ifl_ringcore.specs.Conditions.{Consumes, IsAllowed}
use Rattle.ifl_ringcore.specs.History.{state_after, IsLegalHistory}
use Rattle.ifl_ringcore.specs.Invariant.{Cover, AreOnePerSeat, Tends, RingInvariant}
use Rattle.ifl_ringcore.proofs.Reservations.{cover-append, reservation_of-append_other, one_per_seat-append, reservation_of-first, reservation_of-without}

not_mine : (k : ℕ) (d : Consumer) → consumer_of k (Some d) ≡ None → d.seat ≢ k
not_mine k d e is = let f : Some d ≡ None = rw (eq-eqb d.seat k is) at e in cc

pub consumer_of-other : (j k : ℕ) (o : Option Consumer) (F : Consumer → Type 0) → Consumes k o F → k ≢ j → consumer_of j o ≡ None
consumer_of-other j k o F t ne = rw t.1 (rw (ne_eqb t.0.seat j (λ e. ne (sym t.2 ∙ e))))

none_drains : (st : RingState) (j : ℕ) (o : Option Consumer) → Tends st o → st.flag ≢ Busy → consumer_of j o ≡ None
none_drains st j None g ne = refl
none_drains st j (Some d) g ne = absurd (ne g.0)

pub no_consumer : (st : RingState) (o : Option Consumer) → Tends st o → st.flag ≢ Busy → o ≡ None
no_consumer st None g ne = refl
no_consumer st (Some d) g ne = absurd (ne g.0)

reserves : (st : RingState) (k n : ℕ) (o : Option Consumer) → consumer_of k o ≡ None → Tends st o → Tends (effect st k (Reserve n)) o
reserves st k n None e g = g
reserves st k n (Some d) e g = (g.0, g.1, g.2, reservation_of-append_other d.seat k st.reserved n st.reservations (λ is. not_mine k d e (sym is)) ∙ g.3, g.4)

gone : (j k : ℕ) (hs : List Reservation) (h : Reservation) → reservation_of j hs ≡ None → reservation_of k hs ≡ Some h → reservation_of j (without k hs) ≡ None
gone j k hs h none some = dite (ℕ_discrete k j)
    (λ is. absurd (let f : Some h ≡ None = sym some ∙ (ap (λ (z : ℕ). reservation_of z hs) is ∙ none) in cc))
    (λ ne. reservation_of-without j k hs ne ∙ none)

behinds : (st : RingState) (k : ℕ) (xs : List Meaning) (h : Reservation) (o : Option Consumer) → reservation_of k st.reservations ≡ Some h → Tends st o → Tends (effect st k (Behind xs)) o
behinds st k xs h None e g = g
behinds st k xs h (Some d) e g = let a : d.known ≤ st.published = g.2 in (g.0, g.1, omega arith, gone d.seat k st.reservations h g.3 e, g.4)

-- what is left once the first reservation is published
pub cover-without : (size : ℕ) (st : RingState) (k n : ℕ) → RingInvariant size st → reservation_of k st.reservations ≡ Some (reservation k st.published n)
    → (1 ≤ n) × Cover (st.published + n) (without k st.reservations) st.reserved × AreOnePerSeat (without k st.reservations) × (reservation_of k (without k st.reservations) ≡ None)
cover-without size st k n g is = let f = reservation_of-first k st.published st.reservations st.reserved n g.covered is in
    let c : Cover st.published (reservation k st.published n ∷ without k st.reservations) st.reserved = subst (λ z. Cover st.published z st.reserved) f g.covered in
    let o : AreOnePerSeat (reservation k st.published n ∷ without k st.reservations) = subst AreOnePerSeat f g.once in (c.1, c.2, o.1, o.0)

advances : (st : RingState) (k n : ℕ) (o : Option Consumer) (F : Consumer → Type 0) → Consumes k o F → st.released + n < st.published → Tends st o → Tends (effect st k (Advance n)) (went_on n st.published o)
advances st k n None F t l g = absurd (let e = t.1 in cc)
advances st k n (Some d) F t l g = (g.0, l, le_refl st.published, g.3, ap (λ z. z + n) g.4)

busy : (st : RingState) (k : ℕ) (o : Option Consumer) (F : Consumer → Type 0) → Consumes k o F → Tends st o → st.flag ≡ Busy
busy st k None F t g = absurd (let e = t.1 in cc)
busy st k (Some d) F t g = g.0

not_idle : (f : Flag) → risen f ≢ Idle
not_idle Idle e = cc
not_idle Busy e = cc
not_idle Stalled e = cc
not_idle Abdicated e = cc

not_busy : (f : Flag) → risen f ≡ Busy → f ≡ Busy
not_busy Idle e = absurd cc
not_busy Busy e = e
not_busy Stalled e = absurd cc
not_busy Abdicated e = absurd cc

abdicates : (st : RingState) (k : ℕ) (xs : List Meaning) (h : Reservation) (o : Option Consumer) → reservation_of k st.reservations ≡ Some h → Tends st o → Tends (effect st k (Abdicating xs)) o
abdicates st k xs h None e g = λ b. g (not_busy st.flag b)
abdicates st k xs h (Some d) e g = let a : d.known ≤ st.published = g.2 in (ap risen g.0, g.1, omega arith, gone d.seat k st.reservations h g.3 e, g.4)

drained : (st : RingState) (k : ℕ) (o : Option Consumer) (F : Consumer → Type 0) → (t : Consumes k o F) → Tends st o → (st.released < t.0.known) × (t.0.known ≤ st.published)
drained st k None F t g = absurd (let e = t.1 in cc)
drained st k (Some d) F t g = let e = t.1 in let same : d ≡ t.0 = cc in subst (λ (z : Consumer). (st.released < z.known) × (z.known ≤ st.published)) same (g.1, g.2)

pub invariant-effect : (size : ℕ) (st : RingState) (k : ℕ) (e : Step) → RingInvariant size st → IsAllowed size st k e → RingInvariant size (effect st k e)
invariant-effect size st k Look g m = g
invariant-effect size st k (Reserve n) g m = let room : n + st.reserved + 1 < size + st.released = m.3 in record {
  released = g.released;
  within = omega arith;
  covered = cover-append st.published st.reservations st.reserved k n g.covered m.0.0;
  once = one_per_seat-append k st.reserved n st.reservations g.once m.2;
  idle = g.idle;
  waits = g.waits;
  tended = reserves st k n st.consumer m.1 g.tended;
  counted = g.counted;
}
invariant-effect size st k (Behind xs) g m = let t = cover-without size st k (length xs) g m.0 in let one : 1 ≤ length xs = t.0 in let a : st.released ≤ st.published = g.released in record {
  released = omega arith;
  within = g.within;
  covered = t.1;
  once = t.2;
  idle = λ e. absurd (let b = m.1 in cc);
  waits = λ e. absurd (omega arith);
  tended = behinds st k xs (reservation k st.published (length xs)) st.consumer m.0 g.tended;
  counted = length-append st.items xs ∙ ap (λ z. z + length xs) g.counted;
}
invariant-effect size st k (Elected b xs) g m = let t = cover-without size st k (length xs) g m.0 in let one : 1 ≤ length xs = t.0 in let a : st.released ≤ st.published = g.released in record {
  released = omega arith;
  within = g.within;
  covered = t.1;
  once = t.2;
  idle = λ e. absurd cc;
  waits = λ e. absurd (omega arith);
  tended = (refl, omega arith, le_refl (st.published + length xs), t.3, refl);
  counted = length-append st.items xs ∙ ap (λ z. z + length xs) g.counted;
}
invariant-effect size st k (Advance n) g m = let one : 1 ≤ n = m.3.0 in let l : st.released + n < st.published = m.3.4 in let is : st.flag ≡ Busy = busy st k st.consumer _ m g.tended in let w : st.reserved + 2 ≤ st.released + size = g.within in record {
  released = omega arith;
  within = omega arith;
  covered = g.covered;
  once = g.once;
  idle = λ e. absurd cc;
  waits = λ e. absurd (omega arith);
  tended = advances st k n st.consumer _ m l g.tended;
  counted = g.counted;
}
invariant-effect size st k (LeaveIdle n) g m = let one : 1 ≤ n = m.3.0 in let l : st.released + n ≡ st.published = m.3.3 in let w : st.reserved + 2 ≤ st.released + size = g.within in record {
  released = omega arith;
  within = omega arith;
  covered = g.covered;
  once = g.once;
  idle = λ e. l;
  waits = λ e. refl;
  tended = (λ e. cc);
  counted = g.counted;
}
invariant-effect size st k (Refuse n) g m = g
invariant-effect size st k (Abdicating xs) g m = let t = cover-without size st k (length xs) g m in let one : 1 ≤ length xs = t.0 in let a : st.released ≤ st.published = g.released in record {
  released = omega arith;
  within = g.within;
  covered = t.1;
  once = t.2;
  idle = λ e. absurd (not_idle st.flag e);
  waits = λ e. absurd (omega arith);
  tended = abdicates st k xs (reservation k st.published (length xs)) st.consumer m g.tended;
  counted = length-append st.items xs ∙ ap (λ z. z + length xs) g.counted;
}
invariant-effect size st k (LeaveAbdicated n) g m = let l : st.released + n < st.published = m.3.4 in let w : st.reserved + 2 ≤ st.released + size = g.within in record {
  released = omega arith;
  within = omega arith;
  covered = g.covered;
  once = g.once;
  idle = λ e. absurd cc;
  waits = λ e. absurd (omega arith);
  tended = (λ e. cc);
  counted = g.counted;
}
invariant-effect size st k (Stall n) g m = let t = drained st k st.consumer _ m g.tended in let l : st.released + n < m.0.known = m.3.1 in let h : m.0.known ≤ st.published = t.1 in let w : st.reserved + 2 ≤ st.released + size = g.within in record {
  released = omega arith;
  within = omega arith;
  covered = g.covered;
  once = g.once;
  idle = λ e. absurd cc;
  waits = λ e. absurd (omega arith);
  tended = (λ e. cc);
  counted = g.counted;
}
invariant-effect size st k (TakeOver b) g m = let a : st.released ≤ st.published = g.released in
    let away : st.released ≢ st.published = (λ e. let i = g.waits e in ⊎_elim (λ (z : st.flag ≡ Stalled). let f : ⊥ = cc in f) (λ (z : st.flag ≡ Abdicated). let f : ⊥ = cc in f) m.2) in record {
      released = a;
      within = g.within;
      covered = g.covered;
      once = g.once;
      idle = λ e. absurd cc;
      waits = λ e. absurd (away e);
      tended = (refl, omega arith, le_refl st.published, m.1, refl);
      counted = g.counted;
    }

more_drain : (j k n p : ℕ) (o : Option Consumer) (F : Consumer → Type 0) → Consumes k o F → k ≢ j → consumer_of j (went_on n p o) ≡ consumer_of j o
more_drain j k n p None F t ne = refl
more_drain j k n p (Some d) F t ne = let e = t.1 in let same : d ≡ t.0 = cc in let at : d.seat ≢ j = (λ is. ne (sym t.2 ∙ (ap (λ (z : Consumer). z.seat) (sym same) ∙ is))) in
    rw (ne_eqb d.seat j at)

pub role_of-effect : (size : ℕ) (st : RingState) (j k : ℕ) (e : Step) → RingInvariant size st → IsAllowed size st k e → k ≢ j → role_of j (effect st k e) ≡ role_of j st
role_of-effect size st j k Look g m ne = refl
role_of-effect size st j k (Reserve n) g m ne = ap (λ (z : Option Reservation). (z, consumer_of j st.consumer)) (reservation_of-append_other j k st.reserved n st.reservations ne)
role_of-effect size st j k (Behind xs) g m ne = ap (λ (z : Option Reservation). (z, consumer_of j st.consumer)) (reservation_of-without j k st.reservations ne)
role_of-effect size st j k (Elected b xs) g m ne = rw (ne_eqb k j ne) (λ i. (reservation_of-without j k st.reservations ne i, sym (none_drains st j st.consumer g.tended m.1) i))
role_of-effect size st j k (Advance n) g m ne = ap (λ (z : Option Consumer). (reservation_of j st.reservations, z)) (more_drain j k n st.published st.consumer _ m ne)
role_of-effect size st j k (LeaveIdle n) g m ne = ap (λ (z : Option Consumer). (reservation_of j st.reservations, z)) (sym (consumer_of-other j k st.consumer _ m ne))
role_of-effect size st j k (Refuse n) g m ne = refl
role_of-effect size st j k (Abdicating xs) g m ne = ap (λ (z : Option Reservation). (z, consumer_of j st.consumer)) (reservation_of-without j k st.reservations ne)
role_of-effect size st j k (LeaveAbdicated n) g m ne = ap (λ (z : Option Consumer). (reservation_of j st.reservations, z)) (sym (consumer_of-other j k st.consumer _ m ne))
role_of-effect size st j k (Stall n) g m ne = ap (λ (z : Option Consumer). (reservation_of j st.reservations, z)) (sym (consumer_of-other j k st.consumer _ m ne))
role_of-effect size st j k (TakeOver b) g m ne = rw (ne_eqb k j ne) (λ i. (reservation_of j st.reservations, sym (none_drains st j st.consumer g.tended (λ e. ⊎_elim (λ (z : st.flag ≡ Stalled). let f : ⊥ = cc in f) (λ (z : st.flag ≡ Abdicated). let f : ⊥ = cc in f) m.2)) i))

-- a legal history invariant-effect the invariant
pub invariant-history : (size : ℕ) (st : RingState) (es : List Entry) → RingInvariant size st → IsLegalHistory size st es → RingInvariant size (state_after st es)
invariant-history size st [] g l = g
invariant-history size st (e ∷ es) g l = invariant-history size (effect st e.seat e.event) es (invariant-effect size st e.seat e.event g l.1) l.2

-- the ring as it begins meets the invariant
pub invariant-first : (size : ℕ) → 2 ≤ size → RingInvariant size first_state
invariant-first size two = record {
  released = le_refl 0;
  within = omega arith;
  covered = refl;
  once = tt;
  idle = λ e. refl;
  waits = λ e. refl;
  tended = (λ e. cc);
  counted = refl;
}
