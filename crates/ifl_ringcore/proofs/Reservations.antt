-- Lists of reservations: what lies where, and what a seat has.
use Rattle.std.proofs.Common.{◌≡◌, ◌≢◌, ℕ, ◌+◌, ◌≤◌, cond, eqb, eq-eqb, ne_eqb, List, [], ◌∷◌, ◌++◌, sym, refl, ap, ◌∙◌, subst, arith}
use Rattle.std.specs.Prelude.{Some, None}
use mathlib.Core.Logic.{dite}
use native.Mathlib.Decide.{ℕ_discrete}
use Rattle.ifl_ringcore.specs.State.{Reservation, reservation, reservation_of, without}
use Rattle.ifl_ringcore.specs.Invariant.{Cover, AreOnePerSeat}

-- the chain ends at r, which is at least p
pub cover_le : (p : ℕ) (hs : List Reservation) (r : ℕ) → Cover p hs r → p ≤ r
cover_le p [] r e = omega arith
cover_le p (h ∷ hs) r e = let t = cover_le (p + h.count) hs r e.2 in let one : 1 ≤ h.count = e.1 in omega arith

pub cover-append : (p : ℕ) (hs : List Reservation) (r : ℕ) (k n : ℕ) → Cover p hs r → 1 ≤ n → Cover p (hs ++ reservation k r n ∷ []) (r + n)
cover-append p [] r k n e one = (sym e, one, ap (λ z. z + n) e)
cover-append p (h ∷ hs) r k n e one = (e.0, e.1, cover-append (p + h.count) hs r k n e.2 one)

pub reservation_of-append_other : (j k a n : ℕ) (hs : List Reservation) → k ≢ j → reservation_of j (hs ++ reservation k a n ∷ []) ≡ reservation_of j hs
reservation_of-append_other j k a n [] ne = rw (ne_eqb k j ne)
reservation_of-append_other j k a n (h ∷ hs) ne = ap (cond (eqb h.seat j) (Some h)) (reservation_of-append_other j k a n hs ne)

pub reservation_of-append : (k a n : ℕ) (hs : List Reservation) → reservation_of k hs ≡ None → reservation_of k (hs ++ reservation k a n ∷ []) ≡ Some (reservation k a n)
reservation_of-append k a n [] e = rw (eq-eqb k k refl)
reservation_of-append k a n (h ∷ hs) e = dite (ℕ_discrete h.seat k)
    (λ is. absurd (let f : Some h ≡ None = rw (eq-eqb h.seat k is) at e in cc))
    (λ ne. rw (ne_eqb h.seat k ne) (reservation_of-append k a n hs (rw (ne_eqb h.seat k ne) at e)))

pub one_per_seat-append : (k a n : ℕ) (hs : List Reservation) → AreOnePerSeat hs → reservation_of k hs ≡ None → AreOnePerSeat (hs ++ reservation k a n ∷ [])
one_per_seat-append k a n [] o e = (refl, tt)
one_per_seat-append k a n (h ∷ hs) o e = dite (ℕ_discrete h.seat k)
    (λ is. absurd (let f : Some h ≡ None = rw (eq-eqb h.seat k is) at e in cc))
    (λ ne. (reservation_of-append_other h.seat k a n hs (λ is. ne (sym is)) ∙ o.0, one_per_seat-append k a n hs o.1 (rw (ne_eqb h.seat k ne) at e)))

-- a reservation lies between p and r
pub reservation_of-within : (k : ℕ) (p : ℕ) (hs : List Reservation) (r : ℕ) (h : Reservation) → Cover p hs r → reservation_of k hs ≡ Some h → (p ≤ h.start) × (h.start + h.count ≤ r) × (1 ≤ h.count)
reservation_of-within k p [] r h e is = absurd cc
reservation_of-within k p (g ∷ hs) r h e is = dite (ℕ_discrete g.seat k)
    (λ here. let f : Some g ≡ Some h = rw (eq-eqb g.seat k here) at is in let same : g ≡ h = cc in
    subst (λ (z : Reservation). (p ≤ z.start) × (z.start + z.count ≤ r) × (1 ≤ z.count)) same
    (let a : g.start ≡ p = e.0 in let b : 1 ≤ g.count = e.1 in let t = cover_le (p + g.count) hs r e.2 in (omega arith, omega arith, b)))
    (λ ne. let t = reservation_of-within k (p + g.count) hs r h e.2 (rw (ne_eqb g.seat k ne) at is) in let a : p + g.count ≤ h.start = t.0 in (omega arith, t.1, t.2))

-- the one that starts at p is the first
pub reservation_of-first : (k : ℕ) (p : ℕ) (hs : List Reservation) (r n : ℕ) → Cover p hs r → reservation_of k hs ≡ Some (reservation k p n) → hs ≡ reservation k p n ∷ without k hs
reservation_of-first k p [] r n e is = absurd cc
reservation_of-first k p (g ∷ hs) r n e is = dite (ℕ_discrete g.seat k)
    (λ here. let f : Some g ≡ Some (reservation k p n) = rw (eq-eqb g.seat k here) at is in let same : g ≡ reservation k p n = cc in
    rw (eq-eqb g.seat k here) (ap (λ (z : Reservation). z ∷ hs) same))
    (λ ne. let t = reservation_of-within k (p + g.count) hs r (reservation k p n) e.2 (rw (ne_eqb g.seat k ne) at is) in let a : p + g.count ≤ p = t.0 in let b : 1 ≤ g.count = e.1 in absurd (omega arith))

pub reservation_of-without : (j k : ℕ) (hs : List Reservation) → k ≢ j → reservation_of j (without k hs) ≡ reservation_of j hs
reservation_of-without j k [] ne = refl
reservation_of-without j k (h ∷ hs) ne = dite (ℕ_discrete h.seat k)
    (λ here. rw (eq-eqb h.seat k here, ne_eqb h.seat j (λ e. ne (sym here ∙ e))))
    (λ other. rw (ne_eqb h.seat k other) (ap (cond (eqb h.seat j) (Some h)) (reservation_of-without j k hs ne)))
