-- What the machine sees in the numbers that it keeps is what there is to see in each state for which it stands.
use Rattle.std.proofs.Common.{◌≡◌, ℕ, ◌+◌, ◌-◌, ◌%◌, ◌^◌, ◌<◌, ◌≤◌, ◌⊎◌, ⊎_elim, inl, inr, eqb, eq-eqb, ne_eqb, nat_eq, nat_lt, sym, refl, ap, ◌∙◌, subst, arith, mod-lt, lt_of_not-le}
use Rattle.std.specs.Prelude.{Option, Some, None}
use Rattle.std.specs.Option.{is_some}
use mathlib.Core.Logic.{dite}
use native.Mathlib.Decide.{ℕ_discrete, dec_le}
use Rattle.std.proofs.lemmas.Bool.{lt-leb, le-leb}
use Rattle.ifl_base.specs.Space.{space}
use Rattle.ifl_ringcore.specs.State.{RingState, Reservation, Consumer, reservation_of, consumer_of}
use Rattle.ifl_ringcore.specs.Invariant.{Tends}
use Rattle.ifl_ringcore.specs.Kept.{Kept, StandsFor, IsSound, held_by, held_of, drain_of}
use Rattle.ifl_ringcore.specs.Table.{sight_of, starts_at, known_beyond, budget_left}
use Rattle.ifl_ringcore.specs.Residues.{sight_in, distance, is_held_at, drain_by, known_from, unspent}
use Rattle.ifl_ringcore.proofs.Reservations.{cover_le, reservation_of-within}
use Rattle.ifl_ringcore.proofs.Residues.{residues, space-ring_word}

-- two tests that come out the same
pub eqb-both : (a b x y : ℕ) → (a ≡ b → x ≡ y) → (x ≡ y → a ≡ b) → eqb a b ≡ eqb x y
eqb-both a b x y to from = dite (ℕ_discrete a b)
    (λ e. eq-eqb a b e ∙ sym (eq-eqb x y (to e)))
    (λ ne. ne_eqb a b ne ∙ sym (ne_eqb x y (λ e. ne (from e))))

pub distance-cases : (size from to : ℕ) → ((from ≤ to) × (distance size from to ≡ to - from)) ⊎ ((to < from) × (distance size from to ≡ size + to - from))
distance-cases size from to = dite (dec_le from to)
    (λ le. inl (le, rw (le-leb from to le) refl))
    (λ gt. let lt = lt_of_not-le gt in inr (lt, rw (lt-leb from to lt) refl))

-- the distance of two residues is that of the numbers
pub distance-mod : (size a b : ℕ) → 0 < size → a ≤ b → b < a + size → distance size (a % size) (b % size) ≡ b - a
distance-mod size a b pos le lt = let x = mod-lt a pos in let y = mod-lt b pos in
    ⊎_elim
    (λ t. ⊎_elim (λ u. let e = u.0 in let f = u.1 in omega arith) (λ u. let e = u.0 in let f = u.1 in omega arith) (distance-cases size (a % size) (b % size)))
    (λ t. ⊎_elim (λ u. let e = u.0 in let f = u.1 in omega arith) (λ u. let e = u.0 in let f = u.1 in omega arith) (distance-cases size (a % size) (b % size)))
    (residues a b size pos le lt)

-- residues are the same where the numbers are, less than a turn apart
pub mod-same : (size a b : ℕ) → 0 < size → a ≤ b → b < a + size → a % size ≡ b % size → a ≡ b
mod-same size a b pos le lt e = ⊎_elim (λ t. let f = t in omega arith) (λ t. let f = t in omega arith) (residues a b size pos le lt)

held_of-some : (size : ℕ) (o : Option Reservation) → is_some (held_of size o) ≡ is_some o
held_of-some size None = refl
held_of-some size (Some r) = refl

drain_of-some : (size : ℕ) (o : Option Consumer) → is_some (drain_of size o) ≡ is_some o
drain_of-some size None = refl
drain_of-some size (Some d) = refl

pub drain_by-drain_of : (size seat : ℕ) (o : Option Consumer) → drain_by seat (drain_of size o) ≡ drain_of size (consumer_of seat o)
drain_by-drain_of size seat None = refl
drain_by-drain_of size seat (Some d) = dite (ℕ_discrete d.seat seat)
    (λ e. rw (eq-eqb d.seat seat e) refl)
    (λ ne. rw (ne_eqb d.seat seat ne) refl)

-- a consumer that is this seat's is the consumer
pub consumer_of-is : (seat : ℕ) (o : Option Consumer) (d : Consumer) → consumer_of seat o ≡ Some d → (o ≡ Some d) × (d.seat ≡ seat)
consumer_of-is seat None d e = absurd cc
consumer_of-is seat (Some c) d e = dite (ℕ_discrete c.seat seat)
    (λ here. let f : Some c ≡ Some d = rw (eq-eqb c.seat seat here) at e in let same : c ≡ d = cc in (f, ap (λ (z : Consumer). z.seat) (sym same) ∙ here))
    (λ ne. let f : None ≡ Some d = rw (ne_eqb c.seat seat ne) at e in absurd cc)

is_held_at-held_of : (size tail : ℕ) (o : Option Reservation) → 0 < size → ((r : Reservation) → o ≡ Some r → (tail ≤ r.start) × (r.start < tail + size)) → is_held_at (tail % size) (held_of size o) ≡ starts_at tail o
is_held_at-held_of size tail None pos h = refl
is_held_at-held_of size tail (Some r) pos h = let t = h r refl in
    eqb-both (r.start % size) (tail % size) r.start tail (λ e. sym (mod-same size tail r.start pos t.0 t.1 (sym e))) (ap (λ (z : ℕ). z % size))

known_from-drain_of : (size released : ℕ) (o : Option Consumer) → 0 < size → ((d : Consumer) → o ≡ Some d → (released ≤ d.known) × (d.known < released + size)) → known_from size (released % size) (drain_of size o) ≡ known_beyond released o
known_from-drain_of size released None pos h = refl
known_from-drain_of size released (Some d) pos h = let t = h d refl in distance-mod size released d.known pos t.0 t.1

unspent-drain_of : (size : ℕ) (o : Option Consumer) → ((d : Consumer) → o ≡ Some d → d.budget < 2 ^ 32) → unspent (drain_of size o) ≡ budget_left o
unspent-drain_of size None h = refl
unspent-drain_of size (Some d) h = let t = h d refl in omega arith

-- the consumer knows of items that are published and not released
pub known-within : (st : RingState) (o : Option Consumer) (d : Consumer) → Tends st o → o ≡ Some d → (st.released < d.known) × (d.known ≤ st.published)
known-within st None d t e = absurd cc
known-within st (Some c) d t e = let same : c ≡ d = cc in subst (λ (z : Consumer). (st.released < z.known) × (z.known ≤ st.published)) same (t.1, t.2)

-- a kept budget fits 32 bits
pub budget-fits : (m : Kept) (st : RingState) (d : Consumer) → IsSound m → StandsFor m st → st.consumer ≡ Some d → d.budget < 2 ^ 32
budget-fits m st d sound s e = (sound.consumer _ (s.drain ∙ ap (drain_of m.size) e)).1

pub sight_in-kept : (m : Kept) (st : RingState) (seat : ℕ) → IsSound m → StandsFor m st → sight_in m seat ≡ sight_of m.size m.seats st seat
sight_in-kept m st seat sound s = let four = sound.size in let pos : 0 < m.size = omega arith in
    let g = s.lawful in let w = s.word in
    let cp : st.released ≤ st.published = g.released in let pr = cover_le st.published st.reservations st.reserved g.covered in
    let rs : st.reserved + 2 ≤ st.released + m.size = g.within in
    let held = s.held seat in
    let drain : drain_by seat m.drain ≡ drain_of m.size (consumer_of seat st.consumer) = ap (drain_by seat) s.drain ∙ drain_by-drain_of m.size seat st.consumer in
    let within : (r : Reservation) → reservation_of seat st.reservations ≡ Some r → (st.published ≤ r.start) × (r.start < st.published + m.size) =
    (λ r e. let t = reservation_of-within seat st.published st.reservations st.reserved r g.covered e in let a = t.0 in let b = t.1 in let c = t.2 in (a, omega arith)) in
    let knows : (d : Consumer) → consumer_of seat st.consumer ≡ Some d → (st.released ≤ d.known) × (d.known < st.released + m.size) =
    (λ d e. let t = known-within st st.consumer d g.tended (consumer_of-is seat st.consumer d e).0 in let a = t.0 in let b = t.1 in (omega arith, omega arith)) in
    let fits : (d : Consumer) → consumer_of seat st.consumer ≡ Some d → d.budget < 2 ^ 32 =
    (λ d e. budget-fits m st d sound s (consumer_of-is seat st.consumer d e).0) in
    let is_consumer = ap is_some drain ∙ drain_of-some m.size (consumer_of seat st.consumer) in
    let has_reservation = ap is_some held ∙ held_of-some m.size (reservation_of seat st.reservations) in
    let is_turn : is_held_at m.word.tail (held_by seat m.held) ≡ starts_at st.published (reservation_of seat st.reservations) =
    (λ i. is_held_at (w i).tail (held i)) ∙ is_held_at-held_of m.size st.published (reservation_of seat st.reservations) pos within in
    let is_quiet : nat_eq m.word.tail m.word.head ≡ nat_eq st.published st.reserved =
    (λ i. nat_eq (w i).tail (w i).head) ∙ eqb-both (st.published % m.size) (st.reserved % m.size) st.published st.reserved
    (mod-same m.size st.published st.reserved pos pr (omega arith)) (ap (λ (z : ℕ). z % m.size)) in
    let room : space m.size m.word ≡ m.size - 1 - (st.reserved - st.released) =
    ap (space m.size) w ∙ (let r = space-ring_word m.size st pos g in omega arith) in
    let waiting : distance m.size m.word.cidx m.word.tail ≡ st.published - st.released =
    (λ i. distance m.size (w i).cidx (w i).tail) ∙ distance-mod m.size st.released st.published pos cp (omega arith) in
    let known : known_from m.size m.word.cidx (drain_by seat m.drain) ≡ known_beyond st.released (consumer_of seat st.consumer) =
    (λ i. known_from m.size (w i).cidx (drain i)) ∙ known_from-drain_of m.size st.released (consumer_of seat st.consumer) pos knows in
    let left : unspent (drain_by seat m.drain) ≡ budget_left (consumer_of seat st.consumer) =
    ap unspent drain ∙ unspent-drain_of m.size (consumer_of seat st.consumer) fits in
    λ i. record {
      is_seat = nat_lt seat m.seats;
      is_consumer = is_consumer i;
      has_reservation = has_reservation i;
      is_turn = is_turn i;
      is_quiet = is_quiet i;
      flag = (w i).flag;
      room = room i;
      waiting = waiting i;
      known = known i;
      budget_left = left i;
    }
