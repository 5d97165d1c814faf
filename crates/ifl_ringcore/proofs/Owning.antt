-- Each place of a ring has one owner.
use Rattle.std.proofs.Common.{◌≡◌, ℕ, suc, ◌+◌, ◌*◌, ◌/◌, ◌%◌, ◌<◌, ◌≤◌, List, [], ◌∷◌, sym, refl, ap, ◌∙◌, subst, arith, eq-eqb, ne_eqb, mod-lt, suc-mul, div-add-mod', lt_of_not-le}
use Rattle.std.specs.Prelude.{Option, Some, None}
use Rattle.std.proofs.lemmas.Nat.{mod-mul-add}
use mathlib.Core.Logic.{dite}
use native.Mathlib.Decide.{ℕ_discrete, dec_le}
use Rattle.ifl_ringcore.specs.declared.owner.Owner.{Owner}
use Rattle.ifl_ringcore.specs.declared.owner.Owner.TheVariants as owner
use Rattle.ifl_ringcore.specs.Invariant.{RingInvariant, Cover, AreOnePerSeat, Tends, reach, reach_of}
use Rattle.ifl_ringcore.specs.Owners.{Has, IsOwner}
use Rattle.ifl_ringcore.specs.State.{RingState, Reservation, Consumer, reservation_of, consumer_of}
use Rattle.ifl_ringcore.proofs.Reservations.{cover_le, reservation_of-within}
use Rattle.ifl_ringcore.proofs.Standing.{mod-same}

-- each place has one of any `size` numbers in a row
number_at : (c size place : ℕ) → place < size → (m : ℕ) × (m % size ≡ place) × (c ≤ m) × (m < c + size)
number_at c size place low = let q : ℕ = c / size in let parts : q * size + c % size ≡ c = div-add-mod' c size in let small : c % size < size = mod-lt c (omega arith) in
    dite (dec_le (c % size) place)
    (λ le. (q * size + place, mod-mul-add q size place low, omega arith, omega arith))
    (λ gt. let less : place < c % size = lt_of_not-le gt in (suc q * size + place, mod-mul-add (suc q) size place low, omega (arith, suc-mul q size), omega (arith, suc-mul q size)))

-- ---- reservations

seat_is : (k : ℕ) (hs : List Reservation) (h : Reservation) → reservation_of k hs ≡ Some h → h.seat ≡ k
seat_is k [] h e = absurd cc
seat_is k (x ∷ xs) h e = dite (ℕ_discrete x.seat k)
    (λ same. let f : Some x ≡ Some h = rw (eq-eqb x.seat k same) at e in let g : x ≡ h = cc in ap (λ (z : Reservation). z.seat) (sym g) ∙ same)
    (λ ne. seat_is k xs h (rw (ne_eqb x.seat k ne) at e))

-- each number that is covered is in a reservation of some seat
covered : (p m : ℕ) (hs : List Reservation) (r : ℕ) → Cover p hs r → AreOnePerSeat hs → p ≤ m → m < r → (k : ℕ) × (h : Reservation) × (reservation_of k hs ≡ Some h) × (h.start ≤ m) × (m < h.start + h.count)
covered p m [] r c once a b = absurd (omega arith)
covered p m (x ∷ xs) r c once a b = let start = c.0 in dite (dec_le (p + x.count) m)
    (λ later. let t = covered (p + x.count) m xs r c.2 once.1 later b in (
      t.0,
      t.1,
      dite (ℕ_discrete x.seat t.0)
          (λ same. absurd (let none_ : reservation_of t.0 xs ≡ None = subst (λ (z : ℕ). reservation_of z xs ≡ None) same once.0 in let f : Some t.1 ≡ None = sym t.2 ∙ none_ in cc))
          (λ ne. rw (ne_eqb x.seat t.0 ne) t.2),
      t.3,
      t.4,
    ))
    (λ now. let less : m < p + x.count = lt_of_not-le now in (x.seat, x, rw (eq-eqb x.seat x.seat refl) refl, omega arith, omega arith))

-- two reservations with one number in both are of one seat
same_seat : (p m : ℕ) (hs : List Reservation) (r k l : ℕ) (h i : Reservation) → Cover p hs r → reservation_of k hs ≡ Some h → reservation_of l hs ≡ Some i → h.start ≤ m → m < h.start + h.count → i.start ≤ m → m < i.start + i.count → k ≡ l
same_seat p m [] r k l h i c e f a b x y = absurd (let g : None ≡ Some h = e in cc)
same_seat p m (z ∷ zs) r k l h i c e f a b x y = let start = c.0 in dite (ℕ_discrete z.seat k)
    (λ one. dite (ℕ_discrete z.seat l)
    (λ two. sym one ∙ two)
    (λ ne. let first : Some z ≡ Some h = rw (eq-eqb z.seat k one) at e in let g : z ≡ h = cc in let s : z.start ≡ h.start = ap (λ (q : Reservation). q.start) g in let n : z.count ≡ h.count = ap (λ (q : Reservation). q.count) g in
    let t = reservation_of-within l (p + z.count) zs r i c.2 (rw (ne_eqb z.seat l ne) at f) in let low = t.0 in absurd (omega arith)))
    (λ other. dite (ℕ_discrete z.seat l)
    (λ two. let first : Some z ≡ Some i = rw (eq-eqb z.seat l two) at f in let g : z ≡ i = cc in let s : z.start ≡ i.start = ap (λ (q : Reservation). q.start) g in let n : z.count ≡ i.count = ap (λ (q : Reservation). q.count) g in
    let t = reservation_of-within k (p + z.count) zs r h c.2 (rw (ne_eqb z.seat k other) at e) in let low = t.0 in absurd (omega arith))
    (λ ne. same_seat (p + z.count) m zs r k l h i c.2 (rw (ne_eqb z.seat k other) at e) (rw (ne_eqb z.seat l ne) at f) a b x y))

-- ---- the consumer

consumer_is : (k : ℕ) (o : Option Consumer) (d : Consumer) → consumer_of k o ≡ Some d → (o ≡ Some d) × (d.seat ≡ k)
consumer_is k None d e = absurd cc
consumer_is k (Some x) d e = dite (ℕ_discrete x.seat k)
    (λ same. let f : Some x ≡ Some d = rw (eq-eqb x.seat k same) at e in let g : x ≡ d = cc in (f, ap (λ (z : Consumer). z.seat) (sym g) ∙ same))
    (λ ne. absurd (let f : None ≡ Some d = rw (ne_eqb x.seat k ne) at e in cc))

reach_le : (st : RingState) (o : Option Consumer) → Tends st o → st.released ≤ st.published → (st.released ≤ reach_of st.released o) × (reach_of st.released o ≤ st.published)
reach_le st None t a = (omega arith, a)
reach_le st (Some d) t a = let low = t.1 in (omega arith, t.2)

-- up to where the consumer has the items
pub reach_is : (st : RingState) (k : ℕ) (d : Consumer) → consumer_of k st.consumer ≡ Some d → reach st ≡ d.known
reach_is st k d e = ap (reach_of st.released) (consumer_is k st.consumer d e).0

-- the consumer of a number below its reach
reached : (c m : ℕ) (o : Option Consumer) → c ≤ m → m < reach_of c o → (k : ℕ) × (d : Consumer) × (consumer_of k o ≡ Some d) × (m < d.known)
reached c m None a b = absurd (omega arith)
reached c m (Some d) a b = (d.seat, d, rw (eq-eqb d.seat d.seat refl) refl, b)

-- ---- numbers and places

-- each number that is not released has an owner
owned : (size m : ℕ) (st : RingState) → RingInvariant size st → st.released ≤ m → (o : Owner) × Has st m o
owned size m st g low = dite (dec_le (reach st) m)
    (λ unknown. dite (dec_le st.published m)
    (λ beyond. dite (dec_le st.reserved m)
    (λ free. (owner.Free, free))
    (λ held. let t = covered st.published m st.reservations st.reserved g.covered g.once beyond (lt_of_not-le held) in (owner.Reserver t.0, (t.1, t.2, t.3, t.4))))
    (λ waits. (owner.Ring, (unknown, lt_of_not-le waits))))
    (λ known. let t = reached st.released m st.consumer low (lt_of_not-le known) in (owner.Consumer t.0, (t.1, t.2, t.3)))

module _ (m : ℕ) (st : RingState) (released : st.released ≤ st.published) (covers : Cover st.published st.reservations st.reserved) (tended : Tends st st.consumer) where
  free_held : (k : ℕ) → Has st m owner.Free → Has st m (owner.Reserver k) → ⊥
  free_held k a b = let t = reservation_of-within k st.published st.reservations st.reserved b.0 covers b.1 in let high = t.1 in let less = b.3 in absurd (omega arith)

  free_waits : Has st m owner.Free → Has st m owner.Ring → ⊥
  free_waits a b = let c = cover_le st.published st.reservations st.reserved covers in let less = b.1 in absurd (omega arith)

  free_known : (k : ℕ) → Has st m owner.Free → Has st m (owner.Consumer k) → ⊥
  free_known k a b = let c = cover_le st.published st.reservations st.reserved covers in let t = reach_le st st.consumer tended released in let high = t.1 in let e = reach_is st k b.0 b.1 in let less = b.2 in absurd (omega arith)

  held_waits : (k : ℕ) → Has st m (owner.Reserver k) → Has st m owner.Ring → ⊥
  held_waits k a b = let t = reservation_of-within k st.published st.reservations st.reserved a.0 covers a.1 in let low = t.0 in let more = a.2 in let less = b.1 in absurd (omega arith)

  held_known : (k l : ℕ) → Has st m (owner.Reserver k) → Has st m (owner.Consumer l) → ⊥
  held_known k l a b = let t = reservation_of-within k st.published st.reservations st.reserved a.0 covers a.1 in let low = t.0 in let more = a.2 in let r = reach_le st st.consumer tended released in let high = r.1 in let e = reach_is st l b.0 b.1 in let less = b.2 in absurd (omega arith)

  waits_known : (k : ℕ) → Has st m owner.Ring → Has st m (owner.Consumer k) → ⊥
  waits_known k a b = let e = reach_is st k b.0 b.1 in let less = b.2 in let more = a.0 in absurd (omega arith)

  -- and one only
  once : (o p : Owner) → Has st m o → Has st m p → o ≡ p
  once owner.Free owner.Free a b = refl
  once owner.Free (owner.Reserver k) a b = absurd (free_held k a b)
  once owner.Free owner.Ring a b = absurd (free_waits a b)
  once owner.Free (owner.Consumer k) a b = absurd (free_known k a b)
  once (owner.Reserver k) owner.Free a b = absurd (free_held k b a)
  once (owner.Reserver k) (owner.Reserver l) a b = ap owner.Reserver (same_seat st.published m st.reservations st.reserved k l a.0 b.0 covers a.1 b.1 a.2 a.3 b.2 b.3)
  once (owner.Reserver k) owner.Ring a b = absurd (held_waits k a b)
  once (owner.Reserver k) (owner.Consumer l) a b = absurd (held_known k l a b)
  once owner.Ring owner.Free a b = absurd (free_waits b a)
  once owner.Ring (owner.Reserver k) a b = absurd (held_waits k b a)
  once owner.Ring owner.Ring a b = refl
  once owner.Ring (owner.Consumer k) a b = absurd (waits_known k a b)
  once (owner.Consumer k) owner.Free a b = absurd (free_known k b a)
  once (owner.Consumer k) (owner.Reserver l) a b = absurd (held_known l k b a)
  once (owner.Consumer k) owner.Ring a b = absurd (waits_known k b a)
  once (owner.Consumer k) (owner.Consumer l) a b = let d = consumer_is k st.consumer a.0 a.1 in let e = consumer_is l st.consumer b.0 b.1 in let f : Some a.0 ≡ Some b.0 = sym d.0 ∙ e.0 in let same : a.0 ≡ b.0 = cc in
      ap owner.Consumer (sym d.1 ∙ ap (λ (z : Consumer). z.seat) same ∙ e.1)

-- two numbers of those that a ring has room for, at one place
same_number : (c size m n : ℕ) → 0 < size → c ≤ m → m < c + size → c ≤ n → n < c + size → m % size ≡ n % size → m ≡ n
same_number c size m n pos a b x y e = dite (dec_le m n)
    (λ le. mod-same size m n pos le (omega arith) e)
    (λ gt. let less : n < m = lt_of_not-le gt in sym (mod-same size n m pos (omega arith) (omega arith) (sym e)))

pub one_owner : (size place : ℕ) (st : RingState) → RingInvariant size st → place < size → (o : Owner) × IsOwner size st place o × ((other : Owner) → IsOwner size st place other → other ≡ o)
one_owner size place st g low = let n = number_at st.released size place low in let o = owned size n.0 st g n.2 in (
  o.0,
  (n.0, n.1, n.2, n.3, o.1),
  λ other is. let same : is.0 ≡ n.0 = same_number st.released size is.0 n.0 (omega arith) is.2 is.3 n.2 n.3 (is.1 ∙ sym n.1) in
      once n.0 st g.released g.covered g.tended other o.0 (subst (λ (z : ℕ). Has st z other) same is.4) o.1,
)
