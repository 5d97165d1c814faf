-- All conditions of an event hold exactly where its step is allowed.
use Rattle.std.proofs.Common.{◌≡◌, ◌≢◌, ℕ, ◌+◌, ◌-◌, ◌<◌, ◌≤◌, ◌⊎◌, ⊎_elim, inl, inr, Bool, true, false, not, ◌||◌, eq-eqb, ne_eqb, eqb-true, nat_eq, nat_lt, nat_le, List, [], ◌∷◌, length, sym, refl, ap, ◌∙◌, arith}
use Rattle.std.specs.Prelude.{Option, Some, None}
use Rattle.std.specs.Option.{is_some}
use Rattle.std.proofs.lemmas.Bool.{leb-true, le-leb}
use Rattle.std.proofs.lemmas.Bool.Decides.{nat_tests}
use mathlib.Core.Logic.{dite}
use native.Mathlib.Decide.{ℕ_discrete}
use Rattle.ifl_base.specs.declared.word.Flag.{Flag}
use Rattle.ifl_base.specs.declared.word.Flag.TheVariants.{Idle, Busy, Stalled, Abdicated}
use Rattle.ifl_base.specs.declared.limits.TheConstants.{MAX_BATCH}
use Rattle.ifl_ringcore.specs.declared.event.Event.{Event}
use Rattle.ifl_ringcore.specs.declared.event.Event.TheVariants.{Look, Refuse, Reserve, Behind, Elected, Abdicating, Advance, LeaveIdle, LeaveAbdicated, Stall, TakeOver}
use Rattle.ifl_ringcore.specs.declared.history.Meaning.{Meaning}
use Rattle.ifl_ringcore.specs.declared.illegal.Illegal.{Illegal}
use Rattle.ifl_ringcore.specs.State.{RingState, Reservation, Consumer, reservation, reservation_of, consumer_of}
use Rattle.ifl_ringcore.specs.Conditions.{Consumes, IsAllowed}
use Rattle.ifl_ringcore.specs.Events.{seat_of, step_of, items_of, count_of}
use Rattle.ifl_ringcore.specs.Invariant.{RingInvariant}
use Rattle.ifl_ringcore.specs.Table.{sight_of, conditions, first_failing, is_within, is_busy, is_left, starts_at, known_beyond, budget_left}
use Rattle.ifl_ringcore.proofs.Reservations.{cover_le}
use Rattle.ifl_ringcore.proofs.Standing.{consumer_of-is, known-within}

-- each condition holds
abbrev pub AllHold : List (Illegal × Bool) → Type 0
AllHold [] = Unit {0}
AllHold (c ∷ cs) = (c.1 ≡ true) × AllHold cs

bool_cases : (b : Bool) → (b ≡ true) ⊎ (b ≡ false)
bool_cases true = inl refl
bool_cases false = inr refl

pub all_hold : (cs : List (Illegal × Bool)) → first_failing cs ≡ None → AllHold cs
all_hold [] e = tt
all_hold (c ∷ cs) e = ⊎_elim
    (λ t. (t, all_hold cs (rw t at e)))
    (λ f. absurd (let g : Some c.0 ≡ None = rw f at e in cc))
    (bool_cases c.1)

pub none_fails : (cs : List (Illegal × Bool)) → AllHold cs → first_failing cs ≡ None
none_fails [] h = refl
none_fails (c ∷ cs) h = rw h.0 (none_fails cs h.1)

-- ---- what each test says

pub within : (n low high : ℕ) → is_within n low high ≡ true → (low ≤ n) × (n ≤ high)
within n low high e = grind (arith, nat_tests)

pub within-true : (n low high : ℕ) → low ≤ n → n ≤ high → is_within n low high ≡ true
within-true n low high a b = grind (arith, nat_tests)

pub is_some-some : {A : Type 0} (o : Option A) → is_some o ≡ true → (x : A) × (o ≡ Some x)
is_some-some None e = absurd cc
is_some-some (Some x) e = (x, refl)

pub not_some-none : {A : Type 0} (o : Option A) → not (is_some o) ≡ true → o ≡ None
not_some-none None e = refl
not_some-none (Some x) e = absurd cc

is_busy-busy : (f : Flag) → is_busy f ≡ true → f ≡ Busy
is_busy-busy Idle e = absurd cc
is_busy-busy Busy e = refl
is_busy-busy Stalled e = absurd cc
is_busy-busy Abdicated e = absurd cc

not_busy-other : (f : Flag) → not (is_busy f) ≡ true → f ≢ Busy
not_busy-other Idle e is = cc
not_busy-other Busy e is = cc
not_busy-other Stalled e is = cc
not_busy-other Abdicated e is = cc

other-not_busy : (f : Flag) → f ≢ Busy → not (is_busy f) ≡ true
other-not_busy Idle ne = refl
other-not_busy Busy ne = absurd (ne refl)
other-not_busy Stalled ne = refl
other-not_busy Abdicated ne = refl

is_left-left : (f : Flag) → is_left f ≡ true → (f ≡ Stalled) ⊎ (f ≡ Abdicated)
is_left-left Idle e = absurd cc
is_left-left Busy e = absurd cc
is_left-left Stalled e = inl refl
is_left-left Abdicated e = inr refl

left-is_left : (f : Flag) → (f ≡ Stalled) ⊎ (f ≡ Abdicated) → is_left f ≡ true
left-is_left f = ⊎_elim (ap is_left) (ap is_left)

-- a seat's reservation is one of that seat
reservation_of-seat : (seat : ℕ) (hs : List Reservation) (h : Reservation) → reservation_of seat hs ≡ Some h → h.seat ≡ seat
reservation_of-seat seat [] h e = absurd cc
reservation_of-seat seat (g ∷ hs) h e = dite (ℕ_discrete g.seat seat)
    (λ here. let f : Some g ≡ Some h = rw (eq-eqb g.seat seat here) at e in let same : g ≡ h = cc in ap (λ (z : Reservation). z.seat) (sym same) ∙ here)
    (λ ne. reservation_of-seat seat hs h (rw (ne_eqb g.seat seat ne) at e))

-- the seat's turn to publish its items
turn : (seat tail n : ℕ) (hs : List Reservation) → is_some (reservation_of seat hs) ≡ true → starts_at tail (reservation_of seat hs) ≡ true → n ≡ count_of (reservation_of seat hs)
    → reservation_of seat hs ≡ Some (reservation seat tail n)
turn seat tail n hs some at count = let t = is_some-some (reservation_of seat hs) some in
    let seat' = reservation_of-seat seat hs t.0 t.1 in
    let start : t.0.start ≡ tail = eqb-true t.0.start tail (rw t.1 at at) in
    let count' : n ≡ t.0.count = rw t.1 at count in
    t.1 ∙ (λ i. Some record { seat = seat' i; start = start i; count = sym count' i })

turn-tests : (seat tail n : ℕ) (hs : List Reservation) → reservation_of seat hs ≡ Some (reservation seat tail n) → (is_some (reservation_of seat hs) ≡ true) × (starts_at tail (reservation_of seat hs) ≡ true)
turn-tests seat tail n hs e = (ap is_some e, ap (starts_at tail) e ∙ eq-eqb tail tail refl)

-- where a seat's test says that it is the consumer, it is, and what is known and left is that consumer's
consumes : (st : RingState) (seat : ℕ) (F : Consumer → Type 0) → is_some (consumer_of seat st.consumer) ≡ true
    → ((d : Consumer) → st.consumer ≡ Some d → known_beyond st.released (consumer_of seat st.consumer) ≡ d.known - st.released → budget_left (consumer_of seat st.consumer) ≡ d.budget - d.total → F d)
    → Consumes seat st.consumer F
consumes st seat F some f = let t = is_some-some (consumer_of seat st.consumer) some in let u = consumer_of-is seat st.consumer t.0 t.1 in
    (t.0, u.0, u.1, f t.0 u.0 (ap (known_beyond st.released) t.1) (ap budget_left t.1))

-- ---- what is left of a number, and the number

known-of : (c k n x : ℕ) → x ≡ k - c → c < k → nat_le n x ≡ true → c + n ≤ k
known-of c k n x e l t = let u = leb-true n x t in omega arith

known-tests : (c k n x : ℕ) → x ≡ k - c → c + n ≤ k → nat_le n x ≡ true
known-tests c k n x e l = le-leb n x (omega arith)

spent-of : (b t n y : ℕ) → y ≡ b - t → nat_le y n ≡ true → b ≤ t + n
spent-of b t n y e h = let u = leb-true y n h in omega arith

spent-tests : (b t n y : ℕ) → y ≡ b - t → b ≤ t + n → nat_le y n ≡ true
spent-tests b t n y e h = le-leb y n (omega arith)

update-of : (c k n t b x y : ℕ) → x ≡ k - c → y ≡ b - t → c < k → (nat_eq n x || nat_le 64 n || nat_le y n) ≡ true → (c + n ≡ k) ⊎ (64 ≤ n) ⊎ (b ≤ t + n)
update-of c k n t b x y e f l h = grind (arith, nat_tests)

update-tests : (c k n t b x y : ℕ) → x ≡ k - c → y ≡ b - t → c < k → (c + n ≡ k) ⊎ (64 ≤ n) ⊎ (b ≤ t + n) → (nat_eq n x || nat_le 64 n || nat_le y n) ≡ true
update-tests c k n t b x y e f l h = grind (arith, nat_tests)

quiet-of : (p r n t b y : ℕ) → y ≡ b - t → (not (nat_le y n) || nat_eq p r) ≡ true → b ≤ t + n → p ≡ r
quiet-of p r n t b y e h l = grind (arith, nat_tests)

quiet-tests : (p r n t b y : ℕ) → y ≡ b - t → (b ≤ t + n → p ≡ r) → (not (nat_le y n) || nat_eq p r) ≡ true
quiet-tests p r n t b y e h = grind (arith, nat_tests)

pub less-of : (x n : ℕ) → nat_lt n x ≡ true → n < x
less-of x n h = grind (arith, nat_tests)

less-tests : (x n : ℕ) → n < x → nat_lt n x ≡ true
less-tests x n h = grind (arith, nat_tests)

stall-of : (b t n y : ℕ) → y ≡ b - t → (nat_eq n 0 || nat_lt n y) ≡ true → (n ≡ 0) ⊎ (t + n < b)
stall-of b t n y e h = grind (arith, nat_tests)

stall-tests : (b t n y : ℕ) → y ≡ b - t → (n ≡ 0) ⊎ (t + n < b) → (nat_eq n 0 || nat_lt n y) ≡ true
stall-tests b t n y e h = grind (arith, nat_tests)

other-of : (p r : ℕ) → not (nat_eq p r) ≡ true → p ≤ r → p < r
other-of p r h l = grind (arith, nat_tests)

other-tests : (p r : ℕ) → p < r → not (nat_eq p r) ≡ true
other-tests p r l = grind (arith, nat_tests)

pub allowed : (size seats : ℕ) (st : RingState) (e : Event) (xs : List Meaning) → RingInvariant size st → length xs ≡ items_of st e
    → AllHold (conditions (sight_of size seats st (seat_of e)) e) → IsAllowed size st (seat_of e) (step_of xs e)
allowed size seats st (Look k) xs g n h = tt
allowed size seats st (Refuse k n) xs g l h = let c = within n 1 MAX_BATCH h.1.0 in let r = leb-true (size - 1 - (st.reserved - st.released)) n h.1.1.1.1.0 in
    let a : st.released ≤ st.published = g.released in let b = cover_le st.published st.reservations st.reserved g.covered in let w : st.reserved + 2 ≤ st.released + size = g.within in
    (c, not_some-none (consumer_of k st.consumer) h.1.1.0, not_some-none (reservation_of k st.reservations) h.1.1.1.0, omega arith)
allowed size seats st (Reserve k n) xs g l h = let c = within n 1 MAX_BATCH h.1.0 in let t = h.1.1.1.1.0 in let r : n < size - 1 - (st.reserved - st.released) = grind (arith, nat_tests) in
    let a : st.released ≤ st.published = g.released in let b = cover_le st.published st.reservations st.reserved g.covered in let w : st.reserved + 2 ≤ st.released + size = g.within in
    (c, not_some-none (consumer_of k st.consumer) h.1.1.0, not_some-none (reservation_of k st.reservations) h.1.1.1.0, omega arith)
allowed size seats st (Behind k) xs g l h = (turn k st.published (length xs) st.reservations h.1.0 h.1.1.0 l, is_busy-busy st.flag h.1.1.1.0)
allowed size seats st (Elected k b) xs g l h = (turn k st.published (length xs) st.reservations h.1.0 h.1.1.0 l, not_busy-other st.flag h.1.1.1.0)
allowed size seats st (Abdicating k) xs g l h = turn k st.published (length xs) st.reservations h.1.0 h.1.1.0 l
allowed size seats st (Advance k n) xs g l h = consumes st k _ h.1.0 (λ d is known left.
    let c = within n 1 95 h.1.1.0 in let w = known-within st st.consumer d g.tended is in let q = less-of (st.published - st.released) n h.1.1.1.1.1.0 in (
      c.0,
      c.1,
      known-of st.released d.known n _ known w.0 h.1.1.1.0,
      update-of st.released d.known n d.total d.budget _ _ known left w.0 h.1.1.1.1.0,
      omega arith,
      quiet-of st.published st.reserved n d.total d.budget _ left h.1.1.1.1.1.1.0,
    ))
allowed size seats st (LeaveIdle k n) xs g l h = consumes st k _ h.1.0 (λ d is known left.
    let c = within n 1 95 h.1.1.0 in let w = known-within st st.consumer d g.tended is in let q = eqb-true n (st.published - st.released) h.1.1.1.1.0 in let one = c.0 in
    (c.0, c.1, known-of st.released d.known n _ known w.0 h.1.1.1.0, omega arith))
allowed size seats st (LeaveAbdicated k n) xs g l h = consumes st k _ h.1.0 (λ d is known left.
    let c = within n 1 95 h.1.1.0 in let w = known-within st st.consumer d g.tended is in let q = less-of (st.published - st.released) n h.1.1.1.1.1.0 in (
      c.0,
      c.1,
      known-of st.released d.known n _ known w.0 h.1.1.1.0,
      spent-of d.budget d.total n _ left h.1.1.1.1.0,
      omega arith,
      other-of st.published st.reserved h.1.1.1.1.1.1.0 (cover_le st.published st.reservations st.reserved g.covered),
    ))
allowed size seats st (Stall k n) xs g l h = consumes st k _ h.1.0 (λ d is known left.
    let c = within n 0 63 h.1.1.0 in let q = less-of _ n h.1.1.1.0 in
    (c.1, omega arith, stall-of d.budget d.total n _ left h.1.1.1.1.0))
allowed size seats st (TakeOver k b) xs g l h =
    (not_some-none (consumer_of k st.consumer) h.1.0, not_some-none (reservation_of k st.reservations) h.1.1.0, is_left-left st.flag h.1.1.1.0, sym (eqb-true st.published st.reserved h.1.1.1.1.0))

consumer_of-here : (seat : ℕ) (o : Option Consumer) (d : Consumer) → o ≡ Some d → d.seat ≡ seat → consumer_of seat o ≡ Some d
consumer_of-here seat o d is at = ap (consumer_of seat) is ∙ rw (eq-eqb d.seat seat at) refl

none-not_some : {A : Type 0} (o : Option A) → o ≡ None → not (is_some o) ≡ true
none-not_some o e = ap (λ z. not (is_some z)) e

pub holding : (size seats : ℕ) (st : RingState) (e : Event) (xs : List Meaning) → RingInvariant size st → seat_of e < seats
    → IsAllowed size st (seat_of e) (step_of xs e) → AllHold (conditions (sight_of size seats st (seat_of e)) e)
holding size seats st (Look k) xs g s a = (less-tests seats k s, tt)
holding size seats st (Refuse k n) xs g s a = let m = a.3 in let w : st.reserved + 2 ≤ st.released + size = g.within in
    let p : st.released ≤ st.published = g.released in let q = cover_le st.published st.reservations st.reserved g.covered in (
      less-tests seats k s,
      (
        within-true n 1 MAX_BATCH a.0.0 a.0.1,
        (
          none-not_some (consumer_of k st.consumer) a.1,
          (
            none-not_some (reservation_of k st.reservations) a.2,
            (le-leb (size - 1 - (st.reserved - st.released)) n (omega arith), tt),
          ),
        ),
      ),
    )
holding size seats st (Reserve k n) xs g s a = let m = a.3 in let w : st.reserved + 2 ≤ st.released + size = g.within in
    let p : st.released ≤ st.published = g.released in let q = cover_le st.published st.reservations st.reserved g.covered in (
      less-tests seats k s,
      (
        within-true n 1 MAX_BATCH a.0.0 a.0.1,
        (
          none-not_some (consumer_of k st.consumer) a.1,
          (
            none-not_some (reservation_of k st.reservations) a.2,
            (less-tests (size - 1 - (st.reserved - st.released)) n (omega arith), tt),
          ),
        ),
      ),
    )
holding size seats st (Behind k) xs g s a = let t = turn-tests k st.published (length xs) st.reservations a.0 in
    (less-tests seats k s, (t.0, (t.1, (ap is_busy a.1, tt))))
holding size seats st (Elected k b) xs g s a = let t = turn-tests k st.published (length xs) st.reservations a.0 in
    (less-tests seats k s, (t.0, (t.1, (other-not_busy st.flag a.1, tt))))
holding size seats st (Abdicating k) xs g s a = let t = turn-tests k st.published (length xs) st.reservations a in
    (less-tests seats k s, (t.0, (t.1, tt)))
holding size seats st (Advance k n) xs g s a = let d = a.0 in let f = a.3 in let o = consumer_of-here k st.consumer d a.1 a.2 in
    let known = ap (known_beyond st.released) o in let left = ap budget_left o in let w = known-within st st.consumer d g.tended a.1 in let q = f.4 in (
      less-tests seats k s,
      (
        ap is_some o,
        (
          within-true n 1 95 f.0 f.1,
          (
            known-tests st.released d.known n _ known f.2,
            (
              update-tests st.released d.known n d.total d.budget _ _ known left w.0 f.3,
              (
                less-tests (st.published - st.released) n (omega arith),
                (quiet-tests st.published st.reserved n d.total d.budget _ left f.5, tt),
              ),
            ),
          ),
        ),
      ),
    )
holding size seats st (LeaveIdle k n) xs g s a = let d = a.0 in let f = a.3 in let o = consumer_of-here k st.consumer d a.1 a.2 in
    let known = ap (known_beyond st.released) o in let q = f.3 in (
      less-tests seats k s,
      (
        ap is_some o,
        (
          within-true n 1 95 f.0 f.1,
          (
            known-tests st.released d.known n _ known f.2,
            (eq-eqb n (st.published - st.released) (omega arith), tt),
          ),
        ),
      ),
    )
holding size seats st (LeaveAbdicated k n) xs g s a = let d = a.0 in let f = a.3 in let o = consumer_of-here k st.consumer d a.1 a.2 in
    let known = ap (known_beyond st.released) o in let left = ap budget_left o in let q = f.4 in (
      less-tests seats k s,
      (
        ap is_some o,
        (
          within-true n 1 95 f.0 f.1,
          (
            known-tests st.released d.known n _ known f.2,
            (
              spent-tests d.budget d.total n _ left f.3,
              (
                less-tests (st.published - st.released) n (omega arith),
                (other-tests st.published st.reserved f.5, tt),
              ),
            ),
          ),
        ),
      ),
    )
holding size seats st (Stall k n) xs g s a = let d = a.0 in let f = a.3 in let o = consumer_of-here k st.consumer d a.1 a.2 in
    let known = ap (known_beyond st.released) o in let left = ap budget_left o in let q = f.1 in (
      less-tests seats k s,
      (
        ap is_some o,
        (
          within-true n 0 63 (omega arith) f.0,
          (
            less-tests _ n (let r = known in omega arith),
            (stall-tests d.budget d.total n _ left f.2, tt),
          ),
        ),
      ),
    )
holding size seats st (TakeOver k b) xs g s a = (
  less-tests seats k s,
  (
    none-not_some (consumer_of k st.consumer) a.0,
    (
      none-not_some (reservation_of k st.reservations) a.1,
      (left-is_left st.flag a.2, (eq-eqb st.published st.reserved (sym a.3), tt)),
    ),
  ),
)

pub is_seat : (size seats : ℕ) (st : RingState) (e : Event) → AllHold (conditions (sight_of size seats st (seat_of e)) e) → seat_of e < seats
is_seat size seats st (Look k) h = less-of seats k h.0
is_seat size seats st (Refuse k n) h = less-of seats k h.0
is_seat size seats st (Reserve k n) h = less-of seats k h.0
is_seat size seats st (Behind k) h = less-of seats k h.0
is_seat size seats st (Elected k b) h = less-of seats k h.0
is_seat size seats st (Abdicating k) h = less-of seats k h.0
is_seat size seats st (Advance k n) h = less-of seats k h.0
is_seat size seats st (LeaveIdle k n) h = less-of seats k h.0
is_seat size seats st (LeaveAbdicated k n) h = less-of seats k h.0
is_seat size seats st (Stall k n) h = less-of seats k h.0
is_seat size seats st (TakeOver k b) h = less-of seats k h.0
