-- A side's step keeps the rule.
use Rattle.std.proofs.Common.{◌≡◌, ℕ, zero, suc, ◌+◌, ◌%◌, ◌<◌, ◌≤◌, ◌≢◌, ◌⊎◌, inl, inr, ⊎_elim, List, [], ◌∷◌, ◌++◌, map, length, set, take, drop, sym, refl, ap, ◌∙◌, subst, arith, length-append, length-drop, append_assoc, append-nil}
use mathlib.Core.Logic.{dite}
use mathlib.Core.Option.{some, some-injective, some-ne-none}
use mathlib.Core.List.{IsPrefix}
use native.Mathlib.Decide.{dec_le}
use lib.ListN.{get_elem?, length-map}
use Rattle.std.proofs.lemmas.List.{take-append-le}
use Rattle.std.specs.Prelude.{Some}
use Rattle.atomic_table.proofs.Lists.{at_set, at_map}
use Rattle.ifl_desc.specs.declared.desc.Desc.{Desc}
use Rattle.ifl_desc.specs.declared.history.Side.{Side}
use Rattle.ifl_desc.specs.declared.history.Side.TheVariants.{Driver, Device}
use Rattle.ifl_desc.specs.declared.history.Event.{Event}
use Rattle.ifl_desc.specs.declared.history.Event.TheVariants.{Sent, Looked, Cleared}
use Rattle.ifl_desc.specs.declared.history.Role.{Role}
use Rattle.ifl_desc.specs.declared.history.Role.TheVariants.{Whole, Full, End, Note, Closing}
use Rattle.ifl_desc.specs.declared.history.View.{View}
use Rattle.ifl_desc.specs.History.{other, sent_in, known_in, own_in, sent, known, own, IsLook}
use Rattle.ifl_desc.specs.Frames.{IsFine, AllFine}
use Rattle.ifl_desc.specs.Rule.{Slot, RingState, takes_all, view, InOrder, IsLawful, Acts, Knows, Tied}
use Rattle.atomic_table.specs.Table.{homes_after}
use Rattle.ifl_desc.proofs.Slots.{apart, Homes, Misses, places, places_else, places_here, taken_else}

pub sent_append : (r : Side) (g h : List Event) → sent r (g ++ h) ≡ sent r g ++ sent r h
sent_append r [] h = refl
sent_append r (e ∷ g) h = ap (λ (z : List Desc). sent_in r e ++ z) (sent_append r g h) ∙ sym (append_assoc (sent_in r e) (sent r g) (sent r h))

pub known_append : (r : Side) (g h : List Event) → known r (g ++ h) ≡ known r g + known r h
known_append r [] h = omega arith
known_append r (e ∷ g) h = let a : ℕ = known_in r e in let b : ℕ = known r g in let c : ℕ = known r h in let d : ℕ = known r (g ++ h) in let i : d ≡ b + c = known_append r g h in omega arith

pub own_append : (r : Side) (g h : List Event) → own r (g ++ h) ≡ own r g ++ own r h
own_append r [] h = refl
own_append r (e ∷ g) h = ap (λ (z : List Event). own_in r e ++ z) (own_append r g h) ∙ sym (append_assoc (own_in r e) (own r g) (own r h))

sent_of_own : (r : Side) (e : Event) → sent r (own_in r e) ≡ sent_in r e
sent_of_own Driver (Sent Driver ds) = append-nil ds
sent_of_own Driver (Sent Device ds) = refl
sent_of_own Driver (Looked Driver n) = refl
sent_of_own Driver (Looked Device n) = refl
sent_of_own Driver (Cleared n) = refl
sent_of_own Device (Sent Driver ds) = refl
sent_of_own Device (Sent Device ds) = append-nil ds
sent_of_own Device (Looked Driver n) = refl
sent_of_own Device (Looked Device n) = refl
sent_of_own Device (Cleared n) = refl

known_of_own : (r : Side) (e : Event) → known r (own_in r e) ≡ known_in r e
known_of_own Driver (Sent Driver ds) = refl
known_of_own Driver (Sent Device ds) = refl
known_of_own Driver (Looked Driver n) = omega arith
known_of_own Driver (Looked Device n) = refl
known_of_own Driver (Cleared n) = omega arith
known_of_own Device (Sent Driver ds) = refl
known_of_own Device (Sent Device ds) = refl
known_of_own Device (Looked Driver n) = refl
known_of_own Device (Looked Device n) = omega arith
known_of_own Device (Cleared n) = refl

-- what a side sent and knows is told by its own steps
pub sent_own : (r : Side) (h : List Event) → sent r (own r h) ≡ sent r h
sent_own r [] = refl
sent_own r (e ∷ h) = sent_append r (own_in r e) (own r h) ∙ (λ k. sent_of_own r e k ++ sent_own r h k)

pub known_own : (r : Side) (h : List Event) → known r (own r h) ≡ known r h
known_own r [] = refl
known_own r (e ∷ h) = known_append r (own_in r e) (own r h) ∙ (λ k. known_of_own r e k + known_own r h k)

pub same_sent : (r : Side) (g h : List Event) → own r g ≡ own r h → sent r g ≡ sent r h
same_sent r g h e = sym (sent_own r g) ∙ ap (sent r) e ∙ sent_own r h

pub same_known : (r : Side) (g h : List Event) → own r g ≡ own r h → known r g ≡ known r h
same_known r g h e = sym (known_own r g) ∙ ap (known r) e ∙ known_own r h

longer : (g h : List Event) (e : Event) → IsPrefix g h → IsPrefix g (h ++ e ∷ [])
longer g h e p = (p.0 ++ e ∷ [], sym (append_assoc g p.0 (e ∷ [])) ∙ ap (λ (z : List Event). z ++ e ∷ []) p.1)

-- e is a step of the side r
abbrev pub Is : Side → Event → Type 0
Is r e = (own_in r e ≡ e ∷ []) × (own_in (other r) e ≡ [])

pub self : (r : Side) → Acts (End r) r
self Driver = tt
self Device = tt

other_own : (q r : Side) (e : Event) → (Acts (End q) r → ⊥) → Is r e → own_in q e ≡ []
other_own Driver Driver e n is = absurd (n tt)
other_own Driver Device e n is = is.1
other_own Device Driver e n is = is.1
other_own Device Device e n is = absurd (n tt)

stays : (S : ℕ) (log : List Event) (homes homes' : Homes Slot) (r : Side) (e : Event) → Is r e → (role : Role) (h : List Event) → (Acts role r → ⊥) → Knows S log homes role h → Knows S (log ++ e ∷ []) homes' role h
stays S log homes homes' r e is Whole h n k = absurd (n tt)
stays S log homes homes' r e is Full h n k = absurd (n tt)
stays S log homes homes' r e is (End q) h n k = (longer h log e k.0, k.1 ∙ sym (append-nil (own q log)) ∙ ap (λ (z : List Event). own q log ++ z) (sym (append-nil (own_in q e) ∙ other_own q r e n is)) ∙ sym (own_append q log (e ∷ [])))
stays S log homes homes' r e is Note h n k = longer h log e k
stays S log homes homes' r e is (Closing g) h n k = absurd (n tt)

all_fine : (h : List Event) (e : Event) → AllFine h → IsFine e → AllFine (h ++ e ∷ [])
all_fine [] e a f = (f, tt)
all_fine (x ∷ h) e a f = (a.0, all_fine h e a.1 f)

prefix_cases : (g h t : List Event) (e : Event) → g ++ t ≡ h ++ e ∷ [] → IsPrefix g h ⊎ (g ≡ h ++ e ∷ [])
prefix_cases g h t e p =
    let n : ℕ = length g in
    let cut : g ≡ take n (h ++ e ∷ []) = sym (take_of g t) ∙ ap (take n) p in
    dite (dec_le n (length h))
    (λ le. let q : g ≡ take n h = cut ∙ take-append-le n h (e ∷ []) le in inl (drop n h, ap (λ (z : List Event). z ++ drop n h) q ∙ take_drop n h))
    (λ gt. inr (cut ∙ take_whole n (h ++ e ∷ []) (let l = length-append h (e ∷ []) in omega arith)))
  where
    take_of : (x y : List Event) → take (length x) (x ++ y) ≡ x
    take_of [] y = refl
    take_of (a ∷ x) y = ap (λ (z : List Event). a ∷ z) (take_of x y)

    take_drop : (n : ℕ) (x : List Event) → take n x ++ drop n x ≡ x
    take_drop zero x = refl
    take_drop (suc n) [] = refl
    take_drop (suc n) (a ∷ x) = ap (λ (z : List Event). a ∷ z) (take_drop n x)

    take_whole : (n : ℕ) (x : List Event) → length x ≤ n → take n x ≡ x
    take_whole zero [] h = refl
    take_whole zero (a ∷ x) h = absurd (omega arith)
    take_whole (suc n) [] h = refl
    take_whole (suc n) (a ∷ x) h = ap (λ (z : List Event). a ∷ z) (take_whole n x (omega arith))

-- a history that goes on with one more step
pub lawful_more : (S : ℕ) (h : List Event) (e : Event) → IsLawful S h → InOrder S (h ++ e ∷ []) → IsFine e → IsLawful S (h ++ e ∷ [])
lawful_more S h e l o f = record {
  order = λ g p. ⊎_elim (λ (a : IsPrefix g h). l.order g a) (λ (b : g ≡ h ++ e ∷ []). subst (InOrder S) (sym b) o) (prefix_cases g h p.0 e p.1);
  frames = all_fine h e l.frames f;
}

module _ (S : ℕ) (tie : List ℕ → List Event → Type 0) where
  pub moved : (s : RingState) (t : Tied S tie s) (id : ℕ) (r : Side) (seen : List Event) (e : Event) (words : List ℕ) (homes : Homes Slot)
      → get_elem? s.views id ≡ some (view r seen) → Is r e → length homes ≡ S → tie words (t.log ++ e ∷ []) → InOrder S (t.log ++ e ∷ []) → IsFine e
      → ((q : Side) (i : ℕ) (d : Desc) → known (other q) (t.log ++ e ∷ []) ≤ i → get_elem? (sent q (t.log ++ e ∷ [])) i ≡ some d → get_elem? homes (i % S) ≡ some (some (Some d)))
      → Tied S tie record { words = words; homes = homes; views = set s.views id (view r (t.log ++ e ∷ [])) }
  moved s t id r seen e words homes at is size shows order fine home =
      let log' : List Event = t.log ++ e ∷ [] in let w : View = view r log' in let mine : id ≡ t.who r = t.one id (view r seen) at r (self r) in record {
        log = log';
        who = t.who;
        size = size;
        room = t.room;
        shows = shows;
        order = order;
        lawful = lawful_more S t.log e t.lawful order fine;
        at_home = home;
        each = λ j v a. ⊎_elim
            (λ (p : (j ≡ id) × (w ≡ v)). subst (λ (x : View). Knows S log' homes x.role x.seen) p.1 (([], append-nil log'), refl))
            (λ (p : (j ≢ id) × (get_elem? s.views j ≡ some v)). stays S t.log s.homes homes r e is v.role v.seen (λ acts. p.0 (t.one j v p.1 r acts ∙ sym mine)) (t.each j v p.1))
            (at_set s.views id j w v a);
        hears = λ j v a. ⊎_elim
            (λ (p : (j ≡ id) × (w ≡ v)). subst (λ (x : View). IsPrefix x.heard log') p.1 (log', refl))
            (λ (p : (j ≢ id) × (get_elem? s.views j ≡ some v)). longer v.heard t.log e (t.hears j v p.1))
            (at_set s.views id j w v a);
        one = λ j v a q acts. ⊎_elim
            (λ (p : (j ≡ id) × (w ≡ v)). p.0 ∙ t.one id (view r seen) at q (subst (λ (x : View). Acts x.role q) (sym p.1) acts))
            (λ (p : (j ≢ id) × (get_elem? s.views j ≡ some v)). t.one j v p.1 q acts)
            (at_set s.views id j w v a);
      }

-- what one more step adds
pub count : (q : Side) (h : List Event) (e : Event) → length (sent q (h ++ e ∷ [])) ≡ length (sent q h) + length (sent_in q e)
count q h e = ap length (sent_append q h (e ∷ []) ∙ ap (λ (z : List Desc). sent q h ++ z) (append-nil (sent_in q e))) ∙ length-append (sent q h) (sent_in q e)

pub tells : (q : Side) (h : List Event) (e : Event) → known q (h ++ e ∷ []) ≡ known q h + known_in q e
tells q h e = let a : ℕ = known q h in let b : ℕ = known_in q e in let c : ℕ = known q (h ++ e ∷ []) in let i : c ≡ a + (b + 0) = known_append q h (e ∷ []) in omega arith

-- n more may be sent
abbrev pub Fits : ℕ → Side → List Event → ℕ → Type 0
Fits S Driver h n = length (sent Driver h) + n < known Driver h + S
Fits S Device h n = length (sent Device h) + n ≤ known Device h

-- n more of the other side's are there
abbrev pub Lies : Side → List Event → ℕ → Type 0
Lies r h n = known r h + n ≤ length (sent (other r) h)

pub order_push : (S : ℕ) (h : List Event) (r : Side) (ds : List Desc) → InOrder S h → Fits S r h (length ds) → InOrder S (h ++ Sent r ds ∷ [])
order_push S h Driver ds o f = let e : Event = Sent Driver ds in let a = tells Driver h e in let b = count Device h e in let c = tells Device h e in let d = count Driver h e in
    let x = o.told in let y = o.done in let z = o.heard in let w = o.within in
    record { told = omega arith; done = omega arith; heard = omega arith; within = omega arith }
order_push S h Device ds o f = let e : Event = Sent Device ds in let a = tells Driver h e in let b = count Device h e in let c = tells Device h e in let d = count Driver h e in
    let x = o.told in let y = o.done in let z = o.heard in let w = o.within in
    record { told = omega arith; done = omega arith; heard = omega arith; within = omega arith }

-- a step at which the side r counts n more of the other side's, and sends nothing
pub record Counting (r : Side) (n : ℕ) (e : Event) : Type 0 where
  pub is : Is r e
  pub look : IsLook r e
  pub quiet : (q : Side) → sent_in q e ≡ []
  pub more : known_in r e ≡ n
  pub none : known_in (other r) e ≡ 0
  pub fine : IsFine e

quiet_look : (r q : Side) (n : ℕ) → sent_in q (Looked r n) ≡ []
quiet_look r Driver n = refl
quiet_look r Device n = refl

quiet_clear : (n : ℕ) (q : Side) → sent_in q (Cleared n) ≡ []
quiet_clear n Driver = refl
quiet_clear n Device = refl

pub looked_counts : (r : Side) (n : ℕ) → Counting r n (Looked r n)
looked_counts Driver n = record { is = (refl, refl); look = tt; quiet = λ q. quiet_look Driver q n; more = refl; none = refl; fine = tt }
looked_counts Device n = record { is = (refl, refl); look = tt; quiet = λ q. quiet_look Device q n; more = refl; none = refl; fine = tt }

pub cleared_counts : (n : ℕ) → Counting Driver n (Cleared n)
cleared_counts n = record { is = (refl, refl); look = tt; quiet = quiet_clear n; more = refl; none = refl; fine = tt }

alike : (r q : Side) (n : ℕ) (e : Event) → Counting r n e → known_in q e ≡ known_in q (Looked r n)
alike Driver Driver n e k = k.more
alike Driver Device n e k = k.none
alike Device Driver n e k = k.none
alike Device Device n e k = k.more

pub order_pull : (S : ℕ) (h : List Event) (r : Side) (n : ℕ) (e : Event) → Counting r n e → InOrder S h → Lies r h n → InOrder S (h ++ e ∷ [])
order_pull S h Driver n e k o f = let a = tells Driver h e in let b = count Device h e in let c = tells Device h e in let d = count Driver h e in
    let x = o.told in let y = o.done in let z = o.heard in let w = o.within in let m = k.more in let u = k.none in let p = ap length (k.quiet Driver) in let q = ap length (k.quiet Device) in
    record { told = omega arith; done = omega arith; heard = omega arith; within = omega arith }
order_pull S h Device n e k o f = let a = tells Driver h e in let b = count Device h e in let c = tells Device h e in let d = count Driver h e in
    let x = o.told in let y = o.done in let z = o.heard in let w = o.within in let m = k.more in let u = k.none in let p = ap length (k.quiet Driver) in let q = ap length (k.quiet Device) in
    record { told = omega arith; done = omega arith; heard = omega arith; within = omega arith }

-- a number of one window with a + k for k < n, and none of these
pub far : (S w a n i : ℕ) → w ≤ a → a + n ≤ w + S → w ≤ i → i < w + S → ((i < a) ⊎ (a + n ≤ i)) → Misses S a n (i % S)
far S w a n i p q u v side k h e = apart S w (a + k) i (omega arith) (omega arith) u v
    (λ z. ⊎_elim (λ (l : i < a). let no : ⊥ = omega arith in no) (λ (l : a + n ≤ i). let no : ⊥ = omega arith in no) side) e

pub at_below : {A : Type 0} (l : List A) (i : ℕ) (a : A) → get_elem? l i ≡ some a → i < length l
at_below [] i a e = absurd (some-ne-none a (sym e))
at_below (x ∷ l) zero a e = omega arith
at_below (x ∷ l) (suc i) a e = let h = at_below l i a e in omega arith

abbrev pub Behind : {A : Type 0} → List A → List A → ℕ → A → Type 0
Behind l m i a = (k : ℕ) × (i ≡ length l + k) × (get_elem? m k ≡ some a)

at_either : {A : Type 0} (l m : List A) (i : ℕ) (a : A) → get_elem? (l ++ m) i ≡ some a → (get_elem? l i ≡ some a) ⊎ Behind l m i a
at_either [] m i a e = inr (i, omega arith, e)
at_either (x ∷ l) m zero a e = inl e
at_either (x ∷ l) m (suc i) a e = ⊎_elim (λ (h : get_elem? l i ≡ some a). inl h) (λ (b : Behind l m i a). let is : i ≡ length l + b.0 = b.1 in inr (b.0, omega arith, b.2)) (at_either l m i a e)

abbrev pub AtHome : ℕ → List Event → Homes Slot → Type 0
AtHome S h homes = (q : Side) (i : ℕ) (d : Desc) → known (other q) h ≤ i → get_elem? (sent q h) i ≡ some d → get_elem? homes (i % S) ≡ some (some (Some d))

module _ (S : ℕ) (h : List Event) (homes : Homes Slot) (o : InOrder S h) (size : length homes ≡ S) (pos : 0 < S) (home : AtHome S h homes) where
  -- an entry at home lies in the window of the S numbers from what the driver knows on
  pub in_window : (q : Side) (i : ℕ) (d : Desc) → known (other q) h ≤ i → get_elem? (sent q h) i ≡ some d → (known Driver h ≤ i) × (i < known Driver h + S)
  in_window Driver i d le e = let b = at_below (sent Driver h) i d e in let x = o.told in let y = o.done in let z = o.heard in let w = o.within in (omega arith, omega arith)
  in_window Device i d le e = let b = at_below (sent Device h) i d e in let x = o.told in let y = o.done in let z = o.heard in let w = o.within in (omega arith, omega arith)

  module _ (r : Side) (ds : List Desc) (fits : Fits S r h (length ds)) where
    abbrev a : ℕ
    a = length (sent r h)

    abbrev more : List Slot
    more = map Some ds

    n_is : length more ≡ length ds
    n_is = length-map ds Some

    kept : (q : Side) (i : ℕ) (d : Desc) → known (other q) h ≤ i → get_elem? (sent q h) i ≡ some d → Misses S a (length more) (i % S) → get_elem? (places S homes a more) (i % S) ≡ some (some (Some d))
    kept q i d le e m = places_else S homes a more (i % S) m ∙ home q i d le e

  misses : (r q : Side) (ds : List Desc) (fits : Fits S r h (length ds)) (i : ℕ) (d : Desc) → known (other q) h ≤ i → get_elem? (sent q h) i ≡ some d → Misses S (length (sent r h)) (length (map Some ds)) (i % S)
  misses Driver Driver ds fits i d le e = let b = at_below (sent Driver h) i d e in let n = length-map ds Some in let v = in_window Driver i d le e in let x = o.told in let y = o.done in let z = o.heard in
      far S (known Driver h) (length (sent Driver h)) (length (map Some ds)) i (omega arith) (omega arith) v.0 v.1 (inl b)
  misses Driver Device ds fits i d le e = let b = at_below (sent Device h) i d e in let n = length-map ds Some in let v = in_window Device i d le e in let x = o.told in let y = o.done in let z = o.heard in
      far S (known Driver h) (length (sent Driver h)) (length (map Some ds)) i (omega arith) (omega arith) v.0 v.1 (inl (omega arith))
  misses Device Driver ds fits i d le e = let b = at_below (sent Driver h) i d e in let n = length-map ds Some in let v = in_window Driver i d le e in let x = o.told in let y = o.done in let z = o.heard in let w = o.within in
      far S (known Driver h) (length (sent Device h)) (length (map Some ds)) i (omega arith) (omega arith) v.0 v.1 (inr (omega arith))
  misses Device Device ds fits i d le e = let b = at_below (sent Device h) i d e in let n = length-map ds Some in let v = in_window Device i d le e in let x = o.told in let y = o.done in let z = o.heard in let w = o.within in
      far S (known Driver h) (length (sent Device h)) (length (map Some ds)) i (omega arith) (omega arith) v.0 v.1 (inl b)

  pub push_home : (r : Side) (ds : List Desc) → Fits S r h (length ds) → AtHome S (h ++ Sent r ds ∷ []) (places S homes (length (sent r h)) (map Some ds))
  push_home r ds fits q i d le e =
      let ev : Event = Sent r ds in
      let t = tells (other q) h ev in
      let le0 : known (other q) h ≤ i = omega arith in
      let e0 : get_elem? (sent q h ++ sent_in q ev) i ≡ some d = ap (λ (z : List Desc). get_elem? z i) (sym (sent_append q h (ev ∷ []) ∙ ap (λ (z : List Desc). sent q h ++ z) (append-nil (sent_in q ev)))) ∙ e in
      ⊎_elim (λ (x : get_elem? (sent q h) i ≡ some d). kept r ds fits q i d le0 x (misses r q ds fits i d le0 x))
      (λ (b : Behind (sent q h) (sent_in q ev) i d). fresh r q ds fits i d b)
      (at_either (sent q h) (sent_in q ev) i d e0)
    where
      short : (r : Side) (ds : List Desc) → Fits S r h (length ds) → length (map Some ds) ≤ S
      short Driver ds fits = let n = length-map ds Some in let x = o.told in let y = o.done in let z = o.heard in let w = o.within in omega arith
      short Device ds fits = let n = length-map ds Some in let x = o.told in let y = o.done in let z = o.heard in let w = o.within in omega arith

      put : (r : Side) (ds : List Desc) → Fits S r h (length ds) → (i : ℕ) (d : Desc) → Behind (sent r h) ds i d → get_elem? (places S homes (length (sent r h)) (map Some ds)) (i % S) ≡ some (some (Some d))
      put r ds fits i d b = ap (λ (j : ℕ). get_elem? (places S homes (length (sent r h)) (map Some ds)) (j % S)) b.1
          ∙ places_here S homes (length (sent r h)) (map Some ds) size (short r ds fits) pos b.0 (Some d) (at_map Some ds b.0 d b.2)

      fresh : (r q : Side) (ds : List Desc) → Fits S r h (length ds) → (i : ℕ) (d : Desc) → Behind (sent q h) (sent_in q (Sent r ds)) i d → get_elem? (places S homes (length (sent r h)) (map Some ds)) (i % S) ≡ some (some (Some d))
      fresh Driver Driver ds fits i d b = put Driver ds fits i d b
      fresh Driver Device ds fits i d b = absurd (some-ne-none d (sym b.2))
      fresh Device Driver ds fits i d b = absurd (some-ne-none d (sym b.2))
      fresh Device Device ds fits i d b = put Device ds fits i d b

at_take : {A : Type 0} (n : ℕ) (l : List A) (i : ℕ) (a : A) → get_elem? (take n l) i ≡ some a → get_elem? l i ≡ some a
at_take zero l i a e = absurd (some-ne-none a (sym e))
at_take (suc n) [] i a e = absurd (some-ne-none a (sym e))
at_take (suc n) (x ∷ l) zero a e = e
at_take (suc n) (x ∷ l) (suc i) a e = at_take n l i a e

at_drop : {A : Type 0} (n : ℕ) (l : List A) (i : ℕ) (a : A) → get_elem? (drop n l) i ≡ some a → get_elem? l (n + i) ≡ some a
at_drop zero l i a e = ap (λ (j : ℕ). get_elem? l j) (let g : 0 + i ≡ i = omega arith in g) ∙ e
at_drop (suc n) [] i a e = absurd (some-ne-none a (sym e))
at_drop (suc n) (x ∷ l) i a e = ap (λ (j : ℕ). get_elem? (x ∷ l) j) (let g : suc n + i ≡ suc (n + i) = omega arith in g) ∙ at_drop n l i a e

at_unmap : {A B : Type 0} (f : A → B) (l : List A) (i : ℕ) (b : B) → get_elem? (map f l) i ≡ some b → (a : A) × (f a ≡ b) × (get_elem? l i ≡ some a)
at_unmap f [] i b e = absurd (some-ne-none b (sym e))
at_unmap f (x ∷ l) zero b e = (x, some-injective (f x) b e, refl)
at_unmap f (x ∷ l) (suc i) b e = at_unmap f l i b e

pub take_length : {A : Type 0} (n : ℕ) (l : List A) → n ≤ length l → length (take n l) ≡ n
take_length zero l h = refl
take_length (suc n) [] h = absurd (omega arith)
take_length (suc n) (x ∷ l) h = ap suc (take_length n l (omega arith))

-- the n entries of the other side's behind those that r knows of
abbrev pub news : Side → List Event → ℕ → List Desc
news r h n = take n (drop (known r h) (sent (other r) h))

pub news_length : (r : Side) (h : List Event) (n : ℕ) → Lies r h n → length (map Some (news r h n)) ≡ n
news_length r h n lies = let k : ℕ = known r h in let l : List Desc = sent (other r) h in let z = length-drop k l in
    length-map (news r h n) Some ∙ take_length n (drop k l) (omega arith)

module _ (S : ℕ) (h : List Event) (homes : Homes Slot) (o : InOrder S h) (pos : 0 < S) (home : AtHome S h homes) where
  pub news_home : (r : Side) (n : ℕ) (i : ℕ) (x : Slot) → get_elem? (map Some (news r h n)) i ≡ some x → get_elem? homes ((known r h + i) % S) ≡ some (some x)
  news_home Driver n i x e = let u = at_unmap Some (news Driver h n) i x e in let k : ℕ = known Driver h in
      home Device (k + i) u.0 (omega arith) (at_drop k (sent Device h) i u.0 (at_take n (drop k (sent Device h)) i u.0 u.2)) ∙ ap (λ (z : Slot). some (some z)) u.1
  news_home Device n i x e = let u = at_unmap Some (news Device h n) i x e in let k : ℕ = known Device h in
      home Driver (k + i) u.0 (omega arith) (at_drop k (sent Driver h) i u.0 (at_take n (drop k (sent Driver h)) i u.0 u.2)) ∙ ap (λ (z : Slot). some (some z)) u.1

  gone : (r q : Side) (n : ℕ) → Lies r h n → (i : ℕ) (d : Desc) → known (other q) h + known_in (other q) (Looked r n) ≤ i → get_elem? (sent q h) i ≡ some d → Misses S (known r h) n (i % S)
  gone Driver Driver n lies i d le e = let b = at_below (sent Driver h) i d e in let x = o.told in let y = o.done in let z = o.heard in let w = o.within in
      far S (known Driver h) (known Driver h) n i (omega arith) (omega arith) (omega arith) (omega arith) (inr (omega arith))
  gone Driver Device n lies i d le e = let b = at_below (sent Device h) i d e in let x = o.told in let y = o.done in let z = o.heard in let w = o.within in
      far S (known Driver h) (known Driver h) n i (omega arith) (omega arith) (omega arith) (omega arith) (inr (omega arith))
  gone Device Driver n lies i d le e = let b = at_below (sent Driver h) i d e in let x = o.told in let y = o.done in let z = o.heard in let w = o.within in
      far S (known Driver h) (known Device h) n i (omega arith) (omega arith) (omega arith) (omega arith) (inr (omega arith))
  gone Device Device n lies i d le e = let b = at_below (sent Device h) i d e in let x = o.told in let y = o.done in let z = o.heard in let w = o.within in
      far S (known Driver h) (known Device h) n i (omega arith) (omega arith) (omega arith) (omega arith) (inl (omega arith))

  same_list : (r q : Side) (n : ℕ) (ev : Event) → Counting r n ev → sent q (h ++ ev ∷ []) ≡ sent q h
  same_list r q n ev k = sent_append q h (ev ∷ []) ∙ ap (λ (z : List Desc). sent q h ++ z) (append-nil (sent_in q ev) ∙ k.quiet q) ∙ append-nil (sent q h)

  pub pull_home : (r : Side) (n : ℕ) (ev : Event) → Counting r n ev → Lies r h n → (c : List (ℕ × Slot)) → AtHome S (h ++ ev ∷ []) (homes_after homes c (takes_all S (known r h) (map Some (news r h n))))
  pull_home r n ev k lies c q i d le e =
      let t = tells (other q) h ev in
      let as_look = alike r (other q) n ev k in
      let e0 : get_elem? (sent q h) i ≡ some d = ap (λ (z : List Desc). get_elem? z i) (sym (same_list r q n ev k)) ∙ e in
      let le0 : known (other q) h + known_in (other q) (Looked r n) ≤ i = omega arith in
      let le1 : known (other q) h ≤ i = omega arith in
      let m : Misses S (known r h) (length (map Some (news r h n))) (i % S) = subst (λ (z : ℕ). Misses S (known r h) z (i % S)) (sym (news_length r h n lies)) (gone r q n lies i d le0 e0) in
      taken_else S homes c (known r h) (map Some (news r h n)) (i % S) m ∙ home q i d le1 e0
