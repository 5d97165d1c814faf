-- What a hand's own step asks and tells.
use Rattle.std.proofs.Common.{◌≡◌, ℕ, zero, suc, ◌+◌, ◌-◌, ◌%◌, ◌<◌, ◌≤◌, List, [], ◌∷◌, ◌++◌, map, length, take, drop, set, get_or, replicate, sym, refl, ap, ◌∙◌, subst, arith, mod-lt, mod-eq_of_lt, append-nil, length-append}
use mathlib.Core.Logic.{dite}
use mathlib.Core.Option.{none}
use mathlib.Core.List.{IsPrefix}
use native.Mathlib.Decide.{dec_le}
use Rattle.std.proofs.Math.Nat.{mod-add-mod, add-mod_right}
use Rattle.std.specs.Prelude.{Some, None}
use Rattle.atomic_table.specs.Table.{Me, Step, step, Allows}
use Rattle.ifl_desc.specs.declared.desc.Desc.{Desc}
use Rattle.ifl_desc.specs.declared.history.Side.{Side}
use Rattle.ifl_desc.specs.declared.history.Side.TheVariants.{Driver, Device}
use Rattle.ifl_desc.specs.declared.history.Event.{Event}
use Rattle.ifl_desc.specs.declared.history.Event.TheVariants.{Sent, Looked, Cleared}
use Rattle.ifl_desc.specs.declared.history.View.{View}
use Rattle.ifl_desc.specs.declared.rack.Rack.{Rack}
use Rattle.ifl_desc.specs.History.{other, sent_in, sent, known, own}
use Rattle.ifl_desc.specs.Frames.{IsFine}
use Rattle.ifl_desc.specs.Rule.{Slot, laid, view, InOrder, Tied}
use Rattle.ifl_desc.specs.Plays.{distance, valued, further, pushed_by, pushed, counted, pulled}
use Rattle.ifl_desc.specs.Calls.{Grew}
use Rattle.ifl_desc.specs.Rack.{IsRack, placed, seen_of, ahead}
use Rattle.ifl_desc.proofs.Steps.{Fits, Lies, Counting, looked_counts, sent_append, known_append, own_append, same_known, tells}
use Rattle.ifl_desc.proofs.Allowed.{Has, pushing, pulling}
use Rattle.ifl_desc.proofs.Rows.{laid_append, laid_length, placed_is, map_length}
use Rattle.ifl_desc.proofs.Racks.{known_there}

-- the distance from a to the word of a + n
pub distance_is : (S a n : ℕ) → 0 < S → n < S → distance S a ((a + n) % S) ≡ n
distance_is S a n pos lt =
    let r : ℕ = a % S in
    let r_lt : r < S = mod-lt a pos in
    let e : (a + n) % S ≡ (r + n) % S = sym (mod-add-mod a S n) in
    ap (λ (z : ℕ). (z + (S - r)) % S) e ∙ dite (dec_le S (r + n))
    (λ over. let m : ℕ = (r + n) - S in
    let w : (r + n) % S ≡ m = ap (λ (z : ℕ). z % S) (let g : r + n ≡ m + S = omega arith in g) ∙ add-mod_right m S ∙ mod-eq_of_lt (let g : m < S = omega arith in g) in
    ap (λ (z : ℕ). (z + (S - r)) % S) w ∙ ap (λ (z : ℕ). z % S) (let g : m + (S - r) ≡ n = omega arith in g) ∙ mod-eq_of_lt lt)
    (λ under. let u : r + n < S = omega arith in
    ap (λ (z : ℕ). (z + (S - r)) % S) (mod-eq_of_lt u) ∙ ap (λ (z : ℕ). z % S) (let g : (r + n) + (S - r) ≡ n + S = omega arith in g) ∙ add-mod_right n S ∙ mod-eq_of_lt lt)

nil_of : {A : Type 0} (x y : List A) → x ≡ x ++ y → y ≡ []
nil_of x [] e = refl
nil_of x (a ∷ y) e = let l : length x ≡ length x + suc (length y) = ap length e ∙ length-append x (a ∷ y) in absurd (omega arith)

-- a side's steps in what it has not seen: none
pub own_rest : (r : Side) (seen t : List Event) → own r seen ≡ own r (seen ++ t) → own r t ≡ []
own_rest r seen t e = nil_of (own r seen) (own r t) (e ∙ own_append r seen t)

grew : (r : Side) (seen h : List Event) (e e' : Event) → Has r seen h → e ≡ e' → Grew r seen (h ++ e ∷ []) e'
grew r seen h e e' has is = (has.0.0, (λ i. sym has.0.1 i ++ is i ∷ []), own_rest r seen has.0.0 (has.1 ∙ ap (own r) (sym has.0.1)))

abbrev pub Mine : Type 0
Mine = Me Slot View

looked_known : (r : Side) (g : List Event) (n : ℕ) → known r (g ++ Looked r n ∷ []) ≡ known r g + n
looked_known Driver g n = tells Driver g (Looked Driver n)
looked_known Device g n = tells Device g (Looked Device n)

looked_none : (r q : Side) (n : ℕ) → sent q (Looked r n ∷ []) ≡ []
looked_none r Driver n = refl
looked_none r Device n = refl

pub looked_sent : (r q : Side) (g : List Event) (n : ℕ) → sent q (g ++ Looked r n ∷ []) ≡ sent q g
looked_sent r q g n = sent_append q g (Looked r n ∷ []) ∙ ap (λ (z : List Desc). sent q g ++ z) (looked_none r q n) ∙ append-nil (sent q g)

pub sent_known : (r : Side) (g : List Event) (e : Event) → known r (g ++ e ∷ []) ≡ known r g + known r (e ∷ [])
sent_known r g e = known_append r g (e ∷ [])

module _ (r : Side) (h : Rack) (k : IsRack r h) where
  abbrev S : ℕ
  S = h.size

  abbrev seen : List Event
  seen = seen_of h

  abbrev a : ℕ
  a = length (sent r seen)

  abbrev p : List Desc
  p = placed h

  abbrev R : List Slot
  R = replicate h.bare None ++ map Some (ahead r seen h.left)

  abbrev c : List (ℕ × Slot)
  c = laid S (a + length (map {A = Desc} {B = Slot} Some p)) R

  abbrev me : Mine
  me = (view r seen, laid S a (map Some p) ++ c)

  me_is : h.seat.me ≡ me
  me_is = λ i. (k.role i, (k.rack ∙ laid_append S a (map Some p) R) i)

  pub rack_pushes_by : (many : Step Slot → List Event → ℕ) (tie : List ℕ → List Event → Type 0) (id i new : ℕ) → many (step S i new 0 none) seen ≡ h.put → Fits S r seen h.put → IsFine (Sent r p)
      → ((ws : List ℕ) (g : List Event) → Has r seen g → InOrder S g → tie ws g → tie (set ws i new) (g ++ Sent r p ∷ []))
      → Allows (Tied S tie) S id h.seat.me i (λ _. new) (λ _ m'. pushed_by many r (step S i new 0 none) h.seat.me new m')
  rack_pushes_by by tie id i new n_is fits fine shows =
      let T : Mine → Type 0 = λ m. Allows (Tied S tie) S id m i (λ _. new) (λ _ m'. pushed_by by r (step S i new 0 none) m new m') in
      let n : ℕ = by (step S i new 0 none) seen in
      let fits' : Fits S r seen (length p) = subst (Fits S r seen) (sym k.many) fits in
      let rack : laid S a (map Some p) ++ c ≡ laid S a (map Some p ++ R) = sym (laid_append S a (map Some p) R) in
      let list : p ≡ valued (take n (laid S a (map Some p) ++ c)) = sym (placed_is S a n p R (laid S a (map Some p) ++ c) (k.many ∙ sym n_is) rack) in
      let many : length (laid S a (map {A = Desc} {B = Slot} Some p)) ≡ n = laid_length S a (map Some p) ∙ map_length p ∙ k.many ∙ sym n_is in
      subst T (sym me_is) (pushing S tie id r seen p c i new (λ _ m'. pushed_by by r (step S i new 0 none) me new m') fits' fine shows
      (λ x g has order all. (refl, grew r seen g (Sent r p) (Sent r (valued (take n (laid S a (map Some p) ++ c)))) has (ap (Sent r) list), order, all, sym (dropped n (laid S a (map Some p)) c many))))
    where
      dropped : (n : ℕ) (x y : List (ℕ × Slot)) → length x ≡ n → drop n (x ++ y) ≡ y
      dropped zero [] y e = refl
      dropped zero (u ∷ x) y e = absurd (omega arith)
      dropped (suc n) [] y e = absurd (omega arith)
      dropped (suc n) (u ∷ x) y e = dropped n x y (omega arith)

  pub rack_pushes : (tie : List ℕ → List Event → Type 0) (id i new : ℕ) → h.put < S → Fits S r seen h.put → IsFine (Sent r p) → new ≡ (a + h.put) % S
      → ((ws : List ℕ) (g : List Event) → Has r seen g → InOrder S g → tie ws g → tie (set ws i new) (g ++ Sent r p ∷ []))
      → Allows (Tied S tie) S id h.seat.me i (λ _. new) (λ _ m'. pushed r (step S i new 0 none) h.seat.me new m')
  rack_pushes tie id i new short fits fine word shows = rack_pushes_by (further r) tie id i new (ap (distance S a) word ∙ distance_is S a h.put k.some short) fits fine shows

  few : (r : Side) (g : List Event) → InOrder S g → length (sent (other r) g) - known r g < S
  few Driver g o = let x = o.told in let y = o.done in let z = o.heard in let w = o.within in omega arith
  few Device g o = let x = o.told in let y = o.done in let z = o.heard in let w = o.within in omega arith

  pub rack_pulls : (tie : List ℕ → List Event → Type 0) (id i : ℕ)
      → ((ws : List ℕ) (g : List Event) → tie ws g → (get_or ws i 0 ≡ length (sent (other r) g) % S) × ((n : ℕ) → tie (set ws i (get_or ws i 0)) (g ++ Looked r n ∷ [])))
      → Allows (Tied S tie) S id h.seat.me i (λ x. x) (λ x m'. pulled r (step S i 0 0 none) h.seat.me x m')
  rack_pulls tie id i shows =
      let T : Mine → Type 0 = λ m. Allows (Tied S tie) S id m i (λ x. x) (λ x m'. pulled r (step S i 0 0 none) m x m') in
      subst T (sym me_is) (pulling S tie id r seen (laid S a (map Some p) ++ c) i (λ x. x) (Looked r) (looked_counts r) (λ x m'. pulled r (step S i 0 0 none) me x m')
      (λ ws g has order f.
      let list : List Desc = sent (other r) g in
      let x : ℕ = length list - known r g in
      let there = known_there S r g order in
      let same : known r seen ≡ known r g = same_known r seen g has.1 in
      let n : ℕ = distance S (known r seen) (get_or ws i 0) in
      let as_many : length list ≡ known r seen + x = omega arith in
      let n_is : n ≡ x = ap (distance S (known r seen)) ((shows ws g f).0 ∙ ap (λ (z : ℕ). z % S) as_many) ∙ distance_is S (known r seen) x k.some (few r g order) in
      let rest : List (ℕ × Slot) = laid S a (map Some p) ++ c in (
        x,
        (let l : known r g + x ≤ length list = omega arith in l),
        (shows ws g f).1 x,
        λ order' all. (
          refl,
          grew r seen g (Looked r x) (Looked r n) has (ap (Looked r) (sym n_is)),
          order',
          all,
          looked_known r g x ∙ (let l : known r g + x ≡ length list = omega arith in l) ∙ ap length (sym (looked_sent r (other r) g x)),
          (λ j. laid S (known r seen) (map Some (take (sym n_is j) (drop (sym same j) (sym (looked_sent r (other r) g x) j)))) ++ rest),
          (shows ws g f).0 ∙ ap (λ (z : List Desc). length z % S) (sym (looked_sent r (other r) g x)),
        ),
      )))

  -- a step that counts as many as the words show, which may be fewer than are there
  pub rack_counts : (tie : List ℕ → List Event → Type 0) (id i : ℕ) (f : ℕ → ℕ) (ev : ℕ → Event) (counting : (n : ℕ) → Counting r n (ev n)) (then : ℕ → Mine → Type 0)
      → ((ws : List ℕ) (g : List Event) → Has r seen g → InOrder S g → tie ws g
      → (n : ℕ) × Lies r g n × tie (set ws i (f (get_or ws i 0))) (g ++ ev n ∷ []) × ((m' : Mine) → m'.0.seen ≡ g ++ ev n ∷ [] → counted r S (ev n) n h.seat.me m' → then (get_or ws i 0) m'))
      → Allows (Tied S tie) S id h.seat.me i f then
  rack_counts tie id i f ev counting then goes =
      let T : Mine → Type 0 = λ m. Allows (Tied S tie) S id m i f then in
      let rest : List (ℕ × Slot) = laid S a (map Some p) ++ c in
      subst T (sym me_is) (pulling S tie id r seen rest i f ev counting then
      (λ ws g has order shown.
      let got = goes ws g has order shown in
      let n : ℕ = got.0 in
      let e : Event = ev n in
      let same : known r seen ≡ known r g = same_known r seen g has.1 in
      let list : sent (other r) (g ++ e ∷ []) ≡ sent (other r) g = counted_sent (other r) g n e (counting n) in
      let m' : Mine = (view r (g ++ e ∷ []), laid S (known r seen) (map Some (take n (drop (known r g) (sent (other r) g)))) ++ rest) in (
        n,
        got.1,
        got.2,
        λ order' all. got.3 m' refl (subst (λ (z : Mine). counted r S e n z m') (sym me_is) (
          refl,
          grew r seen g e e has refl,
          order',
          all,
          (λ j. laid S (known r seen) (map Some (take n (drop (sym same j) (sym list j)))) ++ rest),
        )),
      )))
    where
      counted_sent : (q : Side) (g : List Event) (n : ℕ) (e : Event) → Counting r n e → sent q (g ++ e ∷ []) ≡ sent q g
      counted_sent q g n e u = sent_append q g (e ∷ []) ∙ ap (λ (z : List Desc). sent q g ++ z) (append-nil (sent_in q e) ∙ u.quiet q) ∙ append-nil (sent q g)

no_event : {e : Event} {u : List Event} → e ∷ u ≡ [] → ⊥
no_event {e} {u} p = let l : suc (length u) ≡ 0 = ap length p in omega arith

-- each event is one side's own
own_none : (u : List Event) → own Driver u ≡ [] → own Device u ≡ [] → u ≡ []
own_none [] a b = refl
own_none (Sent Driver ds ∷ u) a b = absurd (no_event a)
own_none (Sent Device ds ∷ u) a b = absurd (no_event b)
own_none (Looked Driver n ∷ u) a b = absurd (no_event a)
own_none (Looked Device n ∷ u) a b = absurd (no_event b)
own_none (Cleared n ∷ u) a b = absurd (no_event a)

-- a beginning with all of both sides' steps is the whole history
pub all_seen : (s log : List Event) → IsPrefix s log → own Driver s ≡ own Driver log → own Device s ≡ own Device log → s ≡ log
all_seen s log p a b =
    let t : List Event = p.0 in
    let none : t ≡ [] = own_none t (own_rest Driver s t (a ∙ ap (own Driver) (sym p.1))) (own_rest Device s t (b ∙ ap (own Device) (sym p.1))) in
    sym (append-nil s) ∙ ap (λ (z : List Event). s ++ z) (sym none) ∙ p.1
