-- A hand after a step of its own.
use Rattle.std.proofs.Common.{◌≡◌, ℕ, suc, ◌+◌, ◌-◌, ◌%◌, ◌<◌, ◌≤◌, List, [], ◌∷◌, ◌++◌, map, length, take, drop, replicate, sym, refl, ap, ◌∙◌, subst, arith, append_assoc, append-nil, length-append, length-drop}
use mathlib.Core.Option.{none}
use mathlib.Core.List.{IsPrefix}
use Rattle.std.proofs.Math.Nat.{add-mod_right}
use Rattle.std.proofs.Math.Seq.{take-add}
use lib.Seq.{drop-append-le}
use Rattle.std.proofs.lemmas.List.{take-append-le}
use Rattle.std.specs.Prelude.{Some, None}
use Rattle.atomic_table.specs.Table.{Me, Step, step}
use Rattle.ifl_desc.specs.declared.desc.Desc.{Desc}
use Rattle.ifl_desc.specs.declared.history.Side.{Side}
use Rattle.ifl_desc.specs.declared.history.Side.TheVariants.{Driver, Device}
use Rattle.ifl_desc.specs.declared.history.Event.{Event}
use Rattle.ifl_desc.specs.declared.history.Event.TheVariants.{Sent, Looked}
use Rattle.ifl_desc.specs.declared.history.View.{View}
use Rattle.ifl_desc.specs.declared.rack.Rack.{Rack}
use Rattle.ifl_desc.specs.History.{other, sent_in, sent, known, own}
use Rattle.ifl_desc.specs.Rule.{Slot, laid, view, InOrder}
use Rattle.ifl_desc.specs.Plays.{distance, valued, further, pushed_by, pushed, counted, pulled}
use Rattle.ifl_desc.specs.Calls.{Grew}
use Rattle.ifl_desc.specs.Rack.{IsRack, placed, taken, seen_of, ahead, row, spin}
use Rattle.ifl_desc.proofs.Steps.{Counting, looked_counts, sent_append, known_append, same_sent, same_known, take_length}
use Rattle.ifl_desc.proofs.Turning.{spin_all}
use Rattle.ifl_desc.proofs.Rows.{laid_append, laid_length, drop_front, map_length, map_append, row_length}
use Rattle.ifl_desc.proofs.Racks.{known_there, ahead_length, made}
use Rattle.ifl_desc.proofs.OwnSteps.{distance_is}

module _ (r : Side) (g h : List Event) (e : Event) (w : Grew r g h e) where
  split : (q : Side) → sent q h ≡ (sent q g ++ sent q w.0) ++ sent q (e ∷ [])
  split q = ap (sent q) w.1 ∙ sent_append q (g ++ w.0) (e ∷ []) ∙ ap (λ (z : List Desc). z ++ sent q (e ∷ [])) (sent_append q g w.0)

  pub grew_sent : sent r h ≡ sent r g ++ sent r (e ∷ [])
  grew_sent = split r ∙ ap (λ (z : List Desc). (sent r g ++ z) ++ sent r (e ∷ [])) (same_sent r w.0 [] w.2) ∙ ap (λ (z : List Desc). z ++ sent r (e ∷ [])) (append-nil (sent r g))

  pub grew_known : known r h ≡ known r g + known r (e ∷ [])
  grew_known = let a = ap (known r) w.1 in let b = known_append r (g ++ w.0) (e ∷ []) in let c = known_append r g w.0 in let d : known r w.0 ≡ 0 = same_known r w.0 [] w.2 in
      a ∙ b ∙ (let x : ℕ = known r (g ++ w.0) in let y : ℕ = known r g in let z : ℕ = known r w.0 in let v : ℕ = known r (e ∷ []) in let s : x + v ≡ y + v = omega arith in s)

  pub grew_prefix : IsPrefix g h
  grew_prefix = (w.0 ++ e ∷ [], sym (append_assoc g w.0 (e ∷ [])) ∙ sym w.1)

  pub grew_other : (q : Side) → (more : List Desc) × (sent q h ≡ sent q g ++ more)
  grew_other q = (sent q w.0 ++ sent q (e ∷ []), split q ∙ append_assoc (sent q g) (sent q w.0) (sent q (e ∷ [])))

  -- what was known of the other side stands as it stood
  pub still : (S : ℕ) → InOrder S g → take (known r g) (sent (other r) h) ≡ take (known r g) (sent (other r) g)
  still S o = let m = grew_other (other r) in ap (take (known r g)) m.1 ∙ take-append-le (known r g) (sent (other r) g) m.0 (known_there S r g o)

looked_one : (r : Side) (n : ℕ) → known r (Looked r n ∷ []) ≡ n
looked_one Driver n = omega arith
looked_one Device n = omega arith

looked_nil : (r q : Side) (n : ℕ) → sent q (Looked r n ∷ []) ≡ []
looked_nil r Driver n = refl
looked_nil r Device n = refl

-- a whole turn of the ring further on
pub laid_shift : {X : Type 0} (S b : ℕ) (xs : List X) → laid S (b + S) xs ≡ laid S b xs
laid_shift S b [] = refl
laid_shift S b (x ∷ xs) = λ i. (add-mod_right b S i, x) ∷ (ap (λ (z : ℕ). laid S z xs) (let g : suc (b + S) ≡ suc b + S = omega arith in g) ∙ laid_shift S (suc b) xs) i

-- a step that sends nothing
pub quiet_sent : (r : Side) (g h : List Event) (n : ℕ) (e : Event) → Counting r n e → Grew r g h e → sent r h ≡ sent r g
quiet_sent r g h n e k w = grew_sent r g h e w ∙ ap (λ (z : List Desc). sent r g ++ z) (append-nil (sent_in r e) ∙ k.quiet r) ∙ append-nil (sent r g)

pub kept_sent : (r : Side) (g h : List Event) (n : ℕ) → Grew r g h (Looked r n) → sent r h ≡ sent r g
kept_sent r g h n w = grew_sent r g h (Looked r n) w ∙ ap (λ (z : List Desc). sent r g ++ z) (looked_nil r r n) ∙ append-nil (sent r g)

pub more_known : (r : Side) (g h : List Event) (n : ℕ) → Grew r g h (Looked r n) → known r h ≡ known r g + n
more_known r g h n w = grew_known r g h (Looked r n) w ∙ ap (λ (z : ℕ). known r g + z) (looked_one r n)

sent_one : (r : Side) (ds : List Desc) → sent r (Sent r ds ∷ []) ≡ ds
sent_one Driver ds = append-nil ds
sent_one Device ds = append-nil ds

known_one : (r : Side) (ds : List Desc) → known r (Sent r ds ∷ []) ≡ 0
known_one Driver ds = refl
known_one Device ds = refl

module _ (r : Side) (h : Rack) (k : IsRack r h) where
  abbrev S : ℕ
  S = h.size

  abbrev seen : List Event
  seen = seen_of h

  abbrev a : ℕ
  a = length (sent r seen)

  abbrev p : List Desc
  p = placed h

  abbrev q : List Desc
  q = ahead r seen h.left

  pub push_done_by : (by : Step Slot → List Event → ℕ) (i new x : ℕ) → by (step S i new 0 none) seen ≡ h.put → (h' : Rack) → pushed_by by r (step S i new 0 none) h.seat.me x h'.seat.me
      → h'.seat.table_id.slots ≡ S → h'.size ≡ S → h'.first ≡ (a + h.put) % S → h'.put ≡ 0 → h'.bare ≡ h.bare → h'.left ≡ h.left
      → IsRack r h' × (placed h' ≡ []) × Grew r seen (seen_of h') (Sent r p)
  push_done_by by i new x n_is h' told id size first put bare left =
      let n : ℕ = by (step S i new 0 none) seen in
      let list : valued (take n h.seat.me.1) ≡ p = ap (λ (z : ℕ). valued (take z h.seat.me.1)) n_is in
      let seen' : List Event = seen_of h' in
      let w : Grew r seen seen' (Sent r p) = subst (λ (z : List Desc). Grew r seen seen' (Sent r z)) list told.1 in
      let e : Event = Sent r p in
      let s : sent r seen' ≡ sent r seen ++ p = grew_sent r seen seen' e w ∙ ap (λ (z : List Desc). sent r seen ++ z) (sent_one r p) in
      let a_is : length (sent r seen') ≡ a + h.put = ap length s ∙ length-append (sent r seen) p ∙ ap (λ (z : ℕ). a + z) k.many in
      let kn : known r seen' ≡ known r seen = grew_known r seen seen' e w ∙ (let z : known r (e ∷ []) ≡ 0 = known_one r p in let u : known r seen + known r (e ∷ []) ≡ known r seen = omega arith in u) in
      let q_is : ahead r seen' h'.left ≡ q = (λ j. drop (kn j - left j) (take (kn j) (sent (other r) seen'))) ∙ ap (drop (known r seen - h.left)) (still r seen seen' e w S k.order) in
      let R : List Slot = replicate h.bare None ++ map Some q in
      let rack : h'.seat.me.1 ≡ laid S (a + h.put) R =
      told.4 ∙ (λ j. drop (n_is j) (k.rack j)) ∙ ap (drop h.put) (laid_append S a (map Some p) R)
      ∙ drop_front S h.put (laid S a (map Some p)) (laid S (a + length (map {A = Desc} {B = Slot} Some p)) R) (laid_length S a (map Some p) ∙ map_length p ∙ k.many)
      ∙ ap (λ (z : ℕ). laid S (a + z) R) (map_length p ∙ k.many) in
      let m = made r h' [] told.0 (id ∙ sym size) (subst (λ (z : ℕ). 0 < z) (sym size) k.some) (subst (λ (z : ℕ). z ≤ 32768) (sym size) k.small)
      (rack ∙ (λ j. laid (sym size j) (sym a_is j) (replicate (sym bare j) None ++ map Some (sym q_is j))))
      (sym put)
      (first ∙ (λ j. sym a_is j % sym size j))
      (subst (λ (z : ℕ). h'.left ≤ z) (sym kn) (let l = k.left in omega arith))
      (subst (λ (z : ℕ). InOrder z seen') (sym size) told.2)
      (let f = k.fits in omega arith) in
      (m.0, m.1, w)

  pub push_done : (i new x : ℕ) → h.put < S → new ≡ (a + h.put) % S → (h' : Rack) → pushed r (step S i new 0 none) h.seat.me x h'.seat.me
      → h'.seat.table_id.slots ≡ S → h'.size ≡ S → h'.first ≡ new → h'.put ≡ 0 → h'.bare ≡ h.bare → h'.left ≡ h.left
      → IsRack r h' × (placed h' ≡ []) × Grew r seen (seen_of h') (Sent r p)
  push_done i new x short word h' told id size first put bare left = push_done_by (further r) i new x (ap (distance S a) word ∙ distance_is S a h.put k.some short) h' told id size (first ∙ word) put bare left

  pub count_done : (n : ℕ) (e : Event) → Counting r n e → ((xs : List Slot) → laid S (known r seen) xs ≡ laid S (a + ((h.put + h.bare) + h.left)) xs) → (m' : Me Slot View) → counted r S e n h.seat.me m'
      → (h' : Rack) → h'.seat.me.0 ≡ m'.0 → h'.seat.me.1 ≡ spin n m'.1
      → h'.seat.table_id.slots ≡ S → h'.size ≡ S → h'.first ≡ h.first → h'.put ≡ h.put → h'.bare ≡ h.bare → h'.left ≡ h.left + n → (h'.put + h'.bare) + h'.left ≤ S
      → IsRack r h' × (placed h' ≡ p) × Grew r seen (seen_of h') e
  count_done n e counting turn m' told h' me0 me1 id size first put bare left fits =
      let seen' : List Event = m'.0.seen in
      let es : seen_of h' ≡ seen' = ap (λ (z : View). z.seen) me0 in
      let w : Grew r seen seen' e = told.1 in
      let s : sent r seen' ≡ sent r seen = grew_sent r seen seen' e w ∙ ap (λ (z : List Desc). sent r seen ++ z) (append-nil (sent_in r e) ∙ counting.quiet r) ∙ append-nil (sent r seen) in
      let kn : known r seen' ≡ known r seen + n = let g = grew_known r seen seen' e w in let m = counting.more in omega arith in
      let list : List Desc = sent (other r) seen' in
      let news : List Desc = take n (drop (known r seen) list) in
      let all : known r seen' ≤ length list = known_there S r seen' told.2 in
      let news_many : length news ≡ n = take_length n (drop (known r seen) list) (let d = length-drop (known r seen) list in omega arith) in
      let below : known r seen - h.left ≤ length (take (known r seen) (sent (other r) seen)) = let t = take_length (known r seen) (sent (other r) seen) (known_there S r seen k.order) in omega arith in
      let q_is : ahead r seen' h'.left ≡ q ++ news =
      (λ j. drop ((let u : known r seen' - h'.left ≡ known r seen - h.left = omega arith in u) j) (take (kn j) list))
      ∙ ap (drop (known r seen - h.left)) (take-add (known r seen) n list ∙ ap (λ (z : List Desc). z ++ news) (still r seen seen' e w S k.order))
      ∙ drop-append-le (known r seen - h.left) (take (known r seen) (sent (other r) seen)) news below in
      let as_long : length (row p h.bare q) ≡ (h.put + h.bare) + h.left = let y = row_length p h.bare q in let z = ahead_length S r seen h.left k.order k.left in let v = k.many in omega arith in
      let joined : laid S a (row p h.bare q) ++ laid S (known r seen) (map Some news) ≡ laid S a (row p h.bare (q ++ news)) =
      ap (λ (z : List (ℕ × Slot)). laid S a (row p h.bare q) ++ z) (turn (map Some news) ∙ ap (λ (z : ℕ). laid S (a + z) (map Some news)) (sym as_long))
      ∙ sym (laid_append S a (row p h.bare q) (map Some news))
      ∙ ap (laid S a) (append_assoc (map Some p) (replicate h.bare None ++ map Some q) (map Some news)
      ∙ ap (λ (z : List Slot). map Some p ++ z) (append_assoc (replicate h.bare None) (map Some q) (map Some news) ∙ ap (λ (z : List Slot). replicate h.bare None ++ z) (sym (map_append q news)))) in
      let many : length (laid S (known r seen) (map {A = Desc} {B = Slot} Some news)) ≡ n = laid_length S (known r seen) (map Some news) ∙ map_length news ∙ news_many in
      let rack : h'.seat.me.1 ≡ laid S a (row p h.bare (q ++ news)) =
      me1 ∙ ap (spin n) told.4 ∙ ap (λ (z : ℕ). spin z (laid S (known r seen) (map Some news) ++ h.seat.me.1)) (sym many) ∙ spin_all (laid S (known r seen) (map Some news)) h.seat.me.1
      ∙ ap (λ (z : List (ℕ × Slot)). z ++ laid S (known r seen) (map Some news)) k.rack ∙ joined in
      let F : List Event → Type 0 = λ z. (h'.seat.me.1 ≡ laid h'.size (length (sent r z)) (row p h'.bare (ahead r z h'.left))) × (h'.first ≡ length (sent r z) % h'.size) × (h'.left ≤ known r z) × InOrder h'.size z in
      let f : F seen' = (
        rack ∙ (λ j. laid (sym size j) (length (sym s j)) (row p (sym bare j) (sym q_is j))),
        first ∙ k.first ∙ (λ j. length (sym s j) % sym size j),
        (let l = k.left in omega arith),
        subst (λ (z : ℕ). InOrder z seen') (sym size) told.2,
      ) in
      let f' : F (seen_of h') = subst F (sym es) f in
      let m = made r h' p (me0 ∙ told.0 ∙ (λ j. view r (sym es j))) (id ∙ sym size) (subst (λ (z : ℕ). 0 < z) (sym size) k.some) (subst (λ (z : ℕ). z ≤ 32768) (sym size) k.small)
      f'.0 (k.many ∙ sym put) f'.1 f'.2 f'.3 (let z : (h'.put + h'.bare) + h'.left ≤ h'.size = omega arith in z) in
      (m.0, m.1, subst (λ (z : List Event). Grew r seen z e) (sym es) w)

  pub pull_done : (i x : ℕ) → ((xs : List Slot) → laid S (known r seen) xs ≡ laid S (a + ((h.put + h.bare) + h.left)) xs) → (m' : Me Slot View) → pulled r (step S i 0 0 none) h.seat.me x m'
      → (h' : Rack) → h'.seat.me.0 ≡ m'.0 → h'.seat.me.1 ≡ spin (distance S (known r seen) x) m'.1
      → h'.seat.table_id.slots ≡ S → h'.size ≡ S → h'.first ≡ h.first → h'.put ≡ h.put → h'.bare ≡ h.bare → h'.left ≡ h.left + distance S (known r seen) x → (h'.put + h'.bare) + h'.left ≤ S
      → IsRack r h' × (placed h' ≡ p) × Grew r seen (seen_of h') (Looked r (distance S (known r seen) x))
  pull_done i x turn m' told h' me0 me1 id size first put bare left fits = let n : ℕ = distance S (known r seen) x in
      count_done n (Looked r n) (looked_counts r n) turn m' (told.0, told.1, told.2, told.3, told.5) h' me0 me1 id size first put bare left fits

  pub saw_done : (h' : Rack) → IsPrefix seen (seen_of h') → own r (seen_of h') ≡ own r seen → h'.seat.me.0 ≡ view r (seen_of h') → InOrder S (seen_of h') → h'.seat.me.1 ≡ h.seat.me.1
      → h'.seat.table_id.slots ≡ S → h'.size ≡ S → h'.first ≡ h.first → h'.put ≡ h.put → h'.bare ≡ h.bare → h'.left ≡ h.left → IsRack r h' × (placed h' ≡ p) × (taken r h' ≡ taken r h)
  saw_done h' pre mine role order slots id size first put bare left =
      let seen' : List Event = seen_of h' in
      let s : sent r seen' ≡ sent r seen = same_sent r seen' seen mine in
      let kn : known r seen' ≡ known r seen = same_known r seen' seen mine in
      let more : sent (other r) seen' ≡ sent (other r) seen ++ sent (other r) pre.0 = ap (sent (other r)) (sym pre.1) ∙ sent_append (other r) seen pre.0 in
      let q_is : ahead r seen' h'.left ≡ q = (λ j. drop (kn j - left j) (take (kn j) (more j))) ∙ ap (drop (known r seen - h.left)) (take-append-le (known r seen) (sent (other r) seen) (sent (other r) pre.0) (known_there S r seen k.order)) in
      let m = made r h' p role (id ∙ sym size) (subst (λ (z : ℕ). 0 < z) (sym size) k.some) (subst (λ (z : ℕ). z ≤ 32768) (sym size) k.small)
      (slots ∙ k.rack ∙ (λ j. laid (sym size j) (length (sym s j)) (row p (sym bare j) (sym q_is j))))
      (k.many ∙ sym put)
      (first ∙ k.first ∙ (λ j. length (sym s j) % sym size j))
      (subst (λ (z : ℕ). h'.left ≤ z) (sym kn) (let l = k.left in omega arith))
      (subst (λ (z : ℕ). InOrder z seen') (sym size) order)
      (let f = k.fits in omega arith) in
      (m.0, m.1, (λ j. kn j - left j))
