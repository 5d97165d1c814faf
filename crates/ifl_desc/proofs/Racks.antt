-- A hand that placed or took an entry is a hand.
use Rattle.std.proofs.Common.{◌≡◌, ℕ, zero, suc, ◌+◌, ◌-◌, ◌%◌, ◌<◌, ◌≤◌, List, [], ◌∷◌, ◌++◌, map, length, take, drop, replicate, sym, refl, ap, ◌∙◌, subst, arith, length-drop, length-append}
use mathlib.Core.Option.{some, some-injective, some-ne-none}
use lib.ListN.{get_elem?, length-replicate}
use Rattle.std.specs.Prelude.{Some, None}
use Rattle.atomic_table.proofs.Lists.{drop_at}
use Rattle.ifl_desc.specs.declared.desc.Desc.{Desc}
use Rattle.ifl_desc.specs.declared.history.Side.{Side}
use Rattle.ifl_desc.specs.declared.history.Side.TheVariants.{Driver, Device}
use Rattle.ifl_desc.specs.declared.history.Event.{Event}
use Rattle.ifl_desc.specs.declared.history.View.{View}
use Rattle.ifl_desc.specs.declared.rack.Rack.{Rack}
use Rattle.ifl_desc.specs.History.{other, sent, known}
use Rattle.ifl_desc.specs.Rule.{Slot, laid, view, InOrder}
use Rattle.ifl_desc.specs.Rack.{IsRack, SameSeat, placed, taken, seen_of, ahead, row}
use Rattle.ifl_desc.proofs.Steps.{take_length}
use Rattle.ifl_desc.proofs.Rows.{laid_length, there, changed, placed_is, row_placed, row_full, row_emptied, row_length, front_length, slot_at, map_length, none_more, blank_row}

-- no more is known than was sent
pub known_there : (S : ℕ) (r : Side) (h : List Event) → InOrder S h → known r h ≤ length (sent (other r) h)
known_there S Driver h o = o.told
known_there S Device h o = o.heard

pub ahead_length : (S : ℕ) (r : Side) (h : List Event) (left : ℕ) → InOrder S h → left ≤ known r h → length (ahead r h left) ≡ left
ahead_length S r h left o le = let k : ℕ = known r h in let l : List Desc = sent (other r) h in let a = length-drop (k - left) (take k l) in let t = known_there S r h o in let b = take_length k l t in omega arith

take_at : {A : Type 0} (n : ℕ) (l : List A) (i : ℕ) → i < n → get_elem? (take n l) i ≡ get_elem? l i
take_at zero l i h = absurd (omega arith)
take_at (suc n) [] i h = refl
take_at (suc n) (x ∷ l) zero h = refl
take_at (suc n) (x ∷ l) (suc i) h = take_at n l i (omega arith)

at_some : {A : Type 0} (l : List A) (i : ℕ) → i < length l → (a : A) × (get_elem? l i ≡ some a)
at_some [] i h = absurd (omega arith)
at_some (x ∷ l) zero h = (x, refl)
at_some (x ∷ l) (suc i) h = at_some l i (omega arith)

-- the first entry that may be taken, and the others
pub ahead_first : (S : ℕ) (r : Side) (h : List Event) (left : ℕ) → InOrder S h → 0 < left → left ≤ known r h
    → (d : Desc) × (get_elem? (sent (other r) h) (known r h - left) ≡ some d) × (ahead r h left ≡ d ∷ ahead r h (left - 1))
ahead_first S r h left o pos le =
    let k : ℕ = known r h in
    let l : List Desc = sent (other r) h in
    let t = known_there S r h o in
    let i : ℕ = k - left in
    let got = at_some l i (omega arith) in
    let e : get_elem? (take k l) i ≡ some got.0 = take_at k l i (omega arith) ∙ got.1 in
    (got.0, got.1, drop_at (take k l) i got.0 e ∙ ap (λ (z : ℕ). got.0 ∷ drop z (take k l)) (let g : suc i ≡ k - (left - 1) = omega arith in g))

module _ (r : Side) where
  pub made : (h : Rack) (p : List Desc) → h.seat.me.0 ≡ view r (seen_of h) → h.seat.table_id.slots ≡ h.size → 0 < h.size → h.size ≤ 32768
      → h.seat.me.1 ≡ laid h.size (length (sent r (seen_of h))) (row p h.bare (ahead r (seen_of h) h.left)) → length p ≡ h.put
      → h.first ≡ length (sent r (seen_of h)) % h.size → h.left ≤ known r (seen_of h) → InOrder h.size (seen_of h) → (h.put + h.bare) + h.left ≤ h.size
      → IsRack r h × (placed h ≡ p)
  made h p role size pos small rack many first left order fits =
      let is : placed h ≡ p = placed_is h.size (length (sent r (seen_of h))) h.put p (replicate h.bare None ++ map Some (ahead r (seen_of h) h.left)) h.seat.me.1 many rack in (
        record {
          role = role;
          size = size;
          some = pos;
          small = small;
          rack = rack ∙ ap (λ (z : List Desc). laid h.size (length (sent r (seen_of h))) (row z h.bare (ahead r (seen_of h) h.left))) (sym is);
          many = ap length is ∙ many;
          first = first;
          left = left;
          order = order;
          fits = fits;
        },
        is,
      )

  module _ (h : Rack) (k : IsRack r h) where
    abbrev S : ℕ
    S = h.size

    abbrev a : ℕ
    a = length (sent r (seen_of h))

    abbrev p : List Desc
    p = placed h

    abbrev q : ℕ → List Desc
    q n = ahead r (seen_of h) n

    pub counted : (h.put + h.bare) + h.left ≡ length h.seat.me.1
    counted = let x = ahead_length S r (seen_of h) h.left k.order k.left in let y = row_length p h.bare (q h.left) in let z = laid_length S a (row p h.bare (q h.left)) in let w = k.many in
        sym (ap length k.rack ∙ z ∙ y ∙ (let g : (length p + h.bare) + length (q h.left) ≡ (h.put + h.bare) + h.left = omega arith in g))

    abbrev Q : List Slot
    Q = replicate (h.bare - 1) None ++ map Some (q h.left)

    holed : 0 < h.bare → h.seat.me.1 ≡ laid S a (map Some p ++ None ∷ Q)
    holed pos = k.rack ∙ ap (λ (z : ℕ). laid S a (row p z (q h.left))) (let g : h.bare ≡ suc (h.bare - 1) = omega arith in g)

    p_length : length (map {A = Desc} {B = Slot} Some p) ≡ h.put
    p_length = map_length p ∙ k.many

    pub place_there : 0 < h.bare → drop h.put h.seat.me.1 ≡ ((h.first + h.put) % S, None) ∷ drop (suc h.put) h.seat.me.1
    place_there pos = there S a h.put (map Some p) Q p_length h.seat.me.1 None (holed pos) ∙ ap (λ (z : ℕ). (z, None) ∷ drop (suc h.put) h.seat.me.1) (sym (slot_at S a h.first h.put k.first))

    pub place_done : 0 < h.bare → (d : Desc) (h' : Rack) → SameSeat h.seat h'.seat → h'.seat.me.1 ≡ take h.put h.seat.me.1 ++ ((h.first + h.put) % S, Some d) ∷ drop (suc h.put) h.seat.me.1
        → h'.size ≡ S → h'.first ≡ h.first → h'.put ≡ h.put + 1 → h'.bare ≡ h.bare - 1 → h'.left ≡ h.left → IsRack r h' × (placed h' ≡ p ++ d ∷ [])
    place_done pos d h' same slots size first put bare left =
        let v : h'.seat.me.0 ≡ h.seat.me.0 = same.2 in
        let e : seen_of h' ≡ seen_of h = ap (λ (z : View). z.seen) v in
        let rack : h'.seat.me.1 ≡ laid S a (row (p ++ d ∷ []) (h.bare - 1) (q h.left)) =
        slots ∙ ap (λ (z : ℕ). take h.put h.seat.me.1 ++ (z, Some d) ∷ drop (suc h.put) h.seat.me.1) (slot_at S a h.first h.put k.first)
        ∙ changed S a h.put (map Some p) Q p_length h.seat.me.1 None (Some d) (holed pos) ∙ ap (laid S a) (row_placed p (h.bare - 1) (q h.left) d) in
        made h' (p ++ d ∷ []) (v ∙ k.role ∙ (λ i. view r (sym e i))) (ap (λ z. z.slots) same.0 ∙ k.size ∙ sym size) (subst (λ (z : ℕ). 0 < z) (sym size) k.some) (subst (λ (z : ℕ). z ≤ 32768) (sym size) k.small)
        (rack ∙ (λ i. laid (sym size i) (length (sent r (sym e i))) (row (p ++ d ∷ []) (sym bare i) (ahead r (sym e i) (sym left i)))))
        (length-append p (d ∷ []) ∙ (let w = k.many in let g : length p + 1 ≡ h'.put = omega arith in g))
        (first ∙ k.first ∙ (λ i. length (sent r (sym e i)) % sym size i))
        (subst (λ (z : ℕ × List Event). z.0 ≤ known r z.1) (λ i. (sym left i, sym e i)) k.left)
        (subst (λ (z : ℕ × List Event). InOrder z.0 z.1) (λ i. (sym size i, sym e i)) k.order)
        (let f = k.fits in omega arith)

    -- taking
    pub take_first : 0 < h.left → (d : Desc) × (get_elem? (sent (other r) (seen_of h)) (taken r h) ≡ some d) × (q h.left ≡ d ∷ q (h.left - 1))
    take_first pos = ahead_first S r (seen_of h) h.left k.order pos k.left

    abbrev P : List Slot
    P = map Some p ++ replicate h.bare None

    P_length : length P ≡ h.put + h.bare
    P_length = front_length p h.bare ∙ (let w = k.many in let g : length p + h.bare ≡ h.put + h.bare = omega arith in g)

    full : (pos : 0 < h.left) → h.seat.me.1 ≡ laid S a (P ++ Some (take_first pos).0 ∷ map Some (q (h.left - 1)))
    full pos = k.rack ∙ ap (λ (z : List Desc). laid S a (row p h.bare z)) (take_first pos).2 ∙ ap (laid S a) (row_full p h.bare (q (h.left - 1)) (take_first pos).0)

    pub take_there : (pos : 0 < h.left) → drop (h.put + h.bare) h.seat.me.1 ≡ ((h.first + (h.put + h.bare)) % S, Some (take_first pos).0) ∷ drop (suc (h.put + h.bare)) h.seat.me.1
    take_there pos = there S a (h.put + h.bare) P (map Some (q (h.left - 1))) P_length h.seat.me.1 (Some (take_first pos).0) (full pos)
        ∙ ap (λ (z : ℕ). (z, Some (take_first pos).0) ∷ drop (suc (h.put + h.bare)) h.seat.me.1) (sym (slot_at S a h.first (h.put + h.bare) k.first))

    pub take_done : (pos : 0 < h.left) → (h' : Rack) → SameSeat h.seat h'.seat
        → h'.seat.me.1 ≡ take (h.put + h.bare) h.seat.me.1 ++ ((h.first + (h.put + h.bare)) % S, None) ∷ drop (suc (h.put + h.bare)) h.seat.me.1
        → h'.size ≡ S → h'.first ≡ h.first → h'.put ≡ h.put → h'.bare ≡ h.bare + 1 → h'.left ≡ h.left - 1 → IsRack r h' × (placed h' ≡ p)
    take_done pos h' same slots size first put bare left =
        let v : h'.seat.me.0 ≡ h.seat.me.0 = same.2 in
        let e : seen_of h' ≡ seen_of h = ap (λ (z : View). z.seen) v in
        let b : suc h.bare ≡ h'.bare = omega arith in
        let rack : h'.seat.me.1 ≡ laid S a (row p (suc h.bare) (q (h.left - 1))) =
        slots ∙ ap (λ (z : ℕ). take (h.put + h.bare) h.seat.me.1 ++ (z, None) ∷ drop (suc (h.put + h.bare)) h.seat.me.1) (slot_at S a h.first (h.put + h.bare) k.first)
        ∙ changed S a (h.put + h.bare) P (map Some (q (h.left - 1))) P_length h.seat.me.1 (Some (take_first pos).0) None (full pos) ∙ ap (laid S a) (row_emptied p h.bare (q (h.left - 1))) in
        made h' p (v ∙ k.role ∙ (λ i. view r (sym e i))) (ap (λ z. z.slots) same.0 ∙ k.size ∙ sym size) (subst (λ (z : ℕ). 0 < z) (sym size) k.some) (subst (λ (z : ℕ). z ≤ 32768) (sym size) k.small)
        (rack ∙ (λ i. laid (sym size i) (length (sent r (sym e i))) (row p (b i) (ahead r (sym e i) (sym left i)))))
        (k.many ∙ sym put)
        (first ∙ k.first ∙ (λ i. length (sent r (sym e i)) % sym size i))
        (subst (λ (z : List Event). h'.left ≤ known r z) (sym e) (let l = k.left in omega arith))
        (subst (λ (z : ℕ × List Event). InOrder z.0 z.1) (λ i. (sym size i, sym e i)) k.order)
        (let f = k.fits in omega arith)

    -- the entry that was taken is the first of those ahead
    pub taken_next : 0 < h.left → (d : Desc) → get_elem? (sent (other r) (seen_of h)) (taken r h) ≡ some d → q h.left ≡ d ∷ q (h.left - 1)
    taken_next pos d e = let f = take_first pos in f.2 ∙ ap (λ (z : Desc). z ∷ q (h.left - 1)) (some-injective f.0 d (sym f.1 ∙ e))

    -- the rack whose first i placed entries were taken back
    abbrev pub unloaded : ℕ → List (ℕ × Slot)
    unloaded i = laid S a (replicate i None ++ (map Some (drop i p) ++ (replicate h.bare None ++ map Some (q h.left))))

    abbrev behind : ℕ → List Slot
    behind i = map Some (drop (suc i) p) ++ (replicate h.bare None ++ map Some (q h.left))

    blanks : (i : ℕ) → length (replicate {A = Slot} i None) ≡ i
    blanks i = length-replicate i None

    pub unload_first : (i : ℕ) → i < h.put → (d : Desc) × (get_elem? p i ≡ some d) × (unloaded i ≡ laid S a (replicate i None ++ Some d ∷ behind i))
    unload_first i lt = let m = k.many in let got = at_some p i (omega arith) in
        (got.0, got.1, ap (λ (z : List Desc). laid S a (replicate i None ++ (map Some z ++ (replicate h.bare None ++ map Some (q h.left))))) (drop_at p i got.0 got.1))

    pub unload_there : (i : ℕ) → (lt : i < h.put) → (c : List (ℕ × Slot)) → c ≡ unloaded i → drop i c ≡ ((h.first + i) % S, Some (unload_first i lt).0) ∷ drop (suc i) c
    unload_there i lt c e = let f = unload_first i lt in there S a i (replicate i None) (behind i) (blanks i) c (Some f.0) (e ∙ f.2)
        ∙ ap (λ (z : ℕ). (z, Some f.0) ∷ drop (suc i) c) (sym (slot_at S a h.first i k.first))

    pub unload_next : (i : ℕ) → (lt : i < h.put) → (c : List (ℕ × Slot)) → c ≡ unloaded i → take i c ++ ((h.first + i) % S, None) ∷ drop (suc i) c ≡ unloaded (suc i)
    unload_next i lt c e = let f = unload_first i lt in
        ap (λ (z : ℕ). take i c ++ (z, None) ∷ drop (suc i) c) (slot_at S a h.first i k.first)
        ∙ changed S a i (replicate i None) (behind i) (blanks i) c (Some f.0) None (e ∙ f.2) ∙ ap (laid S a) (none_more i (behind i))

    pub unload_long : (i : ℕ) → i ≤ h.put → length (unloaded i) ≡ (h.put + h.bare) + h.left
    unload_long i le = let m = k.many in let b = blanks i in let d = length-drop i p in let e = map_length (drop i p) in let f = row_length [] h.bare (q h.left) in let g = ahead_length S r (seen_of h) h.left k.order k.left in
        let x : List Slot = replicate h.bare None ++ map Some (q h.left) in let u = length-append (map Some (drop i p)) x in let v = length-append (replicate i None) (map Some (drop i p) ++ x) in
        laid_length S a (replicate i None ++ (map Some (drop i p) ++ x)) ∙ (omega arith)

    pub unload_done : (h' : Rack) → SameSeat h.seat h'.seat → h'.seat.me.1 ≡ unloaded h.put → h'.size ≡ S → h'.first ≡ h.first → h'.put ≡ 0 → h'.bare ≡ h.bare + h.put → h'.left ≡ h.left → IsRack r h'
    unload_done h' same slots size first put bare left =
        let v : h'.seat.me.0 ≡ h.seat.me.0 = same.2 in
        let e : seen_of h' ≡ seen_of h = ap (λ (z : View). z.seen) v in
        let b : h.put + h.bare ≡ h'.bare = omega arith in
        let none_left : drop h.put p ≡ [] = ap (λ (z : ℕ). drop z p) (sym k.many) ∙ drop_whole p in
        let rack : h'.seat.me.1 ≡ laid S a (row [] (h.put + h.bare) (q h.left)) =
        slots ∙ ap (λ (z : List Desc). laid S a (replicate h.put None ++ (map Some z ++ (replicate h.bare None ++ map Some (q h.left))))) none_left
        ∙ ap (laid S a) (blank_row h.put h.bare (map Some (q h.left))) in
        (made h' [] (v ∙ k.role ∙ (λ i. view r (sym e i))) (ap (λ z. z.slots) same.0 ∙ k.size ∙ sym size) (subst (λ (z : ℕ). 0 < z) (sym size) k.some) (subst (λ (z : ℕ). z ≤ 32768) (sym size) k.small)
        (rack ∙ (λ i. laid (sym size i) (length (sent r (sym e i))) (row [] (b i) (ahead r (sym e i) (sym left i)))))
        (sym put)
        (first ∙ k.first ∙ (λ i. length (sent r (sym e i)) % sym size i))
        (subst (λ (z : ℕ × List Event). z.0 ≤ known r z.1) (λ i. (sym left i, sym e i)) k.left)
        (subst (λ (z : ℕ × List Event). InOrder z.0 z.1) (λ i. (sym size i, sym e i)) k.order)
        (let f = k.fits in omega arith)).0
      where
        drop_whole : (l : List Desc) → drop (length l) l ≡ []
        drop_whole [] = refl
        drop_whole (d ∷ l) = drop_whole l

-- one more entry of a list
pub take_one : {A : Type 0} (l : List A) (i : ℕ) (x : A) → get_elem? l i ≡ some x → take (suc i) l ≡ take i l ++ x ∷ []
take_one [] i x e = absurd (some-ne-none x (sym e))
take_one (y ∷ l) zero x e = ap (λ z. z ∷ []) (some-injective y x e)
take_one (y ∷ l) (suc i) x e = ap (λ z. y ∷ z) (take_one l i x e)

pub take_all_of : (l : List Desc) → take (length l) l ≡ l
take_all_of [] = refl
take_all_of (d ∷ l) = ap (λ (z : List Desc). d ∷ z) (take_all_of l)
