-- A side's step as `atomic_table` asks for it, whatever the words of the ring show.
use Rattle.std.proofs.Common.{◌≡◌, ℕ, ◌≤◌, List, [], ◌∷◌, ◌++◌, map, length, set, get_or, sym, refl, ap, ◌∙◌, subst, arith}
use mathlib.Core.List.{IsPrefix}
use Rattle.std.specs.Prelude.{Some}
use Rattle.atomic_table.specs.Table.{Me, Valid, homes_after, Allows}
use Rattle.ifl_desc.specs.declared.desc.Desc.{Desc}
use Rattle.ifl_desc.specs.declared.history.Side.{Side}
use Rattle.ifl_desc.specs.declared.history.Side.TheVariants.{Driver, Device}
use Rattle.ifl_desc.specs.declared.history.Event.{Event}
use Rattle.ifl_desc.specs.declared.history.Event.TheVariants.{Sent}
use Rattle.ifl_desc.specs.declared.history.View.{View}
use Rattle.ifl_desc.specs.History.{sent, known, own}
use Rattle.ifl_desc.specs.Frames.{IsFine}
use Rattle.ifl_desc.specs.Rule.{Slot, laid, gives_all, takes_all, view, InOrder, IsLawful, Tied}
use Rattle.ifl_desc.proofs.Slots.{Homes, places, given_homes, given_carried, given_valid, places_length, taken_carried, taken_length, taken_valid}
use Rattle.ifl_desc.proofs.Steps.{Fits, Lies, Is, Counting, moved, same_sent, same_known, order_push, order_pull, push_home, pull_home, news, news_home, news_length, lawful_more}

-- seen is a beginning of h, which has no other step of the side r
abbrev pub Has : Side → List Event → List Event → Type 0
Has r seen h = IsPrefix seen h × (own r seen ≡ own r h)

is_sent : (r : Side) (ds : List Desc) → Is r (Sent r ds)
is_sent Driver ds = (refl, refl)
is_sent Device ds = (refl, refl)

pub same_fits : (S : ℕ) (r : Side) (g h : List Event) (n : ℕ) → own r g ≡ own r h → Fits S r g n → Fits S r h n
same_fits S Driver g h n e f = let a = ap length (same_sent Driver g h e) in let b = same_known Driver g h e in omega arith
same_fits S Device g h n e f = let a = ap length (same_sent Device g h e) in let b = same_known Device g h e in omega arith

module _ (S : ℕ) (tie : List ℕ → List Event → Type 0) where
  pub pushing : (id : ℕ) (r : Side) (seen : List Event) (ds : List Desc) (c : List (ℕ × Slot)) (i new : ℕ) (then : ℕ → Me Slot View → Type 0) → Fits S r seen (length ds) → IsFine (Sent r ds)
      → ((ws : List ℕ) (h : List Event) → Has r seen h → InOrder S h → tie ws h → tie (set ws i new) (h ++ Sent r ds ∷ []))
      → ((x : ℕ) (h : List Event) → Has r seen h → InOrder S (h ++ Sent r ds ∷ []) → IsLawful S (h ++ Sent r ds ∷ []) → then x (view r (h ++ Sent r ds ∷ []), c))
      → Allows (Tied S tie) S id (view r seen, laid S (length (sent r seen)) (map Some ds) ++ c) i (λ _. new) then
  pushing id r seen ds c i new then fits fine shows told s t size at bound =
      let h : List Event = t.log in
      let e : Event = Sent r ds in
      let xs : List Slot = map Some ds in
      let a : ℕ = length (sent r seen) in
      let has : Has r seen h = t.each id (view r seen) at in
      let fits' : Fits S r h (length ds) = same_fits S r seen h (length ds) has.1 fits in
      let order : InOrder S (h ++ e ∷ []) = order_push S h r ds t.order fits' in
      let w : View = view r (h ++ e ∷ []) in
      let words : List ℕ = set s.words i new in
      let there : length (sent r h) ≡ a = ap length (sym (same_sent r seen h has.1)) in
      let P : Homes Slot → Type 0 = λ z. Tied S tie record { words = words; homes = z; views = set s.views id w } in
      let homes_is : places S s.homes (length (sent r h)) xs ≡ homes_after s.homes (laid S a xs ++ c) (gives_all (length xs)) =
      ap (λ (n : ℕ). places S s.homes n xs) there ∙ sym (given_homes S s.homes a xs c) in
      let T : List (ℕ × Slot) → Type 0 = λ z. then (get_or s.words i 0) (w, z) in (
        w,
        gives_all (length xs),
        given_valid S s.homes a xs c,
        subst P homes_is (moved S tie s t id r seen e words (places S s.homes (length (sent r h)) xs) at (is_sent r ds) (places_length S s.homes (length (sent r h)) xs ∙ t.size)
            (shows s.words h has t.order t.shows) order fine (push_home S h s.homes t.order t.size t.room t.at_home r ds fits')),
        subst T (sym (given_carried S a xs c)) (told (get_or s.words i 0) h has order (lawful_more S h e t.lawful order fine)),
      )

  pub pulling : (id : ℕ) (r : Side) (seen : List Event) (c : List (ℕ × Slot)) (i : ℕ) (f : ℕ → ℕ) (ev : ℕ → Event) → ((n : ℕ) → Counting r n (ev n)) → (then : ℕ → Me Slot View → Type 0)
      → ((ws : List ℕ) (h : List Event) → Has r seen h → InOrder S h → tie ws h
      → (n : ℕ) × Lies r h n × tie (set ws i (f (get_or ws i 0))) (h ++ ev n ∷ []) × (InOrder S (h ++ ev n ∷ []) → IsLawful S (h ++ ev n ∷ []) → then (get_or ws i 0) (view r (h ++ ev n ∷ []), laid S (known r seen) (map Some (news r h n)) ++ c)))
      → Allows (Tied S tie) S id (view r seen, c) i f then
  pulling id r seen c i f ev counting then goes s t size at bound =
      let h : List Event = t.log in
      let has : Has r seen h = t.each id (view r seen) at in
      let g = goes s.words h has t.order t.shows in
      let n : ℕ = g.0 in
      let lies : Lies r h n = g.1 in
      let e : Event = ev n in
      let xs : List Slot = map Some (news r h n) in
      let a : ℕ = known r seen in
      let w : View = view r (h ++ e ∷ []) in
      let words : List ℕ = set s.words i (f (get_or s.words i 0)) in
      let order : InOrder S (h ++ e ∷ []) = order_pull S h r n e (counting n) t.order lies in
      let there : known r h ≡ a = sym (same_known r seen h has.1) in
      let T : List (ℕ × Slot) → Type 0 = λ z. then (get_or s.words i 0) (w, z) in
      let P : ℕ → Type 0 = λ z. Tied S tie record { words = words; homes = homes_after s.homes c (takes_all S z xs); views = set s.views id w } in
      let V : ℕ → Type 0 = λ z. Valid s.homes c (takes_all S z xs) in (
        w,
        takes_all S a xs,
        subst V there (taken_valid S s.homes c (known r h) xs (few r h n t.order lies) (news_home S h s.homes t.order t.room t.at_home r n)),
        subst P there (moved S tie s t id r seen e words (homes_after s.homes c (takes_all S (known r h) xs)) at (counting n).is (taken_length S s.homes c (known r h) xs ∙ t.size)
            g.2 order (counting n).fine (pull_home S h s.homes t.order t.room t.at_home r n e (counting n) lies c)),
        subst T (sym (taken_carried S c a xs)) (g.3 order (lawful_more S h e t.lawful order (counting n).fine)),
      )
    where
      few : (r : Side) (h : List Event) (n : ℕ) → InOrder S h → Lies r h n → length (map Some (news r h n)) ≤ S
      few Driver h n o lies = let z = news_length Driver h n lies in let p = o.told in let q = o.done in let u = o.heard in let v = o.within in omega arith
      few Device h n o lies = let z = news_length Device h n lies in let p = o.told in let q = o.done in let u = o.heard in let v = o.within in omega arith
