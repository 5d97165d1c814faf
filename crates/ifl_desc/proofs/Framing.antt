-- The first frame of a list of whole ones.
use Rattle.std.proofs.Common.{◌≡◌, ℕ, suc, ◌+◌, ◌<◌, ◌≤◌, Bool, true, false, cond, List, [], ◌∷◌, ◌++◌, length, drop, sym, refl, ap, ◌∙◌, arith, length-drop}
use lib.Seq.{drop-append-le}
use Rattle.std.proofs.lemmas.List.{drop-drop}
use Rattle.ifl_desc.specs.declared.desc.Desc.{Desc}
use Rattle.ifl_desc.specs.declared.history.Side.TheVariants.{Driver, Device}
use Rattle.ifl_desc.specs.declared.history.Event.{Event}
use Rattle.ifl_desc.specs.History.{sent, known, uncounted}
use Rattle.ifl_desc.specs.Frames.{open_after, frame_size, IsFrame}

ends_by : (b : Bool) (ds : List Desc) (n : ℕ) → open_after (cond b 0 (suc n)) ds ≡ 0 → (cond b 0 (frame_size ds) ≤ length ds) × (open_after 0 (drop (cond b 0 (frame_size ds)) ds) ≡ 0)
ends_by true ds n e = (omega arith, e)
ends_by false [] n e = absurd (omega arith)
ends_by false (x ∷ ds) n e = let i = ends_by x.last ds (suc n) e in let l = i.0 in (omega arith, i.1)

-- the first frame is there, and whole ones stand behind it
pub frame_ends : (ds : List Desc) → open_after 0 ds ≡ 0 → (frame_size ds ≤ length ds) × (open_after 0 (drop (frame_size ds) ds) ≡ 0)
frame_ends [] e = (omega arith, refl)
frame_ends (d ∷ ds) e = let i = ends_by d.last ds 0 e in let l = i.0 in (omega arith, i.1)

pub size_pos : (ds : List Desc) → 0 < length ds → 0 < frame_size ds
size_pos [] h = absurd (omega arith)
size_pos (d ∷ ds) h = omega arith

pub none_there : (ds : List Desc) → frame_size ds ≡ 0 → length ds ≡ 0
none_there [] e = refl
none_there (d ∷ ds) e = absurd (omega arith)

size_by : (b : Bool) (n : ℕ) (xs ys : List Desc) → open_after (cond b 0 (suc n)) xs ≡ 0 → cond b 0 (frame_size (xs ++ ys)) ≡ cond b 0 (frame_size xs)
size_by true n xs ys e = refl
size_by false n [] ys e = absurd (omega arith)
size_by false n (x ∷ xs) ys e = ap suc (size_by x.last (suc n) xs ys e)

-- more entries behind do not change the first frame
pub size_append : (xs ys : List Desc) → open_after 0 xs ≡ 0 → 0 < length xs → frame_size (xs ++ ys) ≡ frame_size xs
size_append [] ys e pos = absurd (omega arith)
size_append (x ∷ xs) ys e pos = ap suc (size_by x.last 0 xs ys e)

-- the same for an open frame
pub size_append_by : (b : Bool) (n : ℕ) (xs ys : List Desc) → open_after (cond b 0 (suc n)) xs ≡ 0 → cond b 0 (frame_size (xs ++ ys)) ≡ cond b 0 (frame_size xs)
size_append_by b n xs ys e = size_by b n xs ys e

pub frame_size_is : (ds : List Desc) → IsFrame ds → frame_size ds ≡ length ds
frame_size_is [] k = absurd k
frame_size_is (d ∷ []) k = ap (λ (b : Bool). suc (cond b 0 (frame_size []))) k.0
frame_size_is (d ∷ (x ∷ ds)) k = ap (λ (b : Bool). suc (cond b 0 (frame_size (x ∷ ds)))) k.0 ∙ ap suc (frame_size_is (x ∷ ds) k.2)

pub frame_pos : (ds : List Desc) → IsFrame ds → 0 < length ds
frame_pos [] k = absurd k
frame_pos (d ∷ ds) k = omega arith

pub open_append : (n : ℕ) (xs ys : List Desc) → open_after n (xs ++ ys) ≡ open_after (open_after n xs) ys
open_append n [] ys = refl
open_append n (x ∷ xs) ys = open_append (cond x.last 0 (suc n)) xs ys

pub frame_closes : (n : ℕ) (ds : List Desc) → IsFrame ds → open_after n ds ≡ 0
frame_closes n [] k = absurd k
frame_closes n (d ∷ []) k = ap (λ (b : Bool). cond b 0 (suc n)) k.0
frame_closes n (d ∷ (x ∷ ds)) k = ap (λ (b : Bool). open_after (cond b 0 (suc n)) (x ∷ ds)) k.0 ∙ frame_closes (suc n) (x ∷ ds) k.2

-- one frame more
pub whole_more : (xs ds : List Desc) → IsFrame ds → open_after 0 (xs ++ ds) ≡ 0
whole_more xs ds k = open_append 0 xs ds ∙ frame_closes (open_after 0 xs) ds k

pub length_uncounted : (g : List Event) → known Driver g ≤ length (sent Device g) → known Driver g + length (uncounted g) ≡ length (sent Device g)
length_uncounted g le = let d = length-drop (known Driver g) (sent Device g) in omega arith

-- n of them are counted
pub uncounted_less : (g h : List Event) (n : ℕ) → known Driver h ≡ known Driver g + n → sent Device h ≡ sent Device g → uncounted h ≡ drop n (uncounted g)
uncounted_less g h n k s = (λ i. drop (k i) (s i)) ∙ sym (drop-drop n (known Driver g) (sent Device g))

-- more are returned
pub uncounted_more : (g h : List Event) (ds : List Desc) → known Driver g ≤ length (sent Device g) → known Driver h ≡ known Driver g → sent Device h ≡ sent Device g ++ ds → uncounted h ≡ uncounted g ++ ds
uncounted_more g h ds le k s = (λ i. drop (k i) (s i)) ∙ drop-append-le (known Driver g) (sent Device g) ds le
