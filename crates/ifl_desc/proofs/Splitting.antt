-- Lists of descriptors, cut into frames, and what was returned of them.
use Rattle.std.proofs.Common.{◌≡◌, ℕ, zero, suc, ◌+◌, ◌≤◌, Bool, true, false, cond, List, [], ◌∷◌, ◌++◌, length, sym, refl, ap, ◌∙◌, subst, arith, append_assoc, append-nil, length-append, flat_map}
use mathlib.Core.Option.{some, some-injective, some-ne-none}
use lib.ListN.{get_elem?}
use Rattle.ifl_desc.specs.declared.desc.Desc.{Desc}
use Rattle.ifl_desc.specs.declared.history.Side.TheVariants.{Driver, Device}
use Rattle.ifl_desc.specs.declared.history.Event.{Event}
use Rattle.ifl_desc.specs.declared.history.Event.TheVariants.{Sent, Looked, Cleared}
use Rattle.ifl_desc.specs.History.{sent}
use Rattle.ifl_desc.specs.Frames.{open_after, IsShort, IsWhole, AllFine, frames_from, frames_of, bytes_of, IsWholeFrame, AreAlike, AreReturnsOf}
use Rattle.ifl_desc.proofs.Framing.{open_append, frame_closes}

-- no entry is marked
abbrev pub AreUnmarked : List Desc → Type 0
AreUnmarked [] = Unit {0}
AreUnmarked (d ∷ ds) = (d.last ≡ false) × AreUnmarked ds

short_append : (n : ℕ) (xs ys : List Desc) → IsShort n xs → IsShort (open_after n xs) ys → IsShort n (xs ++ ys)
short_append n [] ys s t = t
short_append n (d ∷ xs) ys s t = (s.0, short_append (cond d.last 0 (suc n)) xs ys s.1 t)

-- what the driver sent is whole frames
pub sent_whole : (h : List Event) → AllFine h → IsWhole (sent Driver h)
sent_whole [] f = (tt, refl)
sent_whole (Sent Driver ds ∷ h) f = let r = sent_whole h f.1 in
    (short_append 0 ds (sent Driver h) f.0.0 (subst (λ (z : ℕ). IsShort z (sent Driver h)) (sym f.0.1) r.0), open_append 0 ds (sent Driver h) ∙ ap (λ (z : ℕ). open_after z (sent Driver h)) f.0.1 ∙ r.1)
sent_whole (Sent Device ds ∷ h) f = sent_whole h f.1
sent_whole (Looked b n ∷ h) f = sent_whole h f.1
sent_whole (Cleared n ∷ h) f = sent_whole h f.1

pub sent_open : (h : List Event) → AllFine h → open_after 0 (sent Driver h) ≡ 0
sent_open h f = (sent_whole h f).1

-- what the device sent ends with a frame
pub returned_open : (h : List Event) → AllFine h → open_after 0 (sent Device h) ≡ 0
returned_open [] f = refl
returned_open (Sent Driver ds ∷ h) f = returned_open h f.1
returned_open (Sent Device ds ∷ h) f = open_append 0 ds (sent Device h) ∙ ap (λ (z : ℕ). open_after z (sent Device h)) (frame_closes 0 ds f.0) ∙ returned_open h f.1
returned_open (Looked b n ∷ h) f = returned_open h f.1
returned_open (Cleared n ∷ h) f = returned_open h f.1

-- what stands behind the last marked entry, where p stood before
abbrev pub tail_from : List Desc → List Desc → List Desc
tail_from p [] = p
tail_from p (d ∷ ds) = cond d.last (tail_from [] ds) (tail_from (p ++ d ∷ []) ds)

pub frames_append : (p xs ys : List Desc) → frames_from p (xs ++ ys) ≡ frames_from p xs ++ frames_from (tail_from p xs) ys
frames_append p [] ys = refl
frames_append p (d ∷ xs) ys = by_mark d.last (frames_append [] xs ys) (frames_append (p ++ d ∷ []) xs ys)
  where
    by_mark : (b : Bool) → frames_from [] (xs ++ ys) ≡ frames_from [] xs ++ frames_from (tail_from [] xs) ys
        → frames_from (p ++ d ∷ []) (xs ++ ys) ≡ frames_from (p ++ d ∷ []) xs ++ frames_from (tail_from (p ++ d ∷ []) xs) ys
        → cond b ((p ++ d ∷ []) ∷ frames_from [] (xs ++ ys)) (frames_from (p ++ d ∷ []) (xs ++ ys))
        ≡ cond b ((p ++ d ∷ []) ∷ frames_from [] xs) (frames_from (p ++ d ∷ []) xs) ++ frames_from (cond b (tail_from [] xs) (tail_from (p ++ d ∷ []) xs)) ys
    by_mark true marked begun = ap (λ (z : List (List Desc)). (p ++ d ∷ []) ∷ z) marked
    by_mark false marked begun = begun

tail_open : (p xs : List Desc) → length (tail_from p xs) ≡ open_after (length p) xs
tail_open p [] = refl
tail_open p (d ∷ xs) = by_mark d.last (tail_open [] xs) (tail_open (p ++ d ∷ []) xs)
  where
    by_mark : (b : Bool) → length (tail_from [] xs) ≡ open_after 0 xs → length (tail_from (p ++ d ∷ []) xs) ≡ open_after (length (p ++ d ∷ [])) xs
        → length (cond b (tail_from [] xs) (tail_from (p ++ d ∷ []) xs)) ≡ open_after (cond b 0 (suc (length p))) xs
    by_mark true marked begun = marked
    by_mark false marked begun = begun ∙ ap (λ (z : ℕ). open_after z xs) (length-append p (d ∷ []) ∙ (let g : length p + 1 ≡ suc (length p) = omega arith in g))

pub bytes_append : (xs ys : List Desc) → bytes_of (xs ++ ys) ≡ bytes_of xs ++ bytes_of ys
bytes_append [] ys = refl
bytes_append (d ∷ xs) ys = ap (λ (z : List ℕ). d.seg.bytes ++ z) (bytes_append xs ys) ∙ sym (append_assoc d.seg.bytes (bytes_of xs) (bytes_of ys))

bytes_kept : (p xs : List Desc) → flat_map bytes_of (frames_from p xs) ++ bytes_of (tail_from p xs) ≡ bytes_of p ++ bytes_of xs
bytes_kept p [] = sym (append-nil (bytes_of p))
bytes_kept p (d ∷ xs) = by_mark d.last (bytes_kept [] xs) (bytes_kept (p ++ d ∷ []) xs ∙ ap (λ (z : List ℕ). z ++ bytes_of xs) one ∙ append_assoc (bytes_of p) d.seg.bytes (bytes_of xs))
  where
    one : bytes_of (p ++ d ∷ []) ≡ bytes_of p ++ d.seg.bytes
    one = bytes_append p (d ∷ []) ∙ ap (λ (z : List ℕ). bytes_of p ++ z) (append-nil d.seg.bytes)

    by_mark : (b : Bool) → flat_map bytes_of (frames_from [] xs) ++ bytes_of (tail_from [] xs) ≡ bytes_of xs
        → flat_map bytes_of (frames_from (p ++ d ∷ []) xs) ++ bytes_of (tail_from (p ++ d ∷ []) xs) ≡ bytes_of p ++ (d.seg.bytes ++ bytes_of xs)
        → flat_map bytes_of (cond b ((p ++ d ∷ []) ∷ frames_from [] xs) (frames_from (p ++ d ∷ []) xs)) ++ bytes_of (cond b (tail_from [] xs) (tail_from (p ++ d ∷ []) xs)) ≡ bytes_of p ++ (d.seg.bytes ++ bytes_of xs)
    by_mark true marked begun = append_assoc (bytes_of (p ++ d ∷ [])) (flat_map bytes_of (frames_from [] xs)) (bytes_of (tail_from [] xs))
        ∙ (λ i. one i ++ marked i) ∙ append_assoc (bytes_of p) d.seg.bytes (bytes_of xs)
    by_mark false marked begun = begun

pub no_desc : (l : List Desc) → length l ≡ 0 → l ≡ []
no_desc [] e = refl
no_desc (d ∷ l) e = absurd (omega arith)

pub no_tail : (xs : List Desc) → open_after 0 xs ≡ 0 → tail_from [] xs ≡ []
no_tail xs o = no_desc (tail_from [] xs) (tail_open [] xs ∙ o)

-- the bytes of whole frames are the bytes of the list
pub frames_bytes : (ds : List Desc) → open_after 0 ds ≡ 0 → flat_map bytes_of (frames_of ds) ≡ bytes_of ds
frames_bytes ds o = sym (append-nil (flat_map bytes_of (frames_of ds))) ∙ ap (λ (z : List Desc). flat_map bytes_of (frames_of ds) ++ bytes_of z) (sym (no_tail ds o)) ∙ bytes_kept [] ds

pub frame_alone : (p ds : List Desc) → IsWholeFrame ds → frames_from p ds ≡ (p ++ ds) ∷ []
frame_alone p [] w = absurd w
frame_alone p (d ∷ []) w = ap (λ (b : Bool). cond b ((p ++ d ∷ []) ∷ []) []) w
frame_alone p (d ∷ (x ∷ ds)) w =
    ap (λ (b : Bool). cond b ((p ++ d ∷ []) ∷ frames_from [] (x ∷ ds)) (frames_from (p ++ d ∷ []) (x ∷ ds))) w.0 ∙ frame_alone (p ++ d ∷ []) (x ∷ ds) w.1
    ∙ ap (λ (z : List Desc). z ∷ []) (append_assoc p (d ∷ []) (x ∷ ds))

-- one more frame
pub frames_more : (xs frame : List Desc) → open_after 0 xs ≡ 0 → IsWholeFrame frame → frames_of (xs ++ frame) ≡ frames_of xs ++ frame ∷ []
frames_more xs frame o w = frames_append [] xs frame ∙ ap (λ (z : List Desc). frames_from [] xs ++ frames_from z frame) (no_tail xs o) ∙ ap (λ (z : List (List Desc)). frames_from [] xs ++ z) (frame_alone [] frame w)

pub whole_open : (n : ℕ) (ds : List Desc) → IsWholeFrame ds → open_after n ds ≡ 0
whole_open n [] w = absurd w
whole_open n (d ∷ []) w = ap (λ (b : Bool). cond b 0 (suc n)) w
whole_open n (d ∷ (x ∷ ds)) w = whole_open (cond d.last 0 (suc n)) (x ∷ ds) w.1

pub unmarked_open : (n : ℕ) (ds : List Desc) → AreUnmarked ds → open_after n ds ≡ n + length ds
unmarked_open n [] u = omega arith
unmarked_open n (d ∷ ds) u = ap (λ (b : Bool). open_after (cond b 0 (suc n)) ds) u.0 ∙ unmarked_open (suc n) ds u.1 ∙ (let g : suc n + length ds ≡ n + suc (length ds) = omega arith in g)

pub unmarked_more : (ds : List Desc) (d : Desc) → AreUnmarked ds → d.last ≡ false → AreUnmarked (ds ++ d ∷ [])
unmarked_more [] d u e = (e, tt)
unmarked_more (x ∷ ds) d u e = (u.0, unmarked_more ds d u.1 e)

pub whole_made : (ds : List Desc) (d : Desc) → AreUnmarked ds → d.last ≡ true → IsWholeFrame (ds ++ d ∷ [])
whole_made [] d u e = e
whole_made (x ∷ []) d u e = (u.0, e)
whole_made (x ∷ (y ∷ ds)) d u e = (u.0, whole_made (y ∷ ds) d u.1 e)

-- what was returned was posted at its place
pub alike_at : (ps ds : List Desc) (i : ℕ) (d : Desc) → AreReturnsOf ps ds → get_elem? ds i ≡ some d → (p : Desc) × (get_elem? ps i ≡ some p) × AreAlike p d
alike_at ps [] i d r e = absurd (some-ne-none d (sym e))
alike_at [] (x ∷ ds) i d r e = absurd r
alike_at (p ∷ ps) (x ∷ ds) zero d r e = (p, refl, subst (λ (z : Desc). AreAlike p z) (some-injective x d e) r.0)
alike_at (p ∷ ps) (x ∷ ds) (suc i) d r e = alike_at ps ds i d r.1 e

pub returns_front : (ps qs ds es : List Desc) → AreReturnsOf (ps ++ qs) (ds ++ es) → length ds ≤ length ps → AreReturnsOf ps ds
returns_front ps qs [] es r le = tt
returns_front [] qs (d ∷ ds) es r le = absurd (omega arith)
returns_front (p ∷ ps) qs (d ∷ ds) es r le = (r.0, returns_front ps qs ds es r.1 (omega arith))
