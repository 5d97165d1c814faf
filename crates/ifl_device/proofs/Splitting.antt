-- Lists of descriptors, cut into frames.
use Rattle.std.proofs.Common.{◌≡◌, ℕ, zero, suc, ◌+◌, ◌<◌, ◌≤◌, Bool, true, false, cond, List, [], ◌∷◌, ◌++◌, length, map, take, sym, refl, ap, ◌∙◌, arith, append-nil, append_assoc, length-append}
use mathlib.Core.Option.{some, some-ne-none}
use lib.ListN.{get_elem?}
use Rattle.ifl_desc.specs.declared.desc.Desc.{Desc}
use Rattle.ifl_desc.specs.Frames.{open_after, IsShort, IsWholeFrame, bytes_of}
use Rattle.ifl_desc.proofs.Racks.{take_one}
use Rattle.ifl_desc.proofs.Framing.{open_append}
use Rattle.ifl_desc.proofs.Splitting.{AreUnmarked, unmarked_open, unmarked_more, whole_made}
use Rattle.ifl_desc.specs.declared.desc.Status.{Status}
use Rattle.ifl_device.specs.Adapter.{captured, as_posted, returned_as}

pub open_posted : (n : ℕ) (ds : List Desc) → open_after n (map as_posted ds) ≡ open_after n ds
open_posted n [] = refl
open_posted n (d ∷ ds) = open_posted (cond d.last 0 (suc n)) ds

pub whole_returned : (s : Status) (ds : List Desc) → IsWholeFrame ds → IsWholeFrame (map (returned_as s) ds)
whole_returned s [] w = w
whole_returned s (d ∷ []) w = w
whole_returned s (d ∷ (x ∷ ds)) w = (w.0, whole_returned s (x ∷ ds) w.1)

bytes_returned : (s : Status) (ds : List Desc) → bytes_of (map (returned_as s) ds) ≡ bytes_of ds
bytes_returned s [] = refl
bytes_returned s (d ∷ ds) = ap (λ (z : List ℕ). d.seg.bytes ++ z) (bytes_returned s ds)

-- the record of a frame does not tell its status
pub captured_returned : (s : Status) (ds : List Desc) → captured (map (returned_as s) ds) ≡ captured ds
captured_returned s [] = refl
captured_returned s (d ∷ ds) = λ i. record { stamp = d.stamp; bytes = bytes_returned s (d ∷ ds) i }

short_at : (n : ℕ) (l : List Desc) (i : ℕ) (d : Desc) → IsShort n l → get_elem? l i ≡ some d → open_after n (take i l) < 64
short_at n [] i d s e = absurd (some-ne-none d (sym e))
short_at n (x ∷ l) zero d s e = s.0
short_at n (x ∷ l) (suc i) d s e = short_at (cond x.last 0 (suc n)) l i d s.1 e

-- a frame that is being taken off a list, behind the entries before `from`
pub record Taking (list : List Desc) (from fetched : ℕ) (part : List Desc) (last : Bool) : Type 0 where
  pub list_is : take fetched list ≡ take from list ++ part
  pub count : fetched ≡ from + length part
  pub marks : cond last (IsWholeFrame part) (AreUnmarked part)
  pub short : length part ≤ 64

module _ (list : List Desc) (from fetched : ℕ) (part : List Desc) (start : open_after 0 (take from list) ≡ 0) (t : Taking list from fetched part false) where
  so_many : open_after 0 (take fetched list) ≡ length part
  so_many = ap (open_after 0) t.list_is ∙ open_append 0 (take from list) part ∙ ap (λ (z : ℕ). open_after z part) start ∙ unmarked_open 0 part t.marks ∙ (let g : 0 + length part ≡ length part = omega arith in g)

  -- fewer than 64 were taken
  pub taking_room : (d : Desc) → IsShort 0 list → get_elem? list fetched ≡ some d → length part < 64
  taking_room d short e = let s = short_at 0 list fetched d short e in let n = so_many in omega arith

  -- one more is taken
  pub taking_more : (d : Desc) → IsShort 0 list → get_elem? list fetched ≡ some d → Taking list from (suc fetched) (part ++ d ∷ []) d.last
  taking_more d short e = let n = length-append part (d ∷ []) in let c = t.count in let r = taking_room d short e in record {
    list_is = take_one list fetched d e ∙ ap (λ (z : List Desc). z ++ d ∷ []) t.list_is ∙ append_assoc (take from list) part (d ∷ []);
    count = omega arith;
    marks = by_mark d.last refl;
    short = omega arith;
  }
    where
      by_mark : (b : Bool) → d.last ≡ b → cond b (IsWholeFrame (part ++ d ∷ [])) (AreUnmarked (part ++ d ∷ []))
      by_mark true e = whole_made part d t.marks e
      by_mark false e = unmarked_more part d t.marks e

  -- where a frame ends, none is begun
  pub taking_none : open_after 0 (take fetched list) ≡ 0 → part ≡ []
  taking_none o = nil part (sym so_many ∙ o)
    where
      nil : (l : List Desc) → length l ≡ 0 → l ≡ []
      nil [] e = refl
      nil (d ∷ l) e = absurd (omega arith)

-- none is taken yet
pub taking_new : (list : List Desc) (from : ℕ) → Taking list from from [] false
taking_new list from = record { list_is = sym (append-nil (take from list)); count = omega arith; marks = tt; short = omega arith }
