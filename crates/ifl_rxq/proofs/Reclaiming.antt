-- A frame that is being reclaimed, behind the entries before it.
use Rattle.std.proofs.Common.{◌≡◌, ℕ, suc, ◌+◌, Bool, true, false, cond, List, [], ◌∷◌, ◌++◌, length, take, sym, refl, ap, ◌∙◌, arith, append-nil, append_assoc, length-append}
use mathlib.Core.Option.{some}
use lib.ListN.{get_elem?}
use Rattle.ifl_desc.specs.declared.desc.Desc.{Desc}
use Rattle.ifl_desc.specs.Frames.{open_after, IsWholeFrame}
use Rattle.ifl_desc.proofs.Splitting.{AreUnmarked, unmarked_open, unmarked_more, whole_made}
use Rattle.ifl_desc.proofs.Framing.{open_append}
use Rattle.ifl_desc.proofs.Racks.{take_one}

pub record Reclaiming (list : List Desc) (from back : ℕ) (part : List Desc) (last : Bool) : Type 0 where
  pub list_is : take back list ≡ take from list ++ part
  pub count : back ≡ from + length part
  pub marks : cond last (IsWholeFrame part) (AreUnmarked part)

pub reclaiming_new : (list : List Desc) (from : ℕ) → Reclaiming list from from [] false
reclaiming_new list from = record { list_is = sym (append-nil (take from list)); count = omega arith; marks = tt }

module _ (list : List Desc) (from back : ℕ) (part : List Desc) (t : Reclaiming list from back part false) where
  -- one more is reclaimed
  pub reclaiming_more : (d : Desc) → get_elem? list back ≡ some d → Reclaiming list from (suc back) (part ++ d ∷ []) d.last
  reclaiming_more d e = let n = length-append part (d ∷ []) in let c = t.count in record {
    list_is = take_one list back d e ∙ ap (λ (z : List Desc). z ++ d ∷ []) t.list_is ∙ append_assoc (take from list) part (d ∷ []);
    count = omega arith;
    marks = by_mark d.last refl;
  }
    where
      by_mark : (b : Bool) → d.last ≡ b → cond b (IsWholeFrame (part ++ d ∷ [])) (AreUnmarked (part ++ d ∷ []))
      by_mark true e = whole_made part d t.marks e
      by_mark false e = unmarked_more part d t.marks e

  -- where a frame ends, none is begun
  pub reclaiming_none : open_after 0 (take from list) ≡ 0 → open_after 0 (take back list) ≡ 0 → part ≡ []
  reclaiming_none start o = nil part (sym so_many ∙ o)
    where
      so_many : open_after 0 (take back list) ≡ length part
      so_many = ap (open_after 0) t.list_is ∙ open_append 0 (take from list) part ∙ ap (λ (z : ℕ). open_after z part) start ∙ unmarked_open 0 part t.marks ∙ (let g : 0 + length part ≡ length part = omega arith in g)

      nil : (l : List Desc) → length l ≡ 0 → l ≡ []
      nil [] e = refl
      nil (d ∷ l) e = absurd (omega arith)
