-- Captures and files in lists: what holds of each, and how much they have together.
use Rattle.std.proofs.Common.{◌≡◌, ℕ, ◌<◌, List, [], ◌∷◌, length, map, get_or, refl, sym, ap, ◌∙◌, arith}
use Rattle.std.specs.Prelude.{All, sum_by}
use Rattle.std.proofs.Math.ListN.{get_or-map}
use Rattle.std.proofs.lemmas.List.{length-map}
use Rattle.std.proofs.lemmas.List.Sums.{sum_by-cons}
use Rattle.ifl_pcap.specs.declared.capture.Capture.{Capture}
use Rattle.ifl_engine.specs.Loaded.{frames_of}
use Rattle.ifl_engine.specs.Steps.{IsSmall}

-- a sum over what each is seen as
pub sum_by-map : {X Y : Type 0} → (count : Y → ℕ) (see : X → Y) (xs : List X) → sum_by count (map see xs) ≡ sum_by (λ x. count (see x)) xs
sum_by-map count see [] = refl
sum_by-map count see (x ∷ xs) = omega (arith, sum_by-cons count (see x) (map see xs), sum_by-cons (λ y. count (see y)) x xs, sum_by-map count see xs)

pub frames_at : (captures : List Capture) (i : ℕ) (x : Capture) → x ≡ get_or captures i x → x.frames ≡ get_or (map frames_of captures) i x.frames
frames_at captures i x is = ap frames_of is ∙ sym (get_or-map frames_of captures i x)

pub small_at : (captures : List Capture) (i : ℕ) (x : Capture) → All IsSmall (map frames_of captures) → i < length captures → x ≡ get_or captures i x → IsSmall x.frames
small_at captures i x each lt is = rw (frames_at captures i x is) (each i x.frames (omega (arith, lt, length-map captures frames_of)))
