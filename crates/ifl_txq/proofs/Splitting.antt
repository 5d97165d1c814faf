-- Lists of descriptors, cut into frames, and what was returned of them.
use Rattle.std.proofs.Common.{◌≡◌, ℕ, zero, suc, ◌<◌, ◌≤◌, Bool, true, false, cond, List, [], ◌∷◌, ◌++◌, length, take, sym, refl, ap, ◌∙◌, arith}
use mathlib.Core.Option.{some, some-injective, some-ne-none}
use lib.ListN.{get_elem?}
use Rattle.ifl_desc.specs.declared.desc.Desc.{Desc}
use Rattle.ifl_desc.specs.Frames.{frames_from, AreReturnsOf}
use Rattle.ifl_base.specs.declared.fate.Fate.{Fate}
use Rattle.ifl_txq.specs.Frames.{fates_of, fate_of}

pub fates_append : (xs ys : List Desc) → fates_of (xs ++ ys) ≡ fates_of xs ++ fates_of ys
fates_append [] ys = refl
fates_append (d ∷ xs) ys = by_mark d.last (fates_append xs ys)
  where
    by_mark : (b : Bool) → fates_of (xs ++ ys) ≡ fates_of xs ++ fates_of ys → cond b (fate_of d.status ∷ fates_of (xs ++ ys)) (fates_of (xs ++ ys)) ≡ cond b (fate_of d.status ∷ fates_of xs) (fates_of xs) ++ fates_of ys
    by_mark true e = ap (λ (z : List Fate). fate_of d.status ∷ z) e
    by_mark false e = e

-- the entry d is the last one of the frame
abbrev pub EndsWith : Desc → List Desc → Type 0
EndsWith d frame = (front : List Desc) × (frame ≡ front ++ d ∷ [])

-- a marked entry ends the frame whose number is that of the marked entries before it
pub frame_at : (p ds : List Desc) (i : ℕ) (d : Desc) → get_elem? ds i ≡ some d → d.last ≡ true → (f : List Desc) × (get_elem? (frames_from p ds) (length (fates_of (take i ds))) ≡ some f) × EndsWith d f
frame_at p [] i d e l = absurd (some-ne-none d (sym e))
frame_at p (x ∷ ds) zero d e l =
    let same : x ≡ d = some-injective x d e in
    let marked : x.last ≡ true = ap (λ (z : Desc). z.last) same ∙ l in
    (p ++ x ∷ [], ap (λ (b : Bool). get_elem? (cond b ((p ++ x ∷ []) ∷ frames_from [] ds) (frames_from (p ++ x ∷ []) ds)) 0) marked, (p, ap (λ (z : Desc). p ++ z ∷ []) same))
frame_at p (x ∷ ds) (suc i) d e l = by_mark x.last (frame_at [] ds i d e l) (frame_at (p ++ x ∷ []) ds i d e l)
  where
    by_mark : (b : Bool) → (f : List Desc) × (get_elem? (frames_from [] ds) (length (fates_of (take i ds))) ≡ some f) × EndsWith d f
        → (f : List Desc) × (get_elem? (frames_from (p ++ x ∷ []) ds) (length (fates_of (take i ds))) ≡ some f) × EndsWith d f
        → (f : List Desc) × (get_elem? (cond b ((p ++ x ∷ []) ∷ frames_from [] ds) (frames_from (p ++ x ∷ []) ds)) (length (cond b (fate_of x.status ∷ fates_of (take i ds)) (fates_of (take i ds)))) ≡ some f) × EndsWith d f
    by_mark true marked begun = marked
    by_mark false marked begun = begun

-- what was returned has its marks where they were posted
pub marks_alike : (ps ds : List Desc) (i : ℕ) → AreReturnsOf ps ds → i ≤ length ds → length (fates_of (take i ds)) ≡ length (fates_of (take i ps))
marks_alike ps ds zero r le = refl
marks_alike ps [] (suc i) r le = absurd (omega arith)
marks_alike [] (d ∷ ds) (suc i) r le = absurd r
marks_alike (p ∷ ps) (d ∷ ds) (suc i) r le = by_mark d.last p.last r.0.last (marks_alike ps ds i r.1 (omega arith))
  where
    by_mark : (b c : Bool) → b ≡ c → length (fates_of (take i ds)) ≡ length (fates_of (take i ps))
        → length (cond b (fate_of d.status ∷ fates_of (take i ds)) (fates_of (take i ds))) ≡ length (cond c (fate_of p.status ∷ fates_of (take i ps)) (fates_of (take i ps)))
    by_mark true true same e = ap suc e
    by_mark true false same e = absurd (cc)
    by_mark false true same e = absurd (cc)
    by_mark false false same e = e

pub at_front : (ps qs : List Desc) (i : ℕ) (p : Desc) → get_elem? ps i ≡ some p → get_elem? (ps ++ qs) i ≡ some p
at_front [] qs i p e = absurd (some-ne-none p (sym e))
at_front (x ∷ ps) qs zero p e = e
at_front (x ∷ ps) qs (suc i) p e = at_front ps qs i p e

pub at_within : (ps : List Desc) (i : ℕ) (p : Desc) → get_elem? ps i ≡ some p → i < length ps
at_within [] i p e = absurd (some-ne-none p (sym e))
at_within (x ∷ ps) zero p e = omega arith
at_within (x ∷ ps) (suc i) p e = let r = at_within ps i p e in omega arith
