-- Status words of a list of entries.
use Rattle.std.proofs.Common.{◌≡◌, ℕ, zero, suc, ◌+◌, ◌<◌, ◌≤◌, ◌≢◌, Bool, true, false, cond, List, [], ◌∷◌, ◌++◌, length, drop, replicate, get_or, sym, refl, ap, ◌∙◌, arith}
use Rattle.std.proofs.lemmas.List.{get_or_past, get_or-drop}
use Rattle.ifl_desc.specs.declared.desc.Desc.{Desc}
use Rattle.ifl_desc.specs.Frames.{open_after, frame_size, IsWholeFrame, IsFrame}
use Rattle.ifl_desc.proofs.Framing.{size_append_by, frame_size_is}
use Rattle.ifl_legacy.specs.Legacy.{statuses}

pub status_first : (ds : List Desc) → get_or (statuses true ds) 0 0 ≡ frame_size ds
status_first [] = refl
status_first (d ∷ ds) = refl

statuses_long : (b : Bool) (ds : List Desc) → length (statuses b ds) ≡ length ds
statuses_long b [] = refl
statuses_long b (d ∷ ds) = ap suc (statuses_long d.last ds)

pub status_past : (b : Bool) (ds : List Desc) (j : ℕ) → length ds ≤ j → get_or (statuses b ds) j 0 ≡ 0
status_past b ds j le = let l = statuses_long b ds in get_or_past (statuses b ds) j 0 (omega arith)

statuses_append : (b : Bool) (n : ℕ) (xs ys : List Desc) → open_after (cond b 0 (suc n)) xs ≡ 0 → statuses b (xs ++ ys) ≡ statuses b xs ++ statuses true ys
statuses_append true n [] ys e = refl
statuses_append false n [] ys e = absurd (omega arith)
statuses_append b n (x ∷ xs) ys e = let m : ℕ = cond b 0 (suc n) in λ i. cond b (suc (size_append_by x.last m xs ys e i)) 0 ∷ statuses_append x.last m xs ys e i

-- inside a frame every status is 0
quiet : (ds : List Desc) (j : ℕ) → IsFrame ds → get_or (statuses false ds) j 0 ≡ 0
quiet [] j k = absurd k
quiet (d ∷ []) zero k = refl
quiet (d ∷ []) (suc j) k = refl
quiet (d ∷ (x ∷ ds)) zero k = refl
quiet (d ∷ (x ∷ ds)) (suc j) k = ap (λ (b : Bool). get_or (statuses b (x ∷ ds)) j 0) k.0 ∙ quiet (x ∷ ds) j k.2

frame_quiet : (ds : List Desc) (j : ℕ) → IsFrame ds → get_or (statuses true ds) (suc j) 0 ≡ 0
frame_quiet [] j k = absurd k
frame_quiet (d ∷ []) j k = refl
frame_quiet (d ∷ (x ∷ ds)) j k = ap (λ (b : Bool). get_or (statuses b (x ∷ ds)) j 0) k.0 ∙ quiet (x ∷ ds) j k.2

at_seam : (a b : List ℕ) → get_or (a ++ b) (length a) 0 ≡ get_or b 0 0
at_seam [] b = refl
at_seam (x ∷ a) b = at_seam a b

off_seam : (a b : List ℕ) (j : ℕ) → ((i : ℕ) → get_or b (suc i) 0 ≡ 0) → j ≢ length a → get_or (a ++ b) j 0 ≡ get_or a j 0
off_seam [] b zero q n = absurd (n refl)
off_seam [] b (suc j) q n = q j
off_seam (x ∷ a) b zero q n = refl
off_seam (x ∷ a) b (suc j) q n = off_seam a b j q (λ e. n (ap suc e))

module _ (xs ds : List Desc) (whole : open_after 0 xs ≡ 0) (frame : IsFrame ds) where
  both : statuses true (xs ++ ds) ≡ statuses true xs ++ statuses true ds
  both = statuses_append true 0 xs ds whole

  -- a frame that is returned: the word of its first entry shows its size
  pub status_new : get_or (statuses true (xs ++ ds)) (length xs) 0 ≡ length ds
  status_new = ap (λ (z : List ℕ). get_or z (length xs) 0) both ∙ ap (λ (z : ℕ). get_or (statuses true xs ++ statuses true ds) z 0) (sym (statuses_long true xs))
      ∙ at_seam (statuses true xs) (statuses true ds) ∙ status_first ds ∙ frame_size_is ds frame

  -- and the others stay
  pub status_kept : (j : ℕ) → j ≢ length xs → get_or (statuses true (xs ++ ds)) j 0 ≡ get_or (statuses true xs) j 0
  status_kept j n = ap (λ (z : List ℕ). get_or z j 0) both ∙ off_seam (statuses true xs) (statuses true ds) j (λ i. frame_quiet ds i frame) (λ e. n (e ∙ statuses_long true xs))

drop_by : (b : Bool) (ds : List Desc) → drop (cond b 0 (frame_size ds)) (statuses b ds) ≡ statuses true (drop (cond b 0 (frame_size ds)) ds)
drop_by true ds = refl
drop_by false [] = refl
drop_by false (x ∷ ds) = drop_by x.last ds

statuses_drop : (ds : List Desc) → drop (frame_size ds) (statuses true ds) ≡ statuses true (drop (frame_size ds) ds)
statuses_drop [] = refl
statuses_drop (d ∷ ds) = drop_by d.last ds

-- behind the first frame
pub status_behind : (ds : List Desc) (j : ℕ) → get_or (statuses true (drop (frame_size ds) ds)) j 0 ≡ get_or (statuses true ds) (frame_size ds + j) 0
status_behind ds j = ap (λ (z : List ℕ). get_or z j 0) (sym (statuses_drop ds)) ∙ get_or-drop (frame_size ds) (statuses true ds) j 0

inner_by : (b : Bool) (ds : List Desc) (j : ℕ) → j < cond b 0 (frame_size ds) → get_or (statuses b ds) j 0 ≡ 0
inner_by true ds j h = absurd (omega arith)
inner_by false [] j h = absurd (omega arith)
inner_by false (x ∷ ds) zero h = refl
inner_by false (x ∷ ds) (suc j) h = inner_by x.last ds j (omega arith)

-- in the first frame, but not at its first entry
pub status_inside : (ds : List Desc) (j : ℕ) → 0 < j → j < frame_size ds → get_or (statuses true ds) j 0 ≡ 0
status_inside [] j p h = refl
status_inside (d ∷ ds) zero p h = absurd (omega arith)
status_inside (d ∷ ds) (suc j) p h = inner_by d.last ds j (omega arith)

-- a frame and what stands behind it
size_frame : (ds rest : List Desc) → IsWholeFrame ds → frame_size (ds ++ rest) ≡ length ds
size_frame [] rest k = absurd k
size_frame (d ∷ []) rest k = ap (λ (b : Bool). suc (cond b 0 (frame_size rest))) k
size_frame (d ∷ (x ∷ ds)) rest k = ap (λ (b : Bool). suc (cond b 0 (frame_size (x ∷ ds ++ rest)))) k.0 ∙ ap suc (size_frame (x ∷ ds) rest k.1)

statuses_inner : (ds rest : List Desc) → IsWholeFrame ds → statuses false (ds ++ rest) ≡ replicate (length ds) 0 ++ statuses true rest
statuses_inner [] rest k = absurd k
statuses_inner (d ∷ []) rest k = ap (λ (b : Bool). 0 ∷ statuses b rest) k
statuses_inner (d ∷ (x ∷ ds)) rest k = ap (λ (b : Bool). 0 ∷ statuses b (x ∷ ds ++ rest)) k.0 ∙ ap (λ (zs : List ℕ). 0 ∷ zs) (statuses_inner (x ∷ ds) rest k.1)

pub statuses_frame : (d : Desc) (ds rest : List Desc) → IsWholeFrame (d ∷ ds) → statuses true (d ∷ ds ++ rest) ≡ suc (length ds) ∷ (replicate (length ds) 0 ++ statuses true rest)
statuses_frame d [] rest k = ap (λ (b : Bool). suc (cond b 0 (frame_size rest)) ∷ statuses b rest) k
statuses_frame d (x ∷ ds) rest k =
    ap (λ (b : Bool). suc (cond b 0 (frame_size (x ∷ ds ++ rest))) ∷ statuses b (x ∷ ds ++ rest)) k.0 ∙ (λ i. suc (size_frame (x ∷ ds) rest k.1 i) ∷ statuses_inner (x ∷ ds) rest k.1 i)
