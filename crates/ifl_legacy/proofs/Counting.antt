-- The driver's end after it looked for a frame.
use Rattle.std.proofs.Common.{◌≡◌, ℕ, suc, ◌+◌, ◌%◌, ◌<◌, List, [], ◌∷◌, length, sym, refl, ap, ◌∙◌, subst, arith}
use mathlib.Core.Option.{none}
use Rattle.std.proofs.Math.Nat.{add-mod_right}
use Rattle.atomic_table.specs.Table.{Me, step}
use Rattle.ifl_desc.specs.declared.desc.Desc.{Desc}
use Rattle.ifl_desc.specs.declared.history.Side.TheVariants.{Driver}
use Rattle.ifl_desc.specs.declared.history.Event.TheVariants.{Looked, Cleared}
use Rattle.ifl_desc.specs.declared.history.View.{View}
use Rattle.ifl_desc.specs.declared.rack.Rack.{Rack}
use Rattle.ifl_desc.specs.History.{sent, known, uncounted, looks}
use Rattle.ifl_desc.specs.Frames.{open_after, frame_size}
use Rattle.ifl_desc.specs.Rule.{Slot}
use Rattle.ifl_desc.specs.Calls.{Grew, Learns, LooksForFrame}
use Rattle.ifl_desc.specs.Rack.{seen_of, spin}
use Rattle.ifl_desc.specs.Sides.{driver_of, DriverOk}
use Rattle.ifl_desc.proofs.Steps.{looked_counts, cleared_counts}
use Rattle.ifl_desc.proofs.Looking.{grew_looks}
use Rattle.ifl_desc.proofs.DriverCalls.{last_is, learn_some, learns_on}
use Rattle.ifl_desc.proofs.Framing.{none_there, length_uncounted, frame_ends}
use Rattle.ifl_legacy.specs.Legacy.{peeked, cleared}

-- the slot of the first entry that is not counted, as code computes it
pub next_slot : (h : Rack) (k : DriverOk h) → (((h.first + h.put) + h.bare) + h.left) % h.size ≡ known Driver (seen_of h) % h.size
next_slot h k = let t = k.total in last_is Driver h k.rack ∙ ap (λ (z : ℕ). z % h.size) (let g : length (sent Driver (seen_of h)) + ((h.put + h.bare) + h.left) ≡ known Driver (seen_of h) + h.size = omega arith in g) ∙ add-mod_right (known Driver (seen_of h)) h.size

module _ (h h₁ : Rack) (k : DriverOk h) (slots w x : ℕ) (slots_is : slots ≡ h.size) (told : peeked (step slots w 0 0 none) h.seat.me x h₁.seat.me) (id : h₁.seat.table_id ≡ h.seat.table_id)
    (size : h₁.size ≡ h.size) (first : h₁.first ≡ h.first) (put : h₁.put ≡ h.put) (bare : h₁.bare ≡ h.bare) (left : h₁.left ≡ h.left) where
  looked : DriverOk h₁ × Learns (driver_of h) 0 (driver_of h₁) × Grew Driver (seen_of h) (seen_of h₁) (Looked Driver 0)
  looked = learn_some h h₁ k h₁.seat.me slots 0 (Looked Driver 0) (looked_counts Driver 0) slots_is told.0 id refl refl size first put bare (omega arith)

  pub peeked_ok : DriverOk h₁
  peeked_ok = looked.0

  pub found_size : x ≡ frame_size (uncounted (seen_of h₁))
  found_size = told.2

  pub found_small : x < h.size
  found_small =
      let o = peeked_ok.rack.order in let l = length_uncounted (seen_of h₁) o.told in let a = o.done in let b = o.heard in let c = o.within in
      let ends = frame_ends (uncounted (seen_of h₁)) told.1 in let fits = ends.0 in let f = found_size in omega arith

  once : looks Driver (seen_of h₁) ≡ suc (looks Driver (seen_of h))
  once = let z = grew_looks Driver (seen_of h) (seen_of h₁) (Looked Driver 0) looked.2 in omega arith

  -- no frame was there
  pub no_frame : x ≡ 0 → LooksForFrame (driver_of h) 0 (driver_of h₁)
  no_frame e = record {
    learns = looked.1;
    looked = once;
    none = λ _. let z = none_there (uncounted (seen_of h₁)) (sym found_size ∙ e) in let l = length_uncounted (seen_of h₁) peeked_ok.rack.order.told in omega arith;
  }

  pub whole_frames : open_after 0 (uncounted (seen_of h₁)) ≡ 0
  whole_frames = told.1

  pub frame_there : 0 < x → 0 < length (uncounted (seen_of h₁))
  frame_there pos = there (uncounted (seen_of h₁)) (subst (λ (z : ℕ). 0 < z) found_size pos)
    where
      there : (ds : List Desc) → 0 < frame_size ds → 0 < length ds
      there [] p = p
      there (d ∷ ds) p = omega arith

  -- the frame was counted
  module _ (h₂ : Rack) (m' : Me Slot View) (pos : 0 < x) (slots₂ : ℕ) (slots₂_is : slots₂ ≡ h₁.size) (told₂ : cleared (step slots₂ w 0 0 none) h₁.seat.me 0 m') (id₂ : h₂.seat.table_id ≡ h₁.seat.table_id)
      (me0 : h₂.seat.me.0 ≡ m'.0) (me1 : h₂.seat.me.1 ≡ spin x m'.1) (size₂ : h₂.size ≡ h₁.size) (first₂ : h₂.first ≡ h₁.first) (put₂ : h₂.put ≡ h₁.put) (bare₂ : h₂.bare ≡ h₁.bare) (left₂ : h₂.left ≡ h₁.left + x) where
    abbrev n : ℕ
    n = frame_size (uncounted (seen_of h₁))

    done : DriverOk h₂ × Learns (driver_of h₁) n (driver_of h₂) × Grew Driver (seen_of h₁) (seen_of h₂) (Cleared n)
    done = learn_some h₁ h₂ peeked_ok m' slots₂ n (Cleared n) (cleared_counts n) slots₂_is told₂ id₂ me0 (me1 ∙ ap (λ (z : ℕ). spin z m'.1) found_size) size₂ first₂ put₂ bare₂ (left₂ ∙ ap (λ (z : ℕ). h₁.left + z) found_size)

    pub counted_ok : DriverOk h₂
    counted_ok = done.0

    pub frame_counted : LooksForFrame (driver_of h) x (driver_of h₂)
    frame_counted = let both = learns_on (driver_of h) (driver_of h₁) (driver_of h₂) 0 n looked.1 done.1 in record {
      learns = subst (λ (z : ℕ). Learns (driver_of h) z (driver_of h₂)) (let f = found_size in let g : 0 + n ≡ x = omega arith in g) both;
      looked = let a = once in let b = grew_looks Driver (seen_of h₁) (seen_of h₂) (Cleared n) done.2 in omega arith;
      none = λ e. absurd (omega arith);
    }
