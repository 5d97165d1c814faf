-- The frames that lie at some places of a file.
use Rattle.std.proofs.Common.{◌≡◌, ℕ, zero, suc, ◌+◌, ◌<◌, ◌≤◌, Bool, true, false, cond, List, [], ◌∷◌, ◌++◌, length, get_or, take, drop, Some, refl, sym, ap, ◌∙◌, arith}
use Rattle.std.specs.Prelude.{All, slice_get, option_map, filter}
use Rattle.std.proofs.lemmas.List.{length-map, length-take, length-drop, map-append, drop-drop}
use Rattle.std.proofs.lemmas.List.Elements.{All-append}
use Rattle.std.proofs.lemmas.Option.{slice_get-map, slice_get-get_or}
use Rattle.ifl_base.specs.declared.ticket.Stamp.{Stamp}
use Rattle.ifl_pcap.specs.declared.form.Form.{Form}
use Rattle.ifl_pcap.specs.declared.frame.Frame.{Frame}
use Rattle.ifl_pcap.specs.declared.table.Place.{Place}
use Rattle.ifl_pcap.specs.Reading.{stamp_at}
use Rattle.ifl_pcap.specs.Table.{front_frame, frame_in, frames_in, LiesIn, has_length, is_within}

abbrev pub place : ℕ → ℕ → Place
place at len = record { at = at; len = len }

abbrev pub made : Stamp → List ℕ → Frame
made stamp bytes = record { stamp = stamp; bytes = bytes }

pub frame_in-front_frame : (form : Form) (bytes : List ℕ) (p : Place) → frame_in form bytes p ≡ front_frame form p.len (drop p.at bytes)
unfolding frame_in
frame_in-front_frame form bytes p = refl

-- the frame at a number is the one at that number's place
pub slice_get-frames_in : (form : Form) (bytes at_record behind body : List ℕ) (places : List Place) (i : ℕ) (p : Place) (stamp : Stamp) (f : Frame)
    → i < length (frames_in form bytes places) → p ≡ get_or places i p → at_record ≡ drop p.at bytes → behind ≡ drop 16 at_record → body ≡ take p.len behind
    → stamp ≡ stamp_at form at_record → f ≡ made stamp body → slice_get (frames_in form bytes places) i ≡ Some f
slice_get-frames_in form bytes at_record behind body places i p stamp f lt is record_is behind_is body_is stamp_is frame_is =
    let found : slice_get places i ≡ Some p = slice_get-get_or places i p (omega (arith, length-map places (frame_in form bytes))) ∙ ap (λ (q : Place). Some q) (sym is) in
    let same : frame_in form bytes p ≡ f = frame_in-front_frame form bytes p ∙ rw (frame_is, stamp_is, body_is, behind_is, record_is) refl in
    slice_get-map (frame_in form bytes) places i ∙ ap (option_map (frame_in form bytes)) found ∙ ap (λ (g : Frame). Some g) same

pub LiesIn-get_or : (bytes : List ℕ) (places : List Place) (i : ℕ) (p : Place) → All (LiesIn bytes) places → i < length places → p ≡ get_or places i p → LiesIn bytes p
LiesIn-get_or bytes places i p all lt is = let h = all i p lt in rw is h

-- one more place is one more frame
pub frames_in-push : (form : Form) (bytes : List ℕ) (places new : List Place) (at len : ℕ) (rest : List ℕ) → rest ≡ drop at bytes → new ≡ places ++ place at len ∷ []
    → frames_in form bytes new ≡ frames_in form bytes places ++ front_frame form len rest ∷ []
frames_in-push form bytes places new at len rest is pushed =
    ap (frames_in form bytes) pushed ∙ map-append (frame_in form bytes) places (place at len ∷ [])
    ∙ ap (λ (f : Frame). frames_in form bytes places ++ f ∷ []) (frame_in-front_frame form bytes (place at len) ∙ ap (front_frame form len) (sym is))

pub LiesIn-push : (bytes : List ℕ) (places new : List Place) (at len : ℕ) → All (LiesIn bytes) places → at + 16 + len ≤ length bytes → new ≡ places ++ place at len ∷ [] → All (LiesIn bytes) new
LiesIn-push bytes places new at len all le pushed =
    let one : All (LiesIn bytes) (place at len ∷ []) = λ i d lt. only i d lt in
    rw pushed (All-append (LiesIn bytes) places (place at len ∷ []) all one)
  where
    only : (i : ℕ) (d : Place) → i < 1 → LiesIn bytes (get_or (place at len ∷ []) i d)
    only zero d lt = le
    only (suc i) d lt = absurd (omega arith)

-- what stands behind a record
pub drop-record : (bytes rest behind after : List ℕ) (at len : ℕ) → rest ≡ drop at bytes → behind ≡ drop 16 rest → after ≡ drop len behind → after ≡ drop (at + (16 + len)) bytes
drop-record bytes rest behind after at len is behind_is after_is =
    after_is ∙ ap (drop len) (behind_is ∙ ap (drop 16) is ∙ drop-drop 16 at bytes) ∙ drop-drop len (at + 16) bytes ∙ ap (λ (n : ℕ). drop n bytes) (omega arith)

length-frame_in : (form : Form) (bytes : List ℕ) (p : Place) → LiesIn bytes p → length (frame_in form bytes p).bytes ≡ p.len
unfolding frame_in
length-frame_in form bytes p le = omega (arith, le, length-take p.len (drop 16 (drop p.at bytes)), length-drop 16 (drop p.at bytes), length-drop p.at bytes)

abbrev pub is_kept : ℕ → ℕ → Place → Bool
is_kept least most p = is_within least most p.len

has_length-frame_in : (form : Form) (bytes : List ℕ) (least most : ℕ) (p : Place) → LiesIn bytes p → has_length least most (frame_in form bytes p) ≡ is_kept least most p
unfolding has_length
has_length-frame_in form bytes least most p le = ap (is_within least most) (length-frame_in form bytes p le)

-- the frames that are kept are those at the places that are kept
pub frames_in-filter : (form : Form) (bytes : List ℕ) (least most : ℕ) (places : List Place) → All (LiesIn bytes) places → frames_in form bytes (filter (is_kept least most) places) ≡ filter (has_length least most) (frames_in form bytes places)
frames_in-filter form bytes least most [] all = refl
frames_in-filter form bytes least most (p ∷ ps) all =
    let first : LiesIn bytes p = all 0 p (omega arith) in
    let others = frames_in-filter form bytes least most ps (λ i d lt. all (suc i) d (omega arith)) in
    rw (has_length-frame_in form bytes least most p first) (by_case (is_kept least most p) others)
  where
    by_case : (b : Bool) → frames_in form bytes (filter (is_kept least most) ps) ≡ filter (has_length least most) (frames_in form bytes ps)
        → frames_in form bytes (cond b (p ∷ filter (is_kept least most) ps) (filter (is_kept least most) ps)) ≡ cond b (frame_in form bytes p ∷ filter (has_length least most) (frames_in form bytes ps)) (filter (has_length least most) (frames_in form bytes ps))
    by_case true e = ap (λ (fs : List Frame). frame_in form bytes p ∷ fs) e
    by_case false e = e
