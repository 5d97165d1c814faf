-- Bytes that are added behind a record leave its frame as it is, and an added record is that of its frame.
use Rattle.std.proofs.Common.{◌≡◌, ℕ, ◌+◌, ◌≤◌, List, [], ◌∷◌, ◌++◌, length, take, drop, suc, refl, sym, ap, ◌∙◌, arith}
use Rattle.std.specs.Prelude.{All}
use Rattle.std.proofs.lemmas.List.{length-append, length-drop, get_or-take, take-append-le, drop-append-le, drop_at, append-nil}
use Rattle.ifl_pcap.specs.declared.form.Order.{Order}
use Rattle.ifl_pcap.specs.declared.form.Order.TheVariants.{Little, Big}
use Rattle.ifl_pcap.specs.declared.form.Form.{Form}
use Rattle.ifl_pcap.specs.declared.frame.Frame.{Frame}
use Rattle.ifl_pcap.specs.declared.table.Place.{Place}
use Rattle.ifl_pcap.specs.Numbers.{number_in}
use Rattle.ifl_pcap.specs.File.{record_of, written_form, Fits}
use Rattle.ifl_pcap.specs.Reading.{stamp_at}
use Rattle.ifl_pcap.specs.Table.{front_frame, frame_in, frames_in, LiesIn}
use Rattle.ifl_pcap.proofs.Parts.{length-record_of}
use Rattle.ifl_pcap.proofs.Records.{front_frame-IsRecord}
use Rattle.ifl_pcap.proofs.Places.{place, frame_in-front_frame, frames_in-push, LiesIn-push}

number_in-take : (order : Order) (bytes : List ℕ) → number_in order (take 4 bytes) ≡ number_in order bytes
unfolding number_in
number_in-take Little bytes = omega (arith, get_or-take 4 bytes 0 0 (omega arith), get_or-take 4 bytes 1 0 (omega arith), get_or-take 4 bytes 2 0 (omega arith), get_or-take 4 bytes 3 0 (omega arith))
number_in-take Big bytes = omega (arith, get_or-take 4 bytes 0 0 (omega arith), get_or-take 4 bytes 1 0 (omega arith), get_or-take 4 bytes 2 0 (omega arith), get_or-take 4 bytes 3 0 (omega arith))

number_in-append : (order : Order) (bytes more : List ℕ) → 4 ≤ length bytes → number_in order (bytes ++ more) ≡ number_in order bytes
number_in-append order bytes more long = sym (number_in-take order (bytes ++ more)) ∙ ap (number_in order) (take-append-le 4 bytes more long) ∙ number_in-take order bytes

-- the number at a place of the first 16 bytes
number_at-append : (order : Order) (n : ℕ) (bytes more : List ℕ) → n + 4 ≤ 16 → 16 ≤ length bytes → number_in order (drop n (bytes ++ more)) ≡ number_in order (drop n bytes)
number_at-append order n bytes more le long =
    ap (number_in order) (drop-append-le n bytes more (omega (arith, le, long))) ∙ number_in-append order (drop n bytes) more (omega (arith, le, long, length-drop n bytes))

stamp_at-append : (form : Form) (bytes more : List ℕ) → 16 ≤ length bytes → stamp_at form (bytes ++ more) ≡ stamp_at form bytes
unfolding stamp_at
stamp_at-append form bytes more long =
    rw (number_at-append form.order 0 bytes more (omega arith) long, number_at-append form.order 4 bytes more (omega arith) long, number_at-append form.order 12 bytes more (omega arith) long) refl

front_frame-append : (form : Form) (len : ℕ) (bytes more : List ℕ) → 16 + len ≤ length bytes → front_frame form len (bytes ++ more) ≡ front_frame form len bytes
front_frame-append form len bytes more long =
    rw (stamp_at-append form bytes more (omega (arith, long)), drop-append-le 16 bytes more (omega (arith, long)), take-append-le len (drop 16 bytes) more (omega (arith, long, length-drop 16 bytes))) refl

frame_in-append : (form : Form) (bytes more : List ℕ) (p : Place) → LiesIn bytes p → frame_in form (bytes ++ more) p ≡ frame_in form bytes p
frame_in-append form bytes more p le =
    frame_in-front_frame form (bytes ++ more) p ∙ ap (front_frame form p.len) (drop-append-le p.at bytes more (omega (arith, le)))
    ∙ front_frame-append form p.len (drop p.at bytes) more (omega (arith, le, length-drop p.at bytes)) ∙ sym (frame_in-front_frame form bytes p)

abbrev joined : Frame → List Frame → List Frame
joined f fs = f ∷ fs

pub frames_in-append : (form : Form) (bytes more : List ℕ) (places : List Place) → All (LiesIn bytes) places → frames_in form (bytes ++ more) places ≡ frames_in form bytes places
frames_in-append form bytes more [] all = refl
frames_in-append form bytes more (p ∷ ps) all =
    let first = frame_in-append form bytes more p (all 0 p (omega arith)) in
    let others = frames_in-append form bytes more ps (λ i d lt. all (suc i) d (omega arith)) in
    ap (λ (f : Frame). joined f (frames_in form (bytes ++ more) ps)) first ∙ ap (joined (frame_in form bytes p)) others

LiesIn-append : (bytes more : List ℕ) (places : List Place) → All (LiesIn bytes) places → All (LiesIn (bytes ++ more)) places
LiesIn-append bytes more places all = λ i d lt. let le = all i d lt in omega (arith, le, length-append bytes more)

-- a frame more, whose record stands behind the others
pub frames_in-record_of : (bytes new : List ℕ) (places more : List Place) (at len : ℕ) (f : Frame) → Fits f → All (LiesIn bytes) places → at ≡ length bytes → len ≡ length f.bytes
    → new ≡ bytes ++ record_of f → more ≡ places ++ place at len ∷ [] → frames_in written_form new more ≡ frames_in written_form bytes places ++ f ∷ []
frames_in-record_of bytes new places more at len f fit all at_is len_is grown pushed =
    let behind : record_of f ≡ drop at new = sym (ap (drop at) grown ∙ drop_at bytes (record_of f) at (sym at_is)) in
    let last : front_frame written_form len (record_of f) ≡ f = ap (λ (n : ℕ). front_frame written_form n (record_of f)) len_is ∙ front_frame-IsRecord written_form f (record_of f) [] (record { fraction = f.stamp.usec; counted = fit.usec; time = refl; fit = fit; parts = sym (append-nil (record_of f)) }) in
    frames_in-push written_form new places more at len (record_of f) behind pushed
    ∙ ap (λ (g : Frame). frames_in written_form new places ++ g ∷ []) last
    ∙ ap (λ (fs : List Frame). fs ++ f ∷ []) (ap (λ (b : List ℕ). frames_in written_form b places) grown ∙ frames_in-append written_form bytes (record_of f) places all)

pub LiesIn-record_of : (bytes new : List ℕ) (places more : List Place) (at len : ℕ) (f : Frame) → All (LiesIn bytes) places → at ≡ length bytes → len ≡ length f.bytes
    → new ≡ bytes ++ record_of f → more ≡ places ++ place at len ∷ [] → All (LiesIn new) more
LiesIn-record_of bytes new places more at len f all at_is len_is grown pushed =
    let long : length new ≡ length bytes + (16 + length f.bytes) = omega (arith, ap length grown, length-append bytes (record_of f), length-record_of f) in
    LiesIn-push new places more at len (rw grown (LiesIn-append bytes (record_of f) places all)) (omega (arith, long, at_is, len_is)) pushed
