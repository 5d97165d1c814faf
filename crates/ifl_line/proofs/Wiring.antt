-- The frames that an engine emitted, as the order record has them.
use Rattle.std.proofs.Common.{true, false, ◌≡◌, ℕ, List, [], ◌∷◌, ◌++◌, map, sym, refl, ap, ◌∙◌, ⊎_elim}
use Rattle.ifl_base.specs.declared.ticket.Stamp.{Stamp}
use Rattle.ifl_desc.specs.declared.desc.Desc.{Desc}
use Rattle.ifl_desc.specs.declared.desc.Status.{Status}
use Rattle.ifl_desc.specs.declared.desc.Status.TheVariants.{Posted, Emitted, Aborted, Flushed, Filled, Unused}
use Rattle.ifl_desc.specs.Frames.{bytes_of}
use Rattle.ifl_device.specs.Adapter.{captured, emitted_among, is_emitted, returned_as, status_of, AreReturned, IsReturned}
use Rattle.ifl_pcap.specs.declared.frame.Frame.{Frame}
use Rattle.ifl_ringcore.specs.declared.history.Meaning.{Meaning}
use Rattle.ifl_txq.specs.declared.line.OrderLine.{OrderLine}
use Rattle.ifl_txq.specs.Done.{frame_fate, frames_with, is_wire, packets_with, shown, told}
use Rattle.ifl_txq.specs.Frames.{fate_of, joined}
use Rattle.ifl_txq.specs.Log.{kept}
use Rattle.ifl_line.specs.declared.rules.Rules.{Rules}
use Rattle.ifl_line.specs.Good.{ArePacketsOf, emitted}
use Rattle.ifl_line.proofs.Merging.{bool_cases}
use Rattle.ifl_line.proofs.Returning.{rest_of}

-- ---- a frame out of its marks and its bytes

abbrev stamp_from : List ℕ → Stamp
stamp_from [] = record { sec = 0; usec = 0; orig = 0 }
stamp_from (a ∷ []) = record { sec = 0; usec = 0; orig = 0 }
stamp_from (a ∷ (b ∷ [])) = record { sec = 0; usec = 0; orig = 0 }
stamp_from (a ∷ (b ∷ (c ∷ xs))) = record { sec = a; usec = b; orig = c }

abbrev pub rebuilt : List ℕ × List ℕ → Frame
rebuilt p = record { stamp = stamp_from p.0; bytes = p.1 }

joined-bytes : (ds : List Desc) → joined ds ≡ bytes_of ds
joined-bytes [] = refl
joined-bytes (d ∷ ds) = ap (λ (z : List ℕ). d.seg.bytes ++ z) (joined-bytes ds)

-- ---- frames that were returned

pub is_wire-fate_of : (s : Status) → is_wire (fate_of s) ≡ is_emitted s
is_wire-fate_of Posted = refl
is_wire-fate_of Emitted = refl
is_wire-fate_of Aborted = refl
is_wire-fate_of Flushed = refl
is_wire-fate_of Filled = refl
is_wire-fate_of Unused = refl

-- entries that all have one status give its fate
pub fate-same : (s : Status) (d : Desc) (ds : List Desc) → map (returned_as s) (d ∷ ds) ≡ d ∷ ds → frame_fate (d ∷ ds) ≡ fate_of s
fate-same s d [] e = ap (λ (z : List Desc). fate_of (status_of z)) (sym e)
fate-same s d (x ∷ ds) e = fate-same s x ds (ap rest_of e)

rebuilt-shown : (f : List Desc) → IsReturned f → rebuilt (shown f) ≡ captured f
rebuilt-shown [] h = absurd h.0
rebuilt-shown (d ∷ ds) h = ap (λ (z : List ℕ). record { stamp = d.stamp; bytes = z }) (joined-bytes (d ∷ ds))

wire-emitted : (f : List Desc) → IsReturned f → is_wire (frame_fate f) ≡ is_emitted (status_of f)
wire-emitted [] h = absurd h.0
wire-emitted (d ∷ ds) h = ap is_wire (fate-same d.status d ds h.1) ∙ is_wire-fate_of d.status

-- the frames with fate wire are those that were emitted
pub rebuilt-frames_with : (fs : List (List Desc)) → AreReturned fs → map rebuilt (frames_with is_wire fs) ≡ map captured (emitted_among fs)
rebuilt-frames_with [] h = refl
rebuilt-frames_with (f ∷ fs) (is, more) = let rest = rebuilt-frames_with fs more in let same = wire-emitted f is in ⊎_elim
    (λ (t : is_emitted (status_of f) ≡ true). rw t (rw (same ∙ t) (λ i. rebuilt-shown f is i ∷ rest i)))
    (λ (n : is_emitted (status_of f) ≡ false). rw n (rw (same ∙ n) rest))
    (bool_cases (is_emitted (status_of f)))

-- ---- packets as the order record has them

told-kept : (l : OrderLine) → told is_wire (kept l).fate ≡ is_wire l.fate
told-kept l = refl

-- the packets with fate wire are the frames of the lines that say so
pub rebuilt-packets_with : (r : Rules) (files : List (List Frame)) (ls : List OrderLine) (ms : List Meaning) → ArePacketsOf r files ls ms
    → map rebuilt (packets_with is_wire ms (map kept ls)) ≡ emitted files ls
rebuilt-packets_with r files [] [] h = refl
rebuilt-packets_with r files [] (m ∷ ms) h = absurd (cc)
rebuilt-packets_with r files (l ∷ ls) [] h = absurd h
rebuilt-packets_with r files (l ∷ ls) (m ∷ ms) ((f, named, fit, is), more) = let rest = rebuilt-packets_with r files ls ms more in ⊎_elim
    (λ (t : is_wire l.fate ≡ true). rw t (rw named (rw is (ap (λ (z : List Frame). f ∷ z) rest))))
    (λ (n : is_wire l.fate ≡ false). rw n rest)
    (bool_cases (is_wire l.fate))
