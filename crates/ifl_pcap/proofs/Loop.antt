-- A record at a time is all of them.
use Rattle.std.proofs.Common.{◌≡◌, ℕ, ◌+◌, ◌<◌, ◌≤◌, List, [], ◌∷◌, ◌++◌, length, Result, Ok, Err, sym, ap, ◌∙◌, arith}
use Rattle.std.proofs.lemmas.List.{append-nil}
use Rattle.ifl_pcap.specs.declared.form.Form.{Form}
use Rattle.ifl_pcap.specs.declared.frame.Frame.{Frame}
use Rattle.ifl_pcap.specs.declared.fault.CaptureFault.{CaptureFault}
use Rattle.ifl_pcap.specs.declared.fault.CaptureFault.TheVariants.{Bad, Memory}
use Rattle.ifl_pcap.specs.Reading.{Fails, frame_at, frames_at}
use Rattle.ifl_pcap.proofs.Numbers.{IsBytes}
use Rattle.ifl_pcap.proofs.Records.{IsReadFrom-frame_at, length-IsRecord}
use Rattle.ifl_pcap.proofs.Files.{with_front, unchanged, regroup, frames_at-nil, frames_at-Ok, frames_at-bad, one_less}

-- what was read, and what is still read from this place on, is all of it
pub record IsSoFar (form : Form) (at : ℕ) (front : List Frame) (bytes : List ℕ) (total : Result (List Frame) CaptureFault) : Type 0 where
  pub fuel : ℕ
  pub enough : length bytes ≤ fuel
  pub fits : IsBytes bytes
  pub all : with_front front (frames_at form fuel at bytes) ≡ total

pub starts : (form : Form) (at : ℕ) (bytes : List ℕ) → IsBytes bytes → IsSoFar form at [] bytes (frames_at form (length bytes) at bytes)
starts form at bytes fits = record { fuel = length bytes; enough = omega arith; fits = fits; all = unchanged (frames_at form (length bytes) at bytes) }

pub length-frame_at : (form : Form) (at : ℕ) (f : Frame) (bytes after : List ℕ) → IsBytes bytes → frame_at form at bytes ≡ Ok (f, after) → length bytes ≡ 16 + length f.bytes + length after
length-frame_at form at f bytes after fits e = length-IsRecord form f bytes after (IsReadFrom-frame_at form at bytes (f, after) fits e).is

pub next : (form : Form) (at place : ℕ) (front : List Frame) (f : Frame) (bytes after : List ℕ) (total : Result (List Frame) CaptureFault) → 0 < length bytes → place ≡ at + (16 + length f.bytes) → frame_at form at bytes ≡ Ok (f, after) → IsSoFar form at front bytes total → IsSoFar form place (front ++ f ∷ []) after total
next form at place front f bytes after total some moved one so_far =
    let k = one_less (length bytes) so_far.fuel some so_far.enough in
    let read = IsReadFrom-frame_at form at bytes (f, after) so_far.fits one in
    let shorter = length-frame_at form at f bytes after so_far.fits one in
    let step : frames_at form so_far.fuel at bytes ≡ with_front (f ∷ []) (frames_at form k.0 place after) =
    ap (λ (n : ℕ). frames_at form n at bytes) k.1 ∙ frames_at-Ok form k.0 at bytes f after some one ∙ ap (λ (p : ℕ). with_front (f ∷ []) (frames_at form k.0 p after)) (sym moved) in
    record {
      fuel = k.0;
      enough = omega (arith, k.1, so_far.enough, shorter);
      fits = read.rest_fits;
      all = sym (regroup front (f ∷ []) (frames_at form k.0 place after)) ∙ ap (with_front front) (sym step) ∙ so_far.all;
    }

pub ends : (form : Form) (at : ℕ) (e : CaptureFault) (front : List Frame) (bytes : List ℕ) (total : Result (List Frame) CaptureFault) → 0 < length bytes → Fails e (frame_at form at bytes) → IsSoFar form at front bytes total → Fails e total
ends form at Memory front bytes total some h so_far = tt
ends form at (Bad place why) front bytes total some h so_far =
    let k = one_less (length bytes) so_far.fuel some so_far.enough in
    let step : frames_at form so_far.fuel at bytes ≡ Err (Bad place why) = ap (λ (n : ℕ). frames_at form n at bytes) k.1 ∙ frames_at-bad form k.0 at bytes (Bad place why) some h in
    sym so_far.all ∙ ap (with_front front) step

none_left : (form : Form) (fuel at : ℕ) (bytes : List ℕ) → length bytes ≡ 0 → frames_at form fuel at bytes ≡ Ok []
none_left form fuel at [] h = frames_at-nil form fuel at
none_left form fuel at (b ∷ bytes) h = absurd (omega arith)

pub is_done : (form : Form) (at : ℕ) (front : List Frame) (bytes : List ℕ) (total : Result (List Frame) CaptureFault) → length bytes ≡ 0 → IsSoFar form at front bytes total → total ≡ Ok front
is_done form at front bytes total none so_far =
    sym so_far.all ∙ ap (with_front front) (none_left form so_far.fuel at bytes none) ∙ ap (λ (fs : List Frame). Ok fs) (append-nil front)
