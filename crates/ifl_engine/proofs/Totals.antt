-- The captures of a run, as the line sees them.
use Rattle.std.proofs.Common.{◌≡◌, ℕ, ◌≤◌, List, [], ◌∷◌, length, map, refl, ap, arith}
use Rattle.std.specs.Prelude.{sum, sum_by}
use Rattle.std.proofs.lemmas.List.Sums.{sum_by-cons}
use Rattle.ifl_pcap.specs.declared.capture.Capture.{Capture}
use Rattle.ifl_pcap.specs.declared.frame.Frame.{Frame}
use Rattle.ifl_line.specs.Works.{AreFew, files_of}
use Rattle.ifl_engine.specs.Loaded.{frames_of}

pub files_of-frames : (cs : List Capture) → files_of cs ≡ map frames_of cs
files_of-frames [] = refl
files_of-frames (c ∷ cs) = ap (λ (z : List (List Frame)). c.frames ∷ z) (files_of-frames cs)

pub sum-lengths : (fss : List (List Frame)) → sum (map length fss) ≡ sum_by (λ (fs : List Frame). length fs) fss
sum-lengths [] = refl
sum-lengths (fs ∷ fss) = let t = sum-lengths fss in let a = sum_by-cons (λ (x : ℕ). x) (length fs) (map length fss) in let b = sum_by-cons (λ (x : List Frame). length x) fs fss in omega arith

-- none of some captures has more frames than all together
pub few_each : (n : ℕ) (cs : List Capture) → n ≤ 1000000 → sum_by (λ (fs : List Frame). length fs) (map frames_of cs) ≤ n → AreFew cs
few_each n [] small all = tt
few_each n (c ∷ cs) small all = let a = sum_by-cons (λ (x : List Frame). length x) c.frames (map frames_of cs) in (omega arith, few_each n cs small (omega arith))
