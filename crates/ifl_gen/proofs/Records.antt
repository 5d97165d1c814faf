-- The frames of a sender fit in records, so that their file is read as them.
use Rattle.std.proofs.Common.{◌≡◌, ℕ, zero, suc, ◌+◌, ◌-◌, ◌*◌, ◌/◌, ◌%◌, ◌^◌, ◌<◌, ◌≤◌, List, map, length, ap, ◌∙◌, arith}
use Rattle.std.specs.List.{range_with_len, All, AllByRecursion}
use Rattle.std.proofs.lemmas.List.FromFn.{length-map-range_with_len}
use Rattle.std.proofs.lemmas.Nat.{mod_below, shl-shr}
use Rattle.std.proofs.Math.Nat.{mod-eq_of_lt}
use Rattle.ifl_pcap.specs.declared.frame.Frame.{Frame}
use Rattle.ifl_pcap.specs.File.{Fits, IsFile, written}
use Rattle.ifl_pcap.proofs.Written.{IsFile-written}
use Rattle.ifl_gen.specs.declared.traffic.Traffic.{Traffic}
use Rattle.ifl_gen.specs.States.{after_steps, first_state}
use Rattle.ifl_gen.specs.Frames.{length_by, frame_by, frame_of, captured, generated}
use Rattle.ifl_gen.proofs.Ranges.{All-map-range_with_len}
use Rattle.ifl_gen.proofs.Bytes.{length-bytes_by}

pub length_by-least : (x : ℕ) → 60 ≤ length_by x
unfolding length_by
length_by-least x = omega arith

pub length_by-most : (x : ℕ) → length_by x ≤ 1514
unfolding length_by
length_by-most x = omega (arith, mod_below (x / 2 ^ 33) 1455 (omega arith))

-- the number of a length
pub length_by-each : (n : ℕ) → 60 ≤ n → n ≤ 1514 → (x : ℕ) × (x < 2 ^ 64) × (length_by x ≡ n)
unfolding length_by
length_by-each n least most =
    let k = n - 60 in
    let small : k < 1455 = omega arith in
    let is : k * 2 ^ 33 / 2 ^ 33 % 1455 ≡ k = ap (λ (q : ℕ). q % 1455) (shl-shr k 33) ∙ mod-eq_of_lt small in
    (k * 2 ^ 33, omega arith, omega (arith, is))

Fits-frame_by : (sender index x : ℕ) → sender < 2 ^ 32 → index < 2 ^ 32 → Fits (frame_by sender index x)
Fits-frame_by sender index x s i = record {
  sec = i;
  usec = s;
  orig = omega (arith, length_by-most x);
  bytes = omega (arith, length_by-most x, length-bytes_by x (length_by x));
}

pub Fits-frame_of : (seed sender index : ℕ) → sender < 2 ^ 32 → index < 2 ^ 32 → Fits (frame_of seed sender index)
unfolding frame_of
Fits-frame_of seed sender index s i = Fits-frame_by sender index (after_steps (index + 1) (first_state seed sender)) s i

Fits-map-frame_of : (seed sender from n : ℕ) → sender < 2 ^ 32 → from + n ≤ 2 ^ 32 → AllByRecursion Fits (map (frame_of seed sender) (range_with_len from n))
Fits-map-frame_of seed sender from zero s i = tt
Fits-map-frame_of seed sender from (suc n) s i = (Fits-frame_of seed sender from s (omega arith), Fits-map-frame_of seed sender (from + 1) n s (omega arith))

pub Fits-captured : (t : Traffic) (sender : ℕ) → sender < 2 ^ 32 → t.frames < 2 ^ 32 → AllByRecursion Fits (captured t sender)
Fits-captured t sender s f = Fits-map-frame_of t.seed sender 0 t.frames s (omega arith)

pub IsFile-captured : (t : Traffic) (sender : ℕ) → sender < 2 ^ 32 → t.frames < 2 ^ 32 → IsFile (written (captured t sender)) (captured t sender)
IsFile-captured t sender s f = IsFile-written (captured t sender) (Fits-captured t sender s f)

-- ---- what holds of all captures

pub length-generated : (t : Traffic) → length (generated t) ≡ t.senders
unfolding generated
length-generated t = length-map-range_with_len (captured t) 0 t.senders

pub All-length-generated : (t : Traffic) → All (λ fs. length fs ≡ t.frames) (generated t)
unfolding generated
All-length-generated t =
    All-map-range_with_len (λ (fs : List Frame). length fs ≡ t.frames) (captured t) t.senders (λ s lt. length-map-range_with_len (frame_of t.seed s) 0 t.frames)

pub All-Fits-generated : (t : Traffic) → t.senders < 2 ^ 32 → t.frames < 2 ^ 32 → All (λ fs. AllByRecursion Fits fs) (generated t)
unfolding generated
All-Fits-generated t s f = All-map-range_with_len (λ (fs : List Frame). AllByRecursion Fits fs) (captured t) t.senders (λ i lt. Fits-captured t i (omega arith) f)

pub All-IsFile-generated : (t : Traffic) → t.senders < 2 ^ 32 → t.frames < 2 ^ 32 → All (λ fs. IsFile (written fs) fs) (generated t)
unfolding generated
All-IsFile-generated t s f = All-map-range_with_len (λ (fs : List Frame). IsFile (written fs) fs) (captured t) t.senders (λ i lt. IsFile-captured t i (omega arith) f)
