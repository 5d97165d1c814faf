-- What generated traffic takes of the limits of a run.
use Rattle.std.specs.Prelude.{ℕ, Bool, List, length, map, sum, sum_by, nat_lt, ◌||◌, if◌then◌else◌}
use Rattle.std.specs.List.{list_any}
use Rattle.ifl_pcap.specs.File.{written}
use Rattle.ifl_gen.specs.declared.traffic.Traffic.{Traffic}
use Rattle.ifl_gen.specs.declared.measuring.Measured.{Measured}
use Rattle.ifl_gen.specs.declared.measuring.Measured.TheVariants.{Fits, TooManyFrames, TooManyBytes}
use Rattle.ifl_gen.specs.Frames.{generated}

-- how many frames there are in all
abbrev pub frame_count : Traffic → ℕ
frame_count t = sum_by (λ frames. length frames) (generated t)

-- how many bytes each capture has as a file
abbrev pub sizes : Traffic → List ℕ
sizes t = map (λ frames. length (written frames)) (generated t)

-- a file is too long, or all are together
abbrev pub are_too_long : List ℕ → Bool
are_too_long lens = list_any (nat_lt 67108864) lens || nat_lt 134217728 (sum lens)

-- which limit the traffic exceeds: the frames are counted before the bytes
unfoldable pub measure_of : Traffic → Measured
measure_of t = if nat_lt 1000000 (frame_count t) then TooManyFrames else (if are_too_long (sizes t) then TooManyBytes else Fits)
