-- What the parts of a run do, each on its own.
use Rattle.std.specs.Prelude.{◌≡◌, ◌<◌, ◌≤◌, ◌*◌, ◌⊎◌, ℕ, List, ◌++◌, length, take, sum_by, All, Result, Ok, Err}
use Rattle.std.specs.List.{AllByRecursion}
use Rattle.std.specs.Global.{Vec}
use Rattle.ifl_outside.specs.Told.{BothTold}
use Rattle.ifl_outside.specs.Causes.{Rose}
use Rattle.ifl_outside.specs.declared.fault.HostError.{HostError}
use Rattle.ifl_outside.specs.declared.fault.HostError.TheVariants as host
use Rattle.ifl_pcap.specs.declared.frame.Frame.{Frame}
use Rattle.ifl_pcap.specs.File.{Fits}
use Rattle.ifl_engine.specs.declared.stop.Stop.{Stop}
use Rattle.ifl_engine.specs.declared.stop.Stop.TheVariants as stop
use Rattle.ifl_engine.specs.Words.{Named}
use Rattle.ifl_engine.specs.Status.{status_of}
use Rattle.ifl_engine.specs.FaultLines.{line_of}
use Rattle.ifl_engine.specs.Seen.{Seen}

-- no file is longer than a capture's may be
abbrev pub AreWithin : List (Vec ℕ) → Type 0
AreWithin files = All (λ v. length v.items ≤ 67108864) files

-- what a capture of a file within the limit has
pub record IsSmall (frames : List Frame) : Type 0 where
  pub fit : AllByRecursion Fits frames
  pub few : 16 * length frames ≤ 67108864

-- what the captures of a run have
pub record AreSmall (captures : List (List Frame)) : Type 0 where
  pub some : 0 < length captures
  pub few : length captures ≤ 16
  pub each : All IsSmall captures
  pub frames : sum_by (λ c. length c) captures ≤ 1000000

-- What was read, seen by view, is what is to be read, or it stops for the same cause; memory may run out at any time. A
-- stop of the words or of an output is none of the reading.
abbrev pub IsRead : {X Y : Type 0} → (X → Y) → Result X Stop → Result Y Stop → Type 0
IsRead view (Ok x) read = read ≡ Ok (view x)
IsRead view (Err stop.Memory) read = Unit {0}
IsRead view (Err (stop.Words why)) read = ⊥
IsRead view (Err stop.WireFailed) read = ⊥
IsRead view (Err stop.OrderFailed) read = ⊥
IsRead view (Err stop.PrintFailed) read = ⊥
IsRead view (Err e) read = read ≡ Err e

-- the host failed to read a file
abbrev pub IsReadFailure : Stop → Type 0
IsReadFailure (stop.ReadFailed which) = Unit {0}
IsReadFailure e = ⊥

-- what was to be read was not, since the host failed
abbrev pub IsReadFailed : {X : Type 0} → Result X Stop → Type 0
IsReadFailed (Ok x) = ⊥
IsReadFailed (Err why) = IsReadFailure why

-- the stop for a call of the host that did not succeed
abbrev pub stop_by : HostError → Stop → Stop
stop_by host.Failed failed = failed
stop_by host.Memory failed = stop.Memory

-- a stop that a call of the host gave
abbrev pub IsHostStop : Stop → ℕ → ℕ → Type 0
IsHostStop stop.Memory before after = Unit {0}
IsHostStop stop.WireFailed before after = Rose before after
IsHostStop stop.OrderFailed before after = Rose before after
IsHostStop stop.PrintFailed before after = Rose before after
IsHostStop e before after = ⊥

-- the text was printed, and the answer is the status of the stop
pub record IsToldBy (text : List ℕ) (why : Stop) (before after : Seen) (answer : ℕ) : Type 0 where
  pub status : (answer ≡ status_of why) ⊎ (answer ≡ 6)
  pub later : before.faults ≤ after.faults
  pub files : after.files ≡ before.files
  pub line : (answer ≡ 6) ⊎ (Rose before.faults after.faults ⊎ BothTold before.printed after.printed (λ was now. now ≡ was ++ text))
  -- never more than its beginning
  pub begun : BothTold before.printed after.printed (λ was now. (k : ℕ) × (now ≡ was ++ take k text))

-- the fault line was printed, and the answer is the status of the stop
abbrev pub IsTold : Named → Stop → Seen → Seen → ℕ → Type 0
IsTold names why before after answer = IsToldBy (line_of names why) why before after answer
