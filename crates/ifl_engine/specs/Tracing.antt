-- What the replay of a schedule prints, and its status.
use Rattle.std.specs.Prelude.{◌≡◌, ◌⊎◌, ℕ, List, codes, if◌then◌else◌}
use Rattle.ifl_ringcore.specs.declared.schedule.Schedule.{Schedule}
use Rattle.ifl_ringcore.specs.Schedule.{IsScheduleText, IsFirstBadLine}
use Rattle.ifl_ringcore.specs.Texts.{fault_line}
use Rattle.ifl_ringcore.specs.Trace.{trace_text, is_legal}

-- the file is a schedule, and what is printed is its trace: status 0 where every event is legal, else 9
pub record IsTraced (file text : List ℕ) (status : ℕ) : Type 0 where
  pub schedule : Schedule
  pub reads : IsScheduleText file schedule
  pub printed : text ≡ trace_text schedule
  pub ends : status ≡ (if is_legal schedule then 0 else 9)

-- the file is no schedule, and its first bad line is told
pub record IsBadSchedule (file text : List ℕ) (status : ℕ) : Type 0 where
  pub line : ℕ
  pub first : IsFirstBadLine file line
  pub printed : text ≡ fault_line line (codes "Line")
  pub ends : status ≡ 9

-- what a replay of the file prints, and its status
abbrev pub IsReplay : List ℕ → List ℕ → ℕ → Type 0
IsReplay file text status = IsTraced file text status ⊎ IsBadSchedule file text status

-- the file is a schedule whose every event is legal
abbrev pub IsLegalSchedule : List ℕ → Type 0
IsLegalSchedule file = (text : List ℕ) × IsReplay file text 0
