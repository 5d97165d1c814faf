-- Every record of the files stands in exactly one line, and no line names another.
use Rattle.std.specs.Prelude.{◌≡◌, ℕ, ◌+◌, Bool, ◌&&◌, nat_eq, List}
use Rattle.std.specs.List.{count_by}
use Rattle.ifl_base.specs.declared.fate.Fate.{Fate}
use Rattle.ifl_base.specs.declared.fate.Away.{Away}
use Rattle.ifl_pcap.specs.declared.frame.Frame.{Frame}
use Rattle.ifl_check.specs.declared.line.Line.{Line}
use Rattle.ifl_check.specs.Files.{IsRecordAt}

abbrev pub is_named : {T : Type 0} → ℕ → ℕ → Line T → Bool
is_named s k l = nat_eq l.sender s && nat_eq l.index k

-- how many lines name the record
abbrev pub lines_naming : ℕ → ℕ → List (Line Fate) → List (Line Away) → ℕ
lines_naming s k accepted turned = count_by (is_named s k) accepted + count_by (is_named s k) turned

pub record EachOnce (files : List (List Frame)) (accepted : List (Line Fate)) (turned : List (Line Away)) : Type 0 where
  pub once : (s k : ℕ) → IsRecordAt files s k → lines_naming s k accepted turned ≡ 1
  pub others : (s k : ℕ) → (IsRecordAt files s k → ⊥) → lines_naming s k accepted turned ≡ 0
