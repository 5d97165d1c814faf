-- What is printed of words, counters and faults. 10 is the line feed.
use Rattle.std.specs.Prelude.{ℕ, zero, suc, ◌/◌, ◌%◌, List, [], ◌∷◌, ◌++◌, codes, decimal, slice_index}
use Rattle.ifl_base.specs.declared.word.RingWord.{RingWord}
use Rattle.ifl_base.specs.Word.{pack, name_of}
use Rattle.ifl_ringcore.specs.declared.counters.Counters.{Counters}
use Rattle.ifl_ringcore.specs.declared.illegal.Illegal.{Illegal}
use Rattle.ifl_ringcore.specs.declared.illegal.Illegal.TheVariants as illegal

-- a lower-case hexadecimal digit
abbrev pub hex_digit : ℕ → ℕ
hex_digit n = slice_index (codes "0123456789abcdef") n

-- a number's lowest so many hexadecimal digits, highest first
unfoldable pub hex_digits : ℕ → ℕ → List ℕ
hex_digits zero n = []
hex_digits (suc k) n = hex_digits k (n / 16) ++ hex_digit (n % 16) ∷ []

-- the packed word in 16 digits, and the flag
unfoldable pub word_line : RingWord → List ℕ
word_line w = hex_digits 16 (pack w) ++ (codes " " ++ (name_of w.flag ++ codes "\n"))

abbrev pub count_text : List ℕ → ℕ → List ℕ
count_text name n = name ++ decimal n

unfoldable pub counters_line : Counters → List ℕ
counters_line c = count_text (codes "starts ") c.starts ++ count_text (codes " stalls ") c.stalls ++ count_text (codes " restarts ") c.restarts
    ++ count_text (codes " abdications ") c.abdications ++ count_text (codes " enqueues ") c.enqueues ++ count_text (codes " drops ") c.drops ++ codes "\n"

abbrev pub condition_name : Illegal → List ℕ
condition_name illegal.Seat = codes "Seat"
condition_name illegal.Count = codes "Count"
condition_name illegal.Role = codes "Role"
condition_name illegal.Pending = codes "Pending"
condition_name illegal.NoReservation = codes "NoReservation"
condition_name illegal.Turn = codes "Turn"
condition_name illegal.Flag = codes "Flag"
condition_name illegal.Room = codes "Room"
condition_name illegal.Known = codes "Known"
condition_name illegal.Update = codes "Update"
condition_name illegal.Left = codes "Left"
condition_name illegal.Budget = codes "Budget"
condition_name illegal.Quiet = codes "Quiet"

-- the schedule's line and why it is a fault
unfoldable pub fault_line : ℕ → List ℕ → List ℕ
fault_line line why = codes "trace: line " ++ (decimal line ++ (codes ": " ++ (why ++ codes "\n")))
