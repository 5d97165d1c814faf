-- The order text of accepted lines and away lines. 10 is the line feed.
use Rattle.std.specs.Prelude.{◌≡◌, ℕ, ◌^◌, ◌<◌, List, ◌++◌, length, codes, decimal}
use Rattle.std.specs.List.{All, flat_map}
use Rattle.ifl_base.specs.declared.fate.Fate.{Fate}
use Rattle.ifl_base.specs.declared.fate.Fate.TheVariants as fate
use Rattle.ifl_base.specs.declared.fate.Away.{Away}
use Rattle.ifl_base.specs.declared.fate.Away.TheVariants as away
use Rattle.ifl_base.specs.declared.word.RingWord.{RingWord}
use Rattle.ifl_base.specs.Word.{name_of}
use Rattle.ifl_check.specs.declared.line.Line.{Line}

abbrev pub fate_text : Fate → List ℕ
fate_text fate.Wire = codes "wire"
fate_text fate.TooManySegments = codes "too_many_segments"
fate_text fate.Reset = codes "reset"
fate_text fate.Flush = codes "flush"

-- a number, and what stands behind it after a space
abbrev pub number_then : ℕ → List ℕ → List ℕ
number_then n text = decimal n ++ (codes " " ++ text)

-- a word that was seen: head, tail, cidx and the flag
abbrev pub word_text : RingWord → List ℕ
word_text w = number_then w.head (number_then w.tail (number_then w.cidx (name_of w.flag)))

abbrev pub away_text : Away → List ℕ
away_text away.Runt = codes "runt"
away_text away.Oversize = codes "oversize"
away_text away.NoClusters = codes "no_clusters"
away_text (away.NoBuffers w) = codes "no_buffers " ++ word_text w

-- a line: the frame's sender and record, and what is said of it
abbrev pub line_text : {T : Type 0} → (T → List ℕ) → Line T → List ℕ
line_text text_of l = number_then l.sender (number_then l.index (text_of l.what ++ codes "\n"))

-- a name, a space and a number
abbrev pub count_text : List ℕ → ℕ → List ℕ
count_text name n = name ++ (codes " " ++ (decimal n ++ codes "\n"))

-- the number of accepted lines and then these lines, the number of away lines and then these lines
abbrev pub order_text_of : List (Line Fate) → List (Line Away) → List ℕ
order_text_of accepted turned =
    count_text (codes "accepted") (length accepted) ++ (flat_map (line_text fate_text) accepted
    ++ (count_text (codes "away") (length turned) ++ flat_map (line_text away_text) turned))

-- a line's numbers have 32 bits
abbrev pub HasNumbers : {T : Type 0} → Line T → Type 0
HasNumbers l = (l.sender < 2 ^ 32) × (l.index < 2 ^ 32)

-- a word's places have 16 bits
abbrev pub HasPlaces : RingWord → Type 0
HasPlaces w = (w.head < 65536) × (w.tail < 65536) × (w.cidx < 65536)

abbrev pub IsReason : Away → Type 0
IsReason away.Runt = Unit {0}
IsReason away.Oversize = Unit {0}
IsReason away.NoClusters = Unit {0}
IsReason (away.NoBuffers w) = HasPlaces w

abbrev pub IsAwayLine : Line Away → Type 0
IsAwayLine l = HasNumbers l × IsReason l.what

-- the text is that of these lines, whose numbers are in range
pub record IsOrderText (text : List ℕ) (accepted : List (Line Fate)) (turned : List (Line Away)) : Type 0 where
  pub accepted_fit : All HasNumbers accepted
  pub away_fit : All IsAwayLine turned
  pub reads : order_text_of accepted turned ≡ text
