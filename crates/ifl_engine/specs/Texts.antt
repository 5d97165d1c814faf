-- The order text and the counter text. 10 is the line feed.
use Rattle.std.specs.Prelude.{ℕ, Bool, List, [], ◌++◌, cond, length, codes, decimal}
use Rattle.std.specs.List.{flat_map}
use Rattle.ifl_base.specs.declared.fate.Fate.{Fate}
use Rattle.ifl_base.specs.declared.fate.Fate.TheVariants as fate
use Rattle.ifl_base.specs.declared.fate.Away.{Away}
use Rattle.ifl_base.specs.declared.fate.Away.TheVariants as away
use Rattle.ifl_base.specs.declared.word.RingWord.{RingWord}
use Rattle.ifl_base.specs.Word.{name_of}
use Rattle.ifl_ringcore.specs.declared.counters.Counters.{Counters}
use Rattle.ifl_txq.specs.declared.line.OrderLine.{OrderLine}
use Rattle.ifl_line.specs.declared.away_line.AwayLine.{AwayLine}
use Rattle.ifl_engine.specs.declared.report.Plain.{Plain}

abbrev pub fate_name : Fate → List ℕ
fate_name fate.Wire = codes "wire"
fate_name fate.TooManySegments = codes "too_many_segments"
fate_name fate.Reset = codes "reset"
fate_name fate.Flush = codes "flush"

-- a space and a number
abbrev pub field : ℕ → List ℕ
field n = codes " " ++ decimal n

-- a word that was seen: its places and its flag, each behind a space
abbrev pub word_text : RingWord → List ℕ
word_text w = field w.head ++ (field w.tail ++ (field w.cidx ++ (codes " " ++ name_of w.flag)))

abbrev pub away_name : Away → List ℕ
away_name away.Runt = codes "runt"
away_name away.Oversize = codes "oversize"
away_name away.NoClusters = codes "no_clusters"
away_name (away.NoBuffers w) = codes "no_buffers" ++ word_text w

-- a sender, a record and a word, with single spaces between
unfoldable pub text_line : ℕ → ℕ → List ℕ → List ℕ
text_line s k text = decimal s ++ (codes " " ++ (decimal k ++ (codes " " ++ (text ++ codes "\n"))))

-- the same, before its line feed
abbrev pub open_line : ℕ → ℕ → List ℕ → List ℕ
open_line s k text = decimal s ++ (codes " " ++ (decimal k ++ (codes " " ++ text)))

-- a name, a space and a number
unfoldable pub count_line : List ℕ → ℕ → List ℕ
count_line name n = name ++ (codes " " ++ (decimal n ++ codes "\n"))

abbrev pub order_line : OrderLine → List ℕ
order_line l = text_line l.ticket.sender l.ticket.index (fate_name l.fate)

abbrev pub away_line : AwayLine → List ℕ
away_line l = text_line l.ticket.sender l.ticket.index (away_name l.away)

abbrev pub order_text_of : List OrderLine → List AwayLine → List ℕ
order_text_of order turned =
    ((count_line (codes "accepted") (length order) ++ flat_map order_line order) ++ count_line (codes "away") (length turned)) ++ flat_map away_line turned

-- what the ring counted
abbrev pub ring_text_of : Counters → List ℕ
ring_text_of c =
    count_line (codes "ring_starts") c.starts ++ (count_line (codes "ring_stalls") c.stalls
    ++ (count_line (codes "ring_restarts") c.restarts ++ (count_line (codes "ring_abdications") c.abdications
    ++ (count_line (codes "ring_enqueues") c.enqueues ++ count_line (codes "ring_drops") c.drops))))

-- how many lines there are of each kind
abbrev pub plain_text_of : Plain → List ℕ
plain_text_of p =
    count_line (codes "frames") p.frames ++ count_line (codes "wire") p.wire ++ count_line (codes "wire_bytes") p.wire_bytes
    ++ count_line (codes "runt") p.runt ++ count_line (codes "oversize") p.oversize
    ++ count_line (codes "no_buffers") p.no_buffers ++ count_line (codes "no_clusters") p.no_clusters
    ++ count_line (codes "too_many_segments") p.too_many_segments ++ count_line (codes "reset") p.reset ++ count_line (codes "flush") p.flush

-- what is printed of a run: the plain counters, and those of the ring where they are asked for
abbrev pub counter_text_of : Bool → Plain → Counters → List ℕ
counter_text_of ring p c = plain_text_of p ++ cond ring (ring_text_of c) []
