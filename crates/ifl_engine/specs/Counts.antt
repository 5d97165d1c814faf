-- The counters of a run: how many lines of each kind there are.
use Rattle.std.specs.Prelude.{Bool, true, false, List, length, count_by, sum_by}
use Rattle.ifl_base.specs.declared.fate.Fate.{Fate}
use Rattle.ifl_base.specs.declared.fate.Fate.TheVariants as fate
use Rattle.ifl_base.specs.declared.fate.Away.{Away}
use Rattle.ifl_base.specs.declared.fate.Away.TheVariants as away
use Rattle.ifl_pcap.specs.declared.frame.Frame.{Frame}
use Rattle.ifl_txq.specs.declared.line.OrderLine.{OrderLine}
use Rattle.ifl_txq.specs.Done.{is_reset, is_wire}
use Rattle.ifl_line.specs.declared.away_line.AwayLine.{AwayLine}
use Rattle.ifl_line.specs.Good.{emitted}
use Rattle.ifl_engine.specs.declared.report.Plain.{Plain}

abbrev pub is_too_long : Fate → Bool
is_too_long fate.Wire = false
is_too_long fate.TooManySegments = true
is_too_long fate.Reset = false
is_too_long fate.Flush = false

abbrev pub is_flush : Fate → Bool
is_flush fate.Wire = false
is_flush fate.TooManySegments = false
is_flush fate.Reset = false
is_flush fate.Flush = true

abbrev pub is_runt : Away → Bool
is_runt away.Runt = true
is_runt away.Oversize = false
is_runt away.NoClusters = false
is_runt (away.NoBuffers w) = false

abbrev pub is_oversize : Away → Bool
is_oversize away.Runt = false
is_oversize away.Oversize = true
is_oversize away.NoClusters = false
is_oversize (away.NoBuffers w) = false

abbrev pub is_no_clusters : Away → Bool
is_no_clusters away.Runt = false
is_no_clusters away.Oversize = false
is_no_clusters away.NoClusters = true
is_no_clusters (away.NoBuffers w) = false

abbrev pub is_no_buffers : Away → Bool
is_no_buffers away.Runt = false
is_no_buffers away.Oversize = false
is_no_buffers away.NoClusters = false
is_no_buffers (away.NoBuffers w) = true

-- the counts of the lines of each kind
abbrev pub counts_of : List (List Frame) → List OrderLine → List AwayLine → Plain
counts_of captures order turned = record {
  frames = sum_by (λ c. length c) captures;
  wire = count_by (λ l. is_wire l.fate) order;
  wire_bytes = sum_by (λ f. length f.bytes) (emitted captures order);
  runt = count_by (λ l. is_runt l.away) turned;
  oversize = count_by (λ l. is_oversize l.away) turned;
  no_buffers = count_by (λ l. is_no_buffers l.away) turned;
  no_clusters = count_by (λ l. is_no_clusters l.away) turned;
  too_many_segments = count_by (λ l. is_too_long l.fate) order;
  reset = count_by (λ l. is_reset l.fate) order;
  flush = count_by (λ l. is_flush l.fate) order;
}
