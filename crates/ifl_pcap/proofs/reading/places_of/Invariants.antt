use Rattle.std.proofs.Common.{◌≡◌, ◌+◌, length, drop}
use Rattle.std.specs.Prelude.{All}
use Rattle.ifl_pcap.specs.Reading.{frames_at}
use Rattle.ifl_pcap.specs.Table.{frames_in, LiesIn}
use Rattle.ifl_pcap.proofs.Loop.{IsSoFar}
use Rattle.ifl_pcap.proofs.reading.places_of.Given as goal

abbrev pub invariant-loop-rest : goal.invariant-loop-rest
invariant-loop-rest l = record {
  so_far : IsSoFar l.form l.at (frames_in l.form l.file l.places.items) l.rest (frames_at l.form (length (drop 24 l.file)) 24 (drop 24 l.file));
  there : All (LiesIn l.file) l.places.items;
  is : l.rest ≡ drop l.at l.file;
  place : l.at + length l.rest ≡ length l.file;
}

abbrev pub decreases-loop-rest : goal.decreases-loop-rest
decreases-loop-rest l = length l.rest
