use Rattle.std.proofs.Common.{◌≡◌, length, take}
use Rattle.std.specs.List.{flat_map}
use Rattle.ifl_pcap.specs.File.{record_of}
use Rattle.ifl_rxq.proofs.run.records_len.Given as goal

abbrev pub invariant-loop-index : goal.invariant-loop-index
invariant-loop-index l = l.len ≡ length (flat_map record_of (take l.index l.input.frames))
