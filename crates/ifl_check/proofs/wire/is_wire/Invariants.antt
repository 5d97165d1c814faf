use Rattle.std.proofs.Common.{◌≡◌, ◌++◌, take}
use Rattle.std.specs.List.{flat_map}
use Rattle.ifl_pcap.specs.File.{record_of, written_header}
use Rattle.ifl_check.specs.Files.{each_frames}
use Rattle.ifl_check.specs.OnWire.{on_wire}
use Rattle.ifl_check.proofs.wire.is_wire.Given as goal

abbrev pub invariant-loop-line : goal.invariant-loop-line
invariant-loop-line l = l.wire ≡ written_header ++ (flat_map (λ x. flat_map record_of (on_wire (each_frames l.captures) x)) (take l.line-index l.lines) ++ l.rest)
