use Rattle.std.proofs.Common.{◌≡◌, ◌++◌, take}
use Rattle.std.specs.List.{flat_map}
use Rattle.ifl_pcap.specs.File.{record_of, written_header}
use Rattle.ifl_pcap.proofs.writing.write_capture.Given as goal

abbrev pub invariant-loop-i : goal.invariant-loop-i
invariant-loop-i l = l.out.items ≡ written_header ++ flat_map record_of (take l.i l.c.frames)
