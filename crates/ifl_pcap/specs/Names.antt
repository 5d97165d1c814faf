-- The names and the numbers of what can be wrong with a capture's bytes.
use Rattle.std.specs.Prelude.{ℕ, List, codes}
use Rattle.ifl_pcap.specs.declared.fault.CaptureWhy.{CaptureWhy}
use Rattle.ifl_pcap.specs.declared.fault.CaptureWhy.TheVariants.{Short, Magic, Version, Link, RecordShort, TooLong}

abbrev pub why_name : CaptureWhy → List ℕ
why_name Short = codes "Short"
why_name Magic = codes "Magic"
why_name Version = codes "Version"
why_name Link = codes "Link"
why_name RecordShort = codes "RecordShort"
why_name TooLong = codes "TooLong"

abbrev pub why_number : CaptureWhy → ℕ
why_number Short = 1
why_number Magic = 2
why_number Version = 3
why_number Link = 4
why_number RecordShort = 5
why_number TooLong = 6
