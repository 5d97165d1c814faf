use Rattle.ifl_pcap.proofs.Files.{IsShort-IsFile}
use Rattle.ifl_pcap.proofs.tests.rewritten.Goals as goal

pub write_capture-requires : goal.write_capture-requires
write_capture-requires c = IsShort-IsFile _ c.in_ok-capture.capture.frames c.in_ok-capture.ensures.found
