use Rattle.ifl_pcap.proofs.Written.{IsFile-written}
use Rattle.ifl_pcap.proofs.laws.written_is_a_file.Goals as goal

pub returns : goal.returns
returns c = IsFile-written
