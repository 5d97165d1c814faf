use Rattle.ifl_pcap.proofs.Files.{Fits-IsFile, IsShort-IsFile, length-IsFile}
use Rattle.ifl_pcap.proofs.laws.frames_of_a_file_fit.Goals as goal

pub returns-clause-fit : goal.returns-clause-fit
returns-clause-fit c = Fits-IsFile

pub returns-clause-few : goal.returns-clause-few
returns-clause-few c = length-IsFile

pub returns-clause-short : goal.returns-clause-short
returns-clause-short c = IsShort-IsFile
