use Rattle.ifl_pcap.proofs.Files.{file_or_fault, not_file_and_fault, one_list_of_frames, one_first_fault}
use Rattle.ifl_pcap.proofs.laws.bytes_are_a_file_or_have_one_first_fault.Goals as goal

pub returns-clause-either : goal.returns-clause-either
returns-clause-either c = file_or_fault

pub returns-clause-not_both : goal.returns-clause-not_both
returns-clause-not_both c = not_file_and_fault

pub returns-clause-one_list : goal.returns-clause-one_list
returns-clause-one_list c = one_list_of_frames

pub returns-clause-one_fault : goal.returns-clause-one_fault
returns-clause-one_fault c = one_first_fault
