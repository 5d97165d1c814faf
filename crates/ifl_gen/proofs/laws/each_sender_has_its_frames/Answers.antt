use Rattle.ifl_gen.proofs.Sizes.{frame_count-product}
use Rattle.ifl_gen.proofs.Records.{length-generated, All-length-generated, All-Fits-generated, All-IsFile-generated}
use Rattle.ifl_gen.proofs.laws.each_sender_has_its_frames.Goals as goal

pub returns-clause-senders : goal.returns-clause-senders
returns-clause-senders c = length-generated

pub returns-clause-frames : goal.returns-clause-frames
returns-clause-frames c = All-length-generated

pub returns-clause-count : goal.returns-clause-count
returns-clause-count c = frame_count-product

pub returns-clause-fit : goal.returns-clause-fit
returns-clause-fit c = All-Fits-generated

pub returns-clause-files : goal.returns-clause-files
returns-clause-files c = All-IsFile-generated
