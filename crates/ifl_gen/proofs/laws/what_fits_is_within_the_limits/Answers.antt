use Rattle.ifl_gen.proofs.Limits.{frame_count-Fits, All-length-Fits, sum-sizes-Fits}
use Rattle.ifl_gen.proofs.laws.what_fits_is_within_the_limits.Goals as goal

pub returns-clause-frames : goal.returns-clause-frames
returns-clause-frames c = frame_count-Fits

pub returns-clause-file : goal.returns-clause-file
returns-clause-file c = All-length-Fits

pub returns-clause-all : goal.returns-clause-all
returns-clause-all c = sum-sizes-Fits
