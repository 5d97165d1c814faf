use Rattle.ifl_desc.proofs.Splitting.{frames_more}
use Rattle.ifl_desc.proofs.laws.one_frame_more_is_one_more.Goals as goal

pub returns : goal.returns
returns c = λ ds frame o w. frames_more ds frame o w
