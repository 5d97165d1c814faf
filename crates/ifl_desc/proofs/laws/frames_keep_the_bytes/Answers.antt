use Rattle.ifl_desc.proofs.Splitting.{frames_bytes}
use Rattle.ifl_desc.proofs.laws.frames_keep_the_bytes.Goals as goal

pub returns : goal.returns
returns c = λ ds o. frames_bytes ds o
