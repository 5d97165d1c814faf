use Rattle.ifl_gen.proofs.Bytes.{byte_by-repeats}
use Rattle.ifl_gen.proofs.laws.bytes_repeat.Goals as goal

pub returns : goal.returns
returns c = byte_by-repeats
