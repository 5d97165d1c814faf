use Rattle.ifl_device.proofs.Stopped.{turned_stopped}
use Rattle.ifl_device.proofs.laws.nothing_is_emitted_after_flush.Goals as goal

pub returns : goal.returns
returns c = λ a b n t s x. turned_stopped a b n t s x
