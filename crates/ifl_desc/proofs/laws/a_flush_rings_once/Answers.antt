use Rattle.ifl_desc.proofs.Looking.{bells_Flushes}
use Rattle.ifl_desc.proofs.laws.a_flush_rings_once.Goals as goal

pub returns : goal.returns
returns c = bells_Flushes
