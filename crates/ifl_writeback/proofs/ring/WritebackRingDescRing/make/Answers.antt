use Rattle.std.proofs.Common.{arith}
use Rattle.ifl_writeback.proofs.WordSteps.{opens, tie_same}
use Rattle.ifl_writeback.proofs.ring.WritebackRingDescRing.make.Goals as goal

pub vacant-requires : goal.vacant-requires
vacant-requires c = opens _ (omega arith)

pub new_ends-driver-requires-clause-stays : goal.new_ends-driver-requires-clause-stays
new_ends-driver-requires-clause-stays c = tie_same _
