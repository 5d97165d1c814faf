use Rattle.std.proofs.Common.{length}
use Rattle.ifl_mbuf.proofs.nodes.NodeList.drop.Given as goal

abbrev pub decreases-loop-node : goal.decreases-loop-node
decreases-loop-node l = length l.self
