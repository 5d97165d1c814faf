use Rattle.std.proofs.Common.{subst}
use Rattle.ifl_mbuf.specs.Segment.{IsChain}
use Rattle.ifl_mbuf.proofs.Segments.{IsChain-map}
use Rattle.ifl_mbuf.proofs.chain.Chain.segments.Goals as goal

pub returns-clause-kept : goal.returns-clause-kept
returns-clause-kept c = subst IsChain c.self.view_is (IsChain-map c.self.inside.nodes c.self.inside.len c.self.invariant)
