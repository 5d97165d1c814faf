use Rattle.std.proofs.Common.{◌≡◌, ◌+◌, ◌≤◌, ◌++◌, length}
use Rattle.ifl_mbuf.specs.Segment.{numbers_of}
use Rattle.ifl_mbuf.specs.Trim.{without_first}
use Rattle.ifl_mbuf.proofs.chain.Chain.adjust_front.Given as goal

abbrev pub invariant-loop-seg : goal.invariant-loop-seg
invariant-loop-seg l = record {
  kept : without_first l.n l.fn.self ≡ without_first l.left l.self;
  clusters : l.freed ++ numbers_of l.self ≡ numbers_of l.fn.self;
  small : length l.freed + length l.self ≤ 64;
}

abbrev pub decreases-loop-seg : goal.decreases-loop-seg
decreases-loop-seg l = length l.self
