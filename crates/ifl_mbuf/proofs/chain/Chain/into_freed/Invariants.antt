use Rattle.std.proofs.Common.{◌≡◌, ◌+◌, ◌≤◌, ◌++◌, length, reverse}
use Rattle.ifl_mbuf.specs.Segment.{numbers_of}
use Rattle.ifl_mbuf.proofs.chain.Chain.into_freed.Given as goal

abbrev pub invariant-loop-seg : goal.invariant-loop-seg
invariant-loop-seg l = record {
  clusters : reverse (numbers_of l.fn.self) ≡ reverse (numbers_of l.self) ++ l.freed;
  small : length l.freed + length l.self ≤ 64;
}

abbrev pub decreases-loop-seg : goal.decreases-loop-seg
decreases-loop-seg l = length l.self
