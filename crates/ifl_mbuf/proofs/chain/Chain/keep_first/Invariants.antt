use Rattle.std.proofs.Common.{◌≡◌, ◌+◌, ◌≤◌, ◌++◌, length}
use Rattle.ifl_mbuf.specs.Segment.{numbers_of}
use Rattle.ifl_mbuf.specs.Trim.{only_first}
use Rattle.ifl_mbuf.proofs.chain.Chain.keep_first.Given as goal

abbrev pub invariant-loop-left : goal.invariant-loop-left
invariant-loop-left l = record {
  first : only_first l.n l.fn.self ≡ l.kept ++ only_first l.left l.self;
  clusters : numbers_of l.kept ++ numbers_of l.self ≡ numbers_of l.fn.self;
  small : length l.kept + length l.self ≤ 64;
}

abbrev pub decreases-loop-left : goal.decreases-loop-left
decreases-loop-left l = length l.self
