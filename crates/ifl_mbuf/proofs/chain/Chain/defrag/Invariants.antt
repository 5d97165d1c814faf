use Rattle.std.proofs.Common.{◌≡◌, ◌+◌, ◌<◌, ◌++◌, ◌∷◌, length}
use Rattle.ifl_mbuf.specs.Defrag.{IsFilling}
use Rattle.ifl_mbuf.specs.Segment.{bytes_of, numbers_of}
use Rattle.ifl_mbuf.proofs.chain.Chain.defrag.Given as goal

abbrev pub invariant-loop-next : goal.invariant-loop-next
invariant-loop-next l = record {
  filling : IsFilling l.filling.full l.filling.last;
  bytes : (bytes_of l.filling.full ++ l.filling.last.bytes) ++ bytes_of l.self ≡ bytes_of l.fn.self;
  clusters : (numbers_of l.filling.full ++ l.filling.last.number ∷ l.filling.spare) ++ numbers_of l.self ≡ numbers_of l.fn.self;
  short : length l.filling.full + length l.filling.spare + length l.self < 64;
}

abbrev pub decreases-loop-next : goal.decreases-loop-next
decreases-loop-next l = length l.self
