use Rattle.std.proofs.Common.{◌≡◌, ◌+◌, ◌<◌, length}
use Rattle.ifl_mbuf.specs.Collapse.{packed, collapsed}
use Rattle.ifl_mbuf.proofs.Collapsed.{between}
use Rattle.ifl_mbuf.proofs.chain.Chain.collapse.Given as goal

abbrev pub invariant-loop-surplus : goal.invariant-loop-surplus
invariant-loop-surplus l = record {
  exact : collapsed l.fn.max l.fn.self ≡ between l.done l.freed (packed l.surplus l.cursor l.self);
  short : length l.done + length l.freed + length l.self < 64;
  some : 0 < length l.cursor.bytes;
}

abbrev pub decreases-loop-surplus : goal.decreases-loop-surplus
decreases-loop-surplus l = length l.self
