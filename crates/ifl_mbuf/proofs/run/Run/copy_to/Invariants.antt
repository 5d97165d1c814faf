use Rattle.std.proofs.Common.{◌≡◌, ◌+◌, ◌-◌, ◌≤◌, ◌++◌, length, map}
use Rattle.std.specs.Prelude.{take, drop}
use Rattle.ifl_mbuf.specs.Layout.{segment_of}
use Rattle.ifl_mbuf.specs.Nodes.{bodies, place_of}
use Rattle.ifl_mbuf.specs.Segment.{bytes_of}
use Rattle.ifl_mbuf.proofs.Copies.{rest_of}
use Rattle.ifl_mbuf.proofs.run.Run.copy_to.Given as goal

abbrev pub invariant-loop-done : goal.invariant-loop-done
invariant-loop-done l = let rest = rest_of (bodies l.self.nodes) l.i in record {
  there : l.place.ptr ≡ place_of l.self.first.ptr l.self.nodes l.i;
  within : l.done ≤ length l.out;
  enough : length l.out - l.done + l.skip ≤ length rest;
  copied : take l.done l.out ++ take (length l.out - l.done) (drop l.skip rest) ≡ take (length l.out) (drop l.at (bytes_of (map segment_of (bodies l.self.nodes))));
}

abbrev pub decreases-loop-done : goal.decreases-loop-done
decreases-loop-done l = length l.self.nodes - l.i
