use Rattle.std.proofs.Common.{◌≡◌, suc, ◌+◌, ◌-◌, ◌<◌, ◌≤◌, length}
use Rattle.ifl_desc.specs.declared.history.Side.TheVariants.{Driver, Device}
use Rattle.ifl_desc.specs.History.{sent, known, looks}
use Rattle.ifl_desc.specs.Ends.{IsDriver}
use Rattle.ifl_desc.specs.Calls.{Learns}
use Rattle.ifl_legacy.proofs.ring.LegacyRingDescRing.credits.Given as goal

abbrev pub invariant-loop-more : goal.invariant-loop-more
invariant-loop-more l = record {
  ring : l.end.ring ≡ l.self;
  learns : Learns l.fn.end (l.all + l.more) l.end;
  looked : looks Driver l.fn.end.seen < looks Driver l.end.seen;
  few : looks Driver l.end.seen ≤ looks Driver l.fn.end.seen + suc l.all;
  none : l.more ≡ 0 → known Driver l.end.seen ≡ length (sent Device l.end.seen);
  lawful : IsDriver l.end;
  began : IsDriver l.fn.end;
  size : l.self.slots ≤ 32768;
}

abbrev pub decreases-loop-more : goal.decreases-loop-more
decreases-loop-more l = l.self.slots - l.all
