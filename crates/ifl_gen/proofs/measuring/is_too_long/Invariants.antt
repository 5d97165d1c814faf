use Rattle.std.proofs.Common.{◌≡◌, ◌≤◌, ◌+◌, ◌*◌, map, sum, nat_lt}
use Rattle.std.specs.List.{range_with_len, list_any}
use Rattle.ifl_gen.proofs.Sizes.{size}
use Rattle.ifl_gen.proofs.measuring.is_too_long.Given as goal

abbrev pub invariant-loop-sender : goal.invariant-loop-sender
invariant-loop-sender l = record {
  over : l.over ≡ list_any (nat_lt 67108864) (map (size l.traffic) (range_with_len 0 l.sender));
  all : l.all ≡ sum (map (size l.traffic) (range_with_len 0 l.sender));
  few : l.all ≤ 24 * l.sender + 1530 * (l.sender * l.traffic.frames);
}
