use Rattle.std.proofs.Common.{◌≡◌, ◌≤◌, map, vec_len, vec_capacity}
use Rattle.std.specs.List.{range_with_len}
use Rattle.ifl_gen.specs.Frames.{captured}
use Rattle.ifl_gen.proofs.generating.generate.Given as goal

abbrev pub invariant-loop-sender : goal.invariant-loop-sender
invariant-loop-sender l = record {
  frames : map (λ c. c.frames) l.captures.items ≡ map (captured l.traffic) (range_with_len 0 l.sender);
  len : vec_len l.captures ≡ l.sender;
  room : l.traffic.senders ≤ vec_capacity l.captures;
}
