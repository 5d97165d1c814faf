use Rattle.std.proofs.Common.{◌≡◌, map}
use Rattle.std.specs.List.{range_with_len}
use Rattle.ifl_pcap.specs.File.{written}
use Rattle.ifl_gen.specs.States.{after_steps, first_state}
use Rattle.ifl_gen.specs.Frames.{frame_of}
use Rattle.ifl_gen.proofs.file.file_of.Given as goal

abbrev pub invariant-loop-index : goal.invariant-loop-index
invariant-loop-index l = record {
  state : l.x ≡ after_steps l.index (first_state l.fn.traffic.seed l.sender);
  bytes : l.out.items ≡ written (map (frame_of l.fn.traffic.seed l.sender) (range_with_len 0 l.index));
}
