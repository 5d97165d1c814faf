use Rattle.std.proofs.Common.{◌≡◌, List, ◌++◌, map, sym, ap, ◌∙◌}
use Rattle.std.specs.List.{range_with_len}
use Rattle.ifl_pcap.specs.declared.frame.Frame.{Frame}
use Rattle.ifl_pcap.specs.File.{record_of, written}
use Rattle.ifl_gen.specs.States.{first_state}
use Rattle.ifl_gen.specs.Frames.{frame_by, frame_of}
use Rattle.ifl_gen.proofs.States.{after_steps-more, frame_of-stepped}
use Rattle.ifl_gen.proofs.Files.{written-more}
use Rattle.ifl_gen.proofs.file.file_of.Goals as goal

pub loop-index-preserved : goal.loop-index-preserved
loop-index-preserved c =
    let seed = c.args.traffic.seed in
    let sender = c.args.sender in
    let i = c.loop-index.index in
    let make = frame_of seed sender in
    let made : frame_by sender i c.next-x.result ≡ make i = ap (frame_by sender i) c.next-x.ensures ∙ sym (frame_of-stepped seed sender i c.loop-index.x c.loop-index.invariant.state) in record {
      state = c.next-x.ensures ∙ after_steps-more i (first_state seed sender) c.loop-index.x c.loop-index.invariant.state;
      bytes = c.in_ok-put_record.ensures ∙ ap (λ (o : List _). o ++ record_of (frame_by sender i c.next-x.result)) c.loop-index.invariant.bytes
          ∙ ap (λ (f : Frame). written (map make (range_with_len 0 i)) ++ record_of f) made
          ∙ sym (written-more make i);
    }
