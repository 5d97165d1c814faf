use Rattle.std.proofs.Common.{◌≡◌, length, sym, ap, ◌∙◌, arith}
use Rattle.ifl_pcap.specs.declared.frame.Frame.{Frame}
use Rattle.ifl_gen.specs.States.{stepped, first_state}
use Rattle.ifl_gen.specs.Frames.{length_by, frame_of}
use Rattle.ifl_gen.proofs.States.{after_steps-more, frame_of-stepped}
use Rattle.ifl_gen.proofs.Bytes.{length-bytes_by}
use Rattle.ifl_gen.proofs.Files.{length-written-nil, length-written-more}
use Rattle.ifl_gen.proofs.file.file_len.Goals as goal

pub loop-index-init : goal.loop-index-init
loop-index-init c = record { state = c.first-x.ensures; bytes = sym length-written-nil; few = omega arith }

pub loop-index-preserved : goal.loop-index-preserved
loop-index-preserved c =
    let seed = c.args.traffic.seed in
    let x = c.loop-index.x in
    let i = c.loop-index._index in
    let made = frame_of-stepped seed c.args.sender i x c.loop-index.invariant.state in
    let long : length (frame_of seed c.args.sender i).bytes ≡ c.frame_len.result =
    ap (λ (f : Frame). length f.bytes) made ∙ length-bytes_by (stepped x) (length_by (stepped x)) ∙ ap length_by (sym c.next-x.ensures) ∙ sym c.frame_len.ensures.value in record {
      state = c.next-x.ensures ∙ after_steps-more i (first_state seed c.args.sender) x c.loop-index.invariant.state;
      bytes = omega (arith, c.loop-index.invariant.bytes, long, length-written-more (frame_of seed c.args.sender) i);
      few = omega (arith, c.loop-index.invariant.few, c.frame_len.ensures.short);
    }
