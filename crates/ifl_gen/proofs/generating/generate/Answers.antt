use Rattle.std.proofs.Common.{◌≡◌, List, [], ◌∷◌, ◌++◌, map, sym, ap, ◌∙◌, arith}
use Rattle.std.specs.List.{range_with_len}
use Rattle.std.proofs.lemmas.List.{map_push}
use Rattle.std.proofs.lemmas.List.FromFn.{map-range_with_len_more}
use Rattle.ifl_pcap.specs.declared.frame.Frame.{Frame}
use Rattle.ifl_pcap.specs.declared.capture.Capture.{Capture}
use Rattle.ifl_gen.specs.Frames.{captured, generated}
use Rattle.ifl_gen.proofs.generating.generate.Goals as goal

abbrev frames_of : Capture → List Frame
frames_of c = c.frames

pub loop-sender-preserved : goal.loop-sender-preserved
loop-sender-preserved c =
    let s = c.loop-sender.sender in
    let make = captured c.args.traffic in
    let made : List (List Frame) = map make (range_with_len 0 s) in record {
      frames = ap (map frames_of) c.push_reserved.ensures.items ∙ map_push frames_of c.loop-sender.captures.items c.in_ok-capture.capture
          ∙ ap (λ (fs : List (List Frame)). fs ++ frames_of c.in_ok-capture.capture ∷ []) c.loop-sender.invariant.frames
          ∙ ap (λ (f : List Frame). made ++ f ∷ []) c.in_ok-capture.ensures
          ∙ sym (map-range_with_len_more make 0 s s (omega arith));
      len = omega (arith, c.push_reserved.ensures.len, c.loop-sender.invariant.len);
      room = omega (arith, c.push_reserved.ensures.capacity, c.loop-sender.invariant.room);
    }

pub returns : goal.returns
unfolding generated
returns c =
    let all : c.loop-sender.sender ≡ c.args.traffic.senders = omega arith in
    c.loop-sender.invariant.frames ∙ ap (λ (n : _). map (captured c.args.traffic) (range_with_len 0 n)) all
