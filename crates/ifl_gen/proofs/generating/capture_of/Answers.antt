use Rattle.std.proofs.Common.{List, Ok, sym, subst, arith}
use Rattle.ifl_pcap.specs.declared.frame.Frame.{Frame}
use Rattle.ifl_pcap.specs.declared.fault.CaptureFault.{CaptureFault}
use Rattle.ifl_pcap.specs.File.{IsFile}
use Rattle.ifl_pcap.specs.Reading.{Fails}
use Rattle.ifl_pcap.proofs.Records.{ok_is, ok_or_bad}
use Rattle.ifl_gen.specs.Frames.{captured}
use Rattle.ifl_gen.proofs.Records.{IsFile-captured}
use Rattle.ifl_gen.proofs.generating.capture_of.Goals as goal

pub unreachable-requires : goal.unreachable-requires
unreachable-requires c =
    let frames = captured c.args.traffic c.args.sender in
    let file = subst (λ (bytes : List _). IsFile bytes frames) (sym c.in_ok-bytes.ensures) (IsFile-captured c.args.traffic c.args.sender (omega arith) (omega arith)) in
    let read = subst (λ (e : CaptureFault). Fails {Y = List Frame} e (Ok frames)) c.in-Err-Bad.field-0-is (c.in-Err-Bad.ensures.only frames file) in
    ok_or_bad frames c.in-Err-Bad.field-0-0 c.in-Err-Bad.field-0-1 (sym read)

pub returns-in-Ok : goal.returns-in-Ok
returns-in-Ok c =
    let frames = captured c.args.traffic c.args.sender in
    let file = subst (λ (bytes : List _). IsFile bytes frames) (sym c.in_ok-bytes.ensures) (IsFile-captured c.args.traffic c.args.sender (omega arith) (omega arith)) in
    sym (ok_is frames c.in-Ok.capture.frames (c.in-Ok.ensures.only frames file))
