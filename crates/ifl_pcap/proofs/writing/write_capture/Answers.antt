use Rattle.std.proofs.Common.{sym, arith}
use Rattle.std.proofs.lemmas.Option.{get_or_from_slice_get}
use Rattle.ifl_pcap.specs.File.{record_of, written_header}
use Rattle.ifl_pcap.proofs.Written.{flat_map-take_more}
use Rattle.ifl_pcap.proofs.writing.write_capture.Goals as goal

pub loop-i-preserved : goal.loop-i-preserved
loop-i-preserved c =
    let is = sym (get_or_from_slice_get c.args.c.now.frames c.loop-i.i c.frame-f.result c.frame-f.result c.frame-f.ensures) in
    flat_map-take_more record_of written_header c.args.c.now.frames c.loop-i.i c.frame-f.result c.loop-i.out.items c.put_frame.new.out.items (omega arith) is c.loop-i.invariant c.in_ok-put_frame.ensures.ok
