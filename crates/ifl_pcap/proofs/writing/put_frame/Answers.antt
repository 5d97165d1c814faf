use Rattle.ifl_pcap.proofs.Written.{append-record_of}
use Rattle.ifl_pcap.proofs.writing.put_frame.Goals as goal

pub returns-clause-ok : goal.returns-clause-ok
returns-clause-ok c =
    rw (c.put.ensures.items, c.put_head.ensures.items, c.in_ok-reserve.ensures.items, c.stamp.ensures, c.bytes-bytes.ensures) (append-record_of c.args.out.now.items c.args.f.now)
