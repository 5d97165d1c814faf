use Rattle.std.proofs.Common.{◌<◌, length, subst, sym}
use Rattle.ifl_pcap.specs.Seen.{CaptureSeen}
use Rattle.ifl_pcap.proofs.Places.{slice_get-frames_in}
use Rattle.ifl_pcap.proofs.capture.Capture.frame.Goals as goal

pub returns : goal.returns
returns c =
    rw (← c.self.view_is)
    (slice_get-frames_in c.self.inside.form c.self.inside.bytes.items c.split_at.result.1.now c.split_at-2.result.1.now c.split_at-3.result.0.now c.self.inside.places.items c.args.i c.index-place.result.now c.stamp_of-stamp.result c.new.result
    (subst (λ (s : CaptureSeen). c.args.i < length s.frames) (sym c.self.view_is) c.requires) c.index-place.ensures (rw (← c.deref.ensures.value) c.split_at.ensures.back) c.split_at-2.ensures.back c.split_at-3.ensures.front c.stamp_of-stamp.ensures c.new.ensures)
