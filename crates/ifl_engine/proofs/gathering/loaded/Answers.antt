use Rattle.std.proofs.Common.{ℕ, ◌∙◌, ap, length, arith}
use Rattle.std.specs.Prelude.{sum_by}
use Rattle.std.specs.Global.{Vec}
use Rattle.ifl_pcap.specs.declared.capture.Capture.{Capture}
use Rattle.ifl_engine.specs.Loaded.{bytes_of, bytes_seen, chosen, frames_of, each_frames}
use Rattle.ifl_engine.proofs.Counts.{sum_by-map}
use Rattle.ifl_engine.proofs.Loading.{load_in-ok}
use Rattle.ifl_engine.proofs.gathering.loaded.Goals as goal

pub returns-clause-read : goal.returns-clause-read
returns-clause-read c =
    load_in-ok (bytes_seen c.args.files) (chosen c.in_ok-settings.settings) (each_frames c.in_ok-captures.captures)
    (omega (arith, c.byte_count.ensures ∙ ap (sum_by (λ (v : Vec ℕ). length v.items)) c.deref.ensures.value, sum_by-map length bytes_of c.args.files.captures.items)) c.in_ok-settings.ensures.read c.in_ok-captures.ensures.read
    (omega (arith, c.frame_count.ensures ∙ ap (sum_by (λ (x : Capture). length x.frames)) c.deref-2.ensures.value, sum_by-map length frames_of c.in_ok-captures.captures.items))
