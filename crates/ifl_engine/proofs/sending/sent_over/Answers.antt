use Rattle.std.proofs.Common.{◌≡◌, ◌-◌, ◌*◌, List, length, map, sym, ap, ◌∙◌, subst, arith}
use Rattle.std.specs.Prelude.{count_by, sum_by}
use Rattle.std.proofs.lemmas.List.{length-map}
use Rattle.ifl_pcap.specs.declared.capture.Capture.{Capture}
use Rattle.ifl_pcap.specs.declared.frame.Frame.{Frame}
use Rattle.ifl_txq.specs.declared.line.OrderLine.{OrderLine}
use Rattle.ifl_txq.specs.Done.{is_reset, is_wire}
use Rattle.ifl_line.specs.declared.away_line.AwayLine.{AwayLine}
use Rattle.ifl_line.specs.Causes.{AreOfLength}
use Rattle.ifl_line.specs.Good.{IsAdapterOf, IsLawful, IsPoolOf, emitted}
use Rattle.ifl_line.specs.Steps.{packets}
use Rattle.ifl_line.specs.Works.{files_of}
use Rattle.ifl_engine.specs.Counts.{is_flush, is_no_buffers, is_no_clusters, is_oversize, is_runt, is_too_long}
use Rattle.ifl_engine.specs.Loaded.{frames_of}
use Rattle.ifl_engine.proofs.Counts.{sum_by-map}
use Rattle.ifl_engine.proofs.Lines.{length-emitted, length-written}
use Rattle.ifl_engine.proofs.Totals.{few_each, files_of-frames}
use Rattle.ifl_engine.proofs.sending.sent_over.Goals as goal

pub send_captures-requires-clause-captures : goal.send_captures-requires-clause-captures
send_captures-requires-clause-captures g c κs within = let few = c.requires.few in let n = length-map c.args.captures.items frames_of in
    (omega arith, few_each _ c.args.captures.items c.requires.frames (omega arith))

pub overflow_sub-wire_bytes : goal.overflow_sub-wire_bytes
overflow_sub-wire_bytes g c = let bytes = ap length c.in_ok-sent.ensures.adapter.capture ∙ length-written (emitted (files_of c.args.captures.items) c.in_ok-sent.sent.order.items) in let len = c.len.ensures in let ok = c.in_ok-sent.sent.wire.ok in omega arith

pub overflow_sub-wire_bytes-2 : goal.overflow_sub-wire_bytes-2
overflow_sub-wire_bytes-2 g c = let bytes = ap length c.in_ok-sent.ensures.adapter.capture ∙ length-written (emitted (files_of c.args.captures.items) c.in_ok-sent.sent.order.items) in let len = c.len.ensures in let ok = c.in_ok-sent.sent.wire.ok in
    let many = length-emitted c.rules_of.result (files_of c.args.captures.items) c.in_ok-sent.sent.order.items (packets c.in_ok-sent.sent.ring.history) c.in_ok-sent.ensures.lawful.accepted in
    let wires = c.wires-wire.ensures ∙ ap (count_by (λ (l : OrderLine). is_wire l.fate)) c.deref-2.ensures.value in omega arith

pub returns : goal.returns
returns g c =
    let sent = c.in_ok-sent.sent in let same = files_of-frames c.args.captures.items in
    let order : List OrderLine = sent.order.items in let away : List AwayLine = sent.away.items in
    let bytes = ap length c.in_ok-sent.ensures.adapter.capture ∙ length-written (emitted (files_of c.args.captures.items) order) in let len = c.len.ensures in let ok = sent.wire.ok in
    let many = length-emitted c.rules_of.result (files_of c.args.captures.items) c.in_ok-sent.sent.order.items (packets c.in_ok-sent.sent.ring.history) c.in_ok-sent.ensures.lawful.accepted in
    let wires : c.wires-wire.result ≡ count_by (λ (l : OrderLine). is_wire l.fate) order = c.wires-wire.ensures ∙ ap (count_by (λ (l : OrderLine). is_wire l.fate)) c.deref-2.ensures.value in
    let total : c.len.result - 24 - 16 * c.wires-wire.result ≡ sum_by (λ (f : Frame). length f.bytes) (emitted (files_of c.args.captures.items) order) = omega arith in
    let frames : c.frame_count-frames.result ≡ sum_by (λ (fs : List Frame). length fs) (map frames_of c.args.captures.items) =
    c.frame_count-frames.ensures ∙ ap (sum_by (λ (x : Capture). length x.frames)) c.deref.ensures.value ∙ sym (sum_by-map length frames_of c.args.captures.items) in record {
      sizes = c.sizes_of.result;
      rules = c.rules_of.result;
      plan = c.plan_of.result;
      sizes_are = c.sizes_of.ensures;
      rules_are = c.rules_of.ensures;
      plan_is = c.plan_of.ensures;
      lawful = subst (λ (z : List (List Frame)). IsLawful c.sizes_of.result.ring c.rules_of.result z order away sent.ring.history) same c.in_ok-sent.ensures.lawful;
      ring_is = c.in_ok-sent.ensures.ring;
      adapter = subst (λ (z : List (List Frame)). IsAdapterOf c.sizes_of.result z order (packets sent.ring.history) (g.R.Closed.ClosedList.closed_sees sent.desc) sent.wire.items) same c.in_ok-sent.ensures.adapter;
      lengths = subst (λ (z : List (List Frame)). AreOfLength c.sizes_of.result.max_segs z order) same c.in_ok-sent.ensures.lengths;
      causes = c.in_ok-sent.ensures.causes c.plan_of.ensures.alone;
      pool_is = subst (λ (z : List (List Frame)). IsPoolOf c.sizes_of.result c.rules_of.result z away sent.ring.history sent.pool) same c.in_ok-sent.ensures.pool;
      counted = λ i. record {
        frames = frames i;
        wire = wires i;
        wire_bytes = (total ∙ ap (λ (z : List (List Frame)). sum_by (λ (f : Frame). length f.bytes) (emitted z order)) same) i;
        runt = (c.runts.ensures ∙ ap (count_by (λ (l : AwayLine). is_runt l.away)) c.deref-3.ensures.value) i;
        oversize = (c.oversizes.ensures ∙ ap (count_by (λ (l : AwayLine). is_oversize l.away)) c.deref-4.ensures.value) i;
        no_buffers = (c.no_buffers.ensures ∙ ap (count_by (λ (l : AwayLine). is_no_buffers l.away)) c.deref-5.ensures.value) i;
        no_clusters = (c.no_clusters.ensures ∙ ap (count_by (λ (l : AwayLine). is_no_clusters l.away)) c.deref-6.ensures.value) i;
        too_many_segments = (c.too_longs.ensures ∙ ap (count_by (λ (l : OrderLine). is_too_long l.fate)) c.deref-7.ensures.value) i;
        reset = (c.resets.ensures ∙ ap (count_by (λ (l : OrderLine). is_reset l.fate)) c.deref-8.ensures.value) i;
        flush = (c.flushes.ensures ∙ ap (count_by (λ (l : OrderLine). is_flush l.fate)) c.deref-9.ensures.value) i;
      };
    }
