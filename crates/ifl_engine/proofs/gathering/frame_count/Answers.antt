use Rattle.std.proofs.Common.{◌<◌, length, ap, arith}
use Rattle.std.proofs.lemmas.List.Sums.{sum_by_more}
use Rattle.ifl_pcap.specs.declared.capture.Capture.{Capture}
use Rattle.ifl_engine.proofs.Counts.{small_at}
use Rattle.ifl_engine.proofs.gathering.frame_count.Goals as goal

pub overflow_add-count : goal.overflow_add-count
overflow_add-count c =
    let i = c.loop-capture.capture-index in
    let lt : i < length c.args.captures.now = omega arith in
    let small = small_at c.args.captures.now i c.capture-item.result c.requires.1 lt c.capture-item.is in
    let few = small.few in
    omega (arith, few, c.len-count.ensures)

pub loop-capture-preserved : goal.loop-capture-preserved
loop-capture-preserved c =
    let i = c.loop-capture.capture-index in
    let x = c.capture-item.result in
    let lt : i < length c.args.captures.now = omega arith in
    let small = small_at c.args.captures.now i x c.requires.1 lt c.capture-item.is in
    let few = small.few in
    let more = sum_by_more (λ (y : Capture). length y.frames) c.args.captures.now i x lt in
    let same = ap (λ (y : Capture). length y.frames) c.capture-item.is in
    record { counted = omega (arith, more, same, c.loop-capture.invariant.counted, c.len-count.ensures); few = omega (arith, few, c.len-count.ensures) }
