use Rattle.std.proofs.Common.{ap, ◌∙◌, drop, drop-drop}
use Rattle.ifl_ring.proofs.tests.sending.RecorderDrainer.drain.Goals as goal

pub loop-preserved : goal.loop-preserved
loop-preserved g c = (c.record_first.ensures.items ∙ ap (drop 1) c.loop.invariant.0 ∙ drop-drop 1 c.loop.counter c.args.batch.now.items, c.record_first.ensures.room ∙ c.loop.invariant.1)
