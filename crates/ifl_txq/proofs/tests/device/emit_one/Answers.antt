use Rattle.std.proofs.Common.{Some, ◌∙◌, arith}
use Rattle.ifl_desc.specs.Ends.{DeviceSees}
use Rattle.ifl_desc.proofs.DeviceCounts.{completed-TakesNext, fetched-TakesNext, completed-Completes, ready-Completes}
use Rattle.ifl_txq.proofs.tests.device.emit_one.Goals as goal

pub returns-clause-done : goal.returns-clause-done
returns-clause-done g c =
    let a : DeviceSees = g.R.DescRing.device_sees c.args.device.now in let b : DeviceSees = g.R.DescRing.device_sees c.next.new.end in let e : DeviceSees = g.R.DescRing.device_sees c.complete.new.end in
    let taken = completed-TakesNext a (Some c.in-Some.d) b c.in-Some.ensures.list in
    let fetched = fetched-TakesNext a c.in-Some.d b c.in-Some.ensures.list in
    let done = completed-Completes b c.emitted.result e c.complete.ensures.list in
    omega (arith, c.requires.done, taken.0, fetched, done.0, done.1)

pub returns-clause-whole : goal.returns-clause-whole
returns-clause-whole g c last = ready-Completes (g.R.DescRing.device_sees c.next.new.end) c.emitted.result (g.R.DescRing.device_sees c.complete.new.end) c.complete.ensures.list (c.emitted.ensures.0 ∙ last)
