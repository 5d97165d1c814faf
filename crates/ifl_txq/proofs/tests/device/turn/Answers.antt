use Rattle.std.proofs.Common.{sym, ◌∙◌}
use Rattle.ifl_desc.specs.Ends.{DeviceSees}
use Rattle.ifl_desc.proofs.DeviceCounts.{ring-Fetches, fetched-Fetches, completed-Fetches, ready-Fetches}
use Rattle.ifl_txq.proofs.tests.device.turn.Goals as goal

pub loop-init : goal.loop-init
loop-init g c =
    let a : DeviceSees = g.R.DescRing.device_sees c.args.device.now in let b : DeviceSees = g.R.DescRing.device_sees c.fetch-more.new.end in
    let f = c.fetch-more.ensures.list in (
      ring-Fetches a c.fetch-more.result b f ∙ c.requires.ring,
      completed-Fetches a c.fetch-more.result b f ∙ c.requires.done ∙ sym (fetched-Fetches a c.fetch-more.result b f),
      λ w. ready-Fetches a c.fetch-more.result b f ∙ c.requires.whole w,
    )
