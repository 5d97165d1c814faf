use Rattle.std.proofs.Common.{◌∙◌, sym, subst, inr, List, ◌∷◌}
use Rattle.ifl_desc.specs.declared.desc.Desc.{Desc}
use Rattle.ifl_desc.specs.declared.desc.Status.{Status}
use Rattle.ifl_desc.specs.Ends.{DeviceSees}
use Rattle.ifl_device.proofs.Returning.{Giving, popped, completed_one}
use Rattle.ifl_device.proofs.frames.give_back.Goals as goal

pub loop-d-preserved : goal.loop-d-preserved
loop-d-preserved g c =
    let a : DeviceSees = g.R.DescRing.device_sees c.args.device.now in let b : DeviceSees = g.R.DescRing.device_sees c.loop-d.device in let e : DeviceSees = g.R.DescRing.device_sees c.complete.new.end in
    let frame : List Desc = c.args.frame.now.items in let i = c.loop-d.invariant in let s : Status = c.args.status in
    let p = popped c.pop.new.self.items c.in-Some.d i.0.0 (sym c.in-Some.ensures.items ∙ i.0.1) in
    let one : Giving s a b frame (c.in-Some.d ∷ p.0) = subst (Giving s a b frame) p.1 i.0.2 in (
      (p.0, p.2, completed_one s a b e frame c.in-Some.d p.0 one c.requires.ready _ c.complete.ensures.list),
      c.pop.ensures.capacity ∙ i.1,
      inr c.complete.ensures.lawful,
    )
