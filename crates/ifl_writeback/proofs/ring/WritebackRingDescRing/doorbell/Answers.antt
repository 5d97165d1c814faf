use Rattle.std.proofs.Common.{◌≡◌, ◌%◌, ◌∙◌, ap, sym}
use Rattle.ifl_desc.specs.declared.rack.Rack.{Rack}
use Rattle.ifl_desc.specs.Ends.{DeviceSees, rung}
use Rattle.ifl_desc.specs.Sides.{DeviceOk}
use Rattle.ifl_desc.proofs.DeviceCalls.{known_word}
use Rattle.ifl_writeback.proofs.ring.WritebackRingDescRing.doorbell.Goals as goal

pub returns-clause-number : goal.returns-clause-number
returns-clause-number c = let h : Rack = c.end.inside.rack in let k : DeviceOk h = c.end.invariant in
    let t = ap (λ (x : DeviceSees). x.ring) c.end.view_is ∙ c.requires in
    let size : h.size ≡ c.args.self.now.slots = sym k.rack.size ∙ ap (λ x. x.slots) t in
    known_word h k ∙ (λ i. rung (c.end.view_is i) % size i)
