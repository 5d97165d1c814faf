use Rattle.std.proofs.Common.{map}
use Rattle.ifl_device.specs.Adapter.{returned_as}
use Rattle.ifl_device.proofs.Voiding.{voids_not, voids_on}
use Rattle.ifl_device.proofs.engine.TxEngine.return_all.Goals as goal

pub loop-returned-init : goal.loop-returned-init
loop-returned-init g c = voids_not c.args.status c.args.self.now c.look.new.self c.requires.may c.look.ensures.looked c.look.ensures.returned c.look.ensures.told c.look.ensures.lawful c.look.ensures.kept c.look.ensures.held

pub loop-returned-preserved : goal.loop-returned-preserved
loop-returned-preserved g c = let h = c.if-not-hold_frame.ensures.held in
    voids_on c.args.status c.args.self.now c.loop-returned.self c.hold_frame.new.self c.void.new.self c.loop-returned.returned c.loop-returned.invariant (h.0 c.args.status) h.1 c.hold_frame.ensures.kept
    (map (returned_as c.args.status) c.hold_frame.new.self.held, c.void.ensures.sent) c.void.ensures.looked.0 c.void.ensures.looked.1 c.void.ensures.none c.void.ensures.lawful c.void.ensures.more c.void.ensures.may
