use Rattle.std.proofs.Common.{◌∙◌, inr}
use Rattle.ifl_device.specs.declared.plan.Turn.TheVariants as turn
use Rattle.ifl_reset.proofs.Serving.{hangs, reset_after}
use Rattle.ifl_reset.proofs.Origins.{turned_origin, resets_origin, empties_origin}
use Rattle.ifl_reset.proofs.turns.turn_or_reset.Goals as goal

pub abort_all-requires-clause-planned : goal.abort_all-requires-clause-planned
abort_all-requires-clause-planned g c _ _ = inr (hangs c.args.frames c.in-Hung.emitted c.args.engine.now c.turn.new.self c.in-Hung.ensures.did)

pub returns-in-Hung-clause-did : goal.returns-in-Hung-clause-did
returns-in-Hung-clause-did g c = reset_after c.args.frames c.in-Hung.emitted c.abort_all.result c.args.engine.now c.turn.new.self c.abort_all.new.self c.in-Hung.ensures.did c.abort_all.ensures.did c.abort_all.ensures.few c.abort_all.ensures.lawful

pub returns-in-Hung-clause-origin : goal.returns-in-Hung-clause-origin
returns-in-Hung-clause-origin g c = let d = c.abort_all.ensures.did in empties_origin _ c.abort_all.result d.0 c.abort_all.new.self d.2 ∙ resets_origin c.turn.new.self d.0 d.1 ∙ turned_origin c.args.engine.now c.args.frames (turn.Hung c.in-Hung.emitted) c.turn.new.self c.in-Hung.ensures.did
