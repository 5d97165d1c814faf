use Rattle.std.proofs.Common.{◌∙◌}
use Rattle.ifl_rxq.proofs.Finishing.{served}
use Rattle.ifl_rxq.proofs.run.serve.Goals as goal

pub returns : goal.returns
returns g c = let w = c.receive.ensures in let p = c.close-driver.ensures.pass in record {
  served = served c.args.rules c.args.list.ring c.args.list.pool c.args.input.now.frames c.receive.new.list c.receive.new.engine _ _ _ _ _ _ _ w.lawful.0 w.lawful.1 w.done w.same.0 (w.same.3 ∙ c.requires.ring) w.same.1 (w.same.2 ∙ c.requires.rules) w.received
      c.close-driver.ensures.driver c.close-device.ensures.device c.close-driver.ensures.own (p.0 ∙ w.pass.0) (p.1 ∙ w.pass.1) p.2 c.close-driver.ensures.host c.counters-delivered.ensures.0 c.counters-delivered.ensures.1;
}
