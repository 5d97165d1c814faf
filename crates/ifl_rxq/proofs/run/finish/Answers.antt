use Rattle.std.proofs.Common.{refl, arith}
use Rattle.ifl_rxq.proofs.Finishing.{received}
use Rattle.ifl_rxq.proofs.run.finish.Goals as goal

pub returns : goal.returns
returns g c = record {
  received = received c.args.sizes c.args.rules _ c.args.pool c.args.input.now.frames _ _ _ _ _ _ _ c.requires.sizes.0 c.requires.sizes.1 c.requires.served _ c.len.ensures refl (let l = c.len-2.ensures in let ok = c.args.remains.missed.ok in omega arith) refl
      _ c.close.ensures.list c.close.ensures.lawful c.close-2.result c.close-2.ensures.size c.close-2.ensures.lawful c.close-2.ensures.count;
}
