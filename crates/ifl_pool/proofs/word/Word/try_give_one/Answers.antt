use Rattle.std.proofs.Common.{rules, arith}
use Rattle.ifl_pool.proofs.WordSteps.{looks, gives}
use Rattle.ifl_pool.proofs.word.Word.try_give_one.Goals as goal

pub load-found-requires : goal.load-found-requires
load-found-requires c = (search rules, (let one = c.self.invariant.0 in omega arith), looks _ _ _ c.requires.pass.alive c.requires.pass.named _)

pub compare_exchange-seen-requires : goal.compare_exchange-seen-requires
compare_exchange-seen-requires c = let pass = c.load-found.ensures.2.0.pass in
    (search rules, (let one = c.self.invariant.0 in omega arith), gives _ _ _ pass.alive pass.named _ _ (let key = c.self.invariant.2 in omega arith))
