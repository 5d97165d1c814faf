use Rattle.std.proofs.Common.{rules, arith}
use Rattle.ifl_pool.proofs.WordSteps.{finds, takes}
use Rattle.ifl_pool.proofs.word.Word.take_one.Goals as goal

pub load-found-requires : goal.load-found-requires
load-found-requires g c = (search rules, (let one = c.self.invariant.0 in omega arith), finds _ _ _ c.requires.pass.alive c.requires.pass.named _)

pub compare_exchange-seen-requires : goal.compare_exchange-seen-requires
compare_exchange-seen-requires g c = let pass = c.loop.invariant.1 in
    (search rules, (let one = c.self.invariant.0 in omega arith), takes _ _ _ pass.alive pass.named _ _ (omega arith))
