use Rattle.std.proofs.Common.{rules, ◌≤◌, ap, sym, subst, arith}
use Rattle.ifl_pool.specs.declared.word.View.{View}
use Rattle.ifl_pool.proofs.WordSteps.{spares, splits}
use Rattle.ifl_pool.proofs.word.Word.split.Goals as goal

pub load-requires : goal.load-requires
load-requires c = (search rules, (let one = c.self.invariant.0 in omega arith), spares _ _ _ _ (let two = c.requires.part in omega arith))

pub split_seat-requires : goal.split_seat-requires
split_seat-requires c = (search rules, (let one = c.self.invariant.0 in omega arith), splits _ _ _ (subst (λ (z : View). 2 ≤ z.known.part) (sym (ap (λ z. z.0) c.load.ensures.2.0)) c.requires.part))
