use Rattle.std.proofs.Common.{rules, sym, ap, arith, subst, ◌+◌, ◌<◌}
use Rattle.std.specs.Prelude.{IsTrue}
use Rattle.ifl_pool.specs.declared.word.View.{View}
use Rattle.ifl_pool.specs.Passes.{is_one_of}
use Rattle.ifl_pool.proofs.Knowing.{named_after_join}
use Rattle.ifl_pool.proofs.WordSteps.{joins, looks}
use Rattle.ifl_pool.proofs.word.Word.join.Goals as goal

pub join_seat-requires : goal.join_seat-requires
join_seat-requires c = (search rules, search rules, c.requires.slots, (let one = c.self.invariant.0 in omega arith), joins _ _ _ _ _ c.requires.pass.alive)

pub load-requires : goal.load-requires
load-requires c = let joined = ap (λ z. z.0) c.join_seat.ensures.2 in let pass = c.requires.pass in let alive = pass.alive in (
  search rules,
  (let one = c.self.invariant.0 in omega arith),
  looks _ _ _
      (subst (λ (z : View). 0 < z.known.part) (sym joined) (let some_part : 0 < c.args.seat.now.me.0.known.part + c.args.other.me.0.known.part = omega arith in some_part))
      (subst (λ (z : View). IsTrue (is_one_of z.known.numbers z.known.number)) (sym joined) (named_after_join c.args.seat.now.me.0.known.numbers c.args.other.me.0.known.numbers c.args.seat.now.me.0.known.number pass.named)) _,
)
