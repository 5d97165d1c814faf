use Rattle.std.proofs.Common.{ap, sym, subst, ◌∙◌}
use Rattle.ifl_pool.specs.History.{stock_of}
use Rattle.ifl_pool.specs.Pools.{IsLastCount}
use Rattle.ifl_pool.specs.Word.{WordId}
use Rattle.ifl_pool.proofs.Knowing.{last_count}
use Rattle.ifl_pool.proofs.WordSteps.{last_word}
use Rattle.ifl_pool.proofs.word.Word.close.Goals as goal

pub returns : goal.returns
returns c = let pass = c.requires.pass in let whole = c.requires.whole in
    let word = last_word _ _ _ _ _ _ whole (pass.whole whole) c.close_with-words.ensures.values.2 c.word-count.ensures in
    let size = c.self.invariant.2 ∙ ap (λ (z : WordId). z.size) c.self.view_is ∙ sym c.requires.own.1 in
    subst (λ n. IsLastCount n c.args.seat.me.0.known c.word-count.result) c.requires.own.1 (last_count _ _ _ pass whole (word ∙ ap (λ n. stock_of n c.args.seat.me.0.known.counts) size))
