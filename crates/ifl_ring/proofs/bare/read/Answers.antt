use Rattle.std.proofs.Common.{arith, refl}
use Rattle.ifl_ring.proofs.Rests.{small_word, word_within}
use Rattle.ifl_ring.proofs.bare.read.Goals as goal

pub unreachable-requires : goal.unreachable-requires
unreachable-requires c = let s = small_word c.args.size c.args.word (omega arith) (omega arith) c.requires.word in let n = c.in-None.ensures.none.0 refl in omega arith

pub returns-clause-within : goal.returns-clause-within
returns-clause-within c = let f = c.in-Some.ensures.fits in word_within c.args.size c.args.word c.in-Some.w (omega arith) (omega arith) f.0 f.1 f.2 c.in-Some.ensures.some c.requires.word
