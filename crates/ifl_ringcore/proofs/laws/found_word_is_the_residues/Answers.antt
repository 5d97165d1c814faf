use Rattle.ifl_base.specs.Word.{pack}
use Rattle.ifl_ringcore.proofs.laws.found_word_is_the_residues.Goals as goal

pub returns : goal.returns
unfolding pack
returns c = λ size st e legal. legal.0
