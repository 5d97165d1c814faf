use Rattle.std.proofs.Common.{◌≡◌, None, Some, map, string_bytes, ◌++◌, ◌∷◌, [], arith}
use Rattle.std.proofs.lemmas.Grind.{common_steps}
use Rattle.ifl_conf.specs.Front.{one_word, two_words, front}
use Rattle.ifl_conf.specs.GivenOption.{given}
use Rattle.ifl_conf.proofs.Fronts.{read_one, read_two, read_all, stops_past, stops_last, stops_before, texts_from}
use Rattle.ifl_conf.proofs.front.options_of.Goals.{else-words-test, then-words-test+in_ok-option+in_default+then-i-words, then-words-test+in_ok-option+in_default+else-i-words+in_ok-option-2+in_default-2}
use Rattle.ifl_conf.proofs.front.options_of.Goals as goal

pub words-preserved-in-Some : goal.words-preserved-in-Some
words-preserved-in-Some c =
    let one : one_word c.args.command (string_bytes c.index-words-i.result) ≡ Some (given c.in-Some.option) = grind (arith, common_steps) in
    let pushed : map given c.push.new.self.items ≡ map given c.words.options.items ++ given c.in-Some.option ∷ [] = grind (arith, common_steps) in
    record {
      within = omega arith;
      read = read_one c.args.command c.args.words.now c.words.i c.index-words-i.result _ _ _ _ (omega arith) c.index-words-i.is one pushed c.words.invariant.read;
    }

pub words-preserved : goal.words-preserved
words-preserved c =
    let one : one_word c.args.command (string_bytes c.index-words-i.result) ≡ None = grind (arith, common_steps) in
    let two : two_words c.args.command (string_bytes c.index-words-i.result) (string_bytes c.index-words-i-in-words.result) ≡ Some (given c.in-Some-2.option) = grind (arith, common_steps) in
    let pushed : map given c.push-in-words.new.self.items ≡ map given c.words.options.items ++ given c.in-Some-2.option ∷ [] = grind (arith, common_steps) in
    record {
      within = omega arith;
      read = read_two c.args.command c.args.words.now c.words.i c.index-words-i.result c.index-words-i-in-words.result _ _ _ _ (omega arith) c.index-words-i.is c.index-words-i-in-words.is one two pushed c.words.invariant.read;
    }

pub returns-clause-value : goal.returns-clause-value
returns-clause-value c =
    let stops : front c.args.command (texts_from c.words.i c.args.words.now) ≡ ([], texts_from c.words.i c.args.words.now) =
    elim c.words-test.branch [
      | else-words-test w ↦ stops_past c.args.command c.args.words.now c.words.i (omega arith)
      | then-words-test+in_ok-option+in_default+then-i-words w ↦ stops_last c.args.command c.args.words.now c.words.i w.index-words-i.result (omega arith) w.index-words-i.is (grind (arith, common_steps))
      | then-words-test+in_ok-option+in_default+else-i-words+in_ok-option-2+in_default-2 w ↦ stops_before c.args.command c.args.words.now c.words.i w.index-words-i.result w.index-words-i-in-words.result (omega arith) w.index-words-i.is w.index-words-i-in-words.is (grind (arith, common_steps)) (grind (arith, common_steps))
    ] in
    read_all c.args.command c.args.words.now c.words.i _ _ c.words.invariant.within stops c.words.invariant.read
