use Rattle.std.proofs.Common.{◌≡◌, ◌≤◌, ◌-◌, map, length, string_bytes}
use Rattle.ifl_conf.specs.Front.{front}
use Rattle.ifl_conf.specs.GivenOption.{given}
use Rattle.ifl_conf.proofs.Fronts.{behind, texts_from}
use Rattle.ifl_conf.proofs.front.options_of.Given as goal

abbrev pub invariant-words : goal.invariant-words
invariant-words l = record {
  within : l.i ≤ length l.words;
  read : behind (map given l.options.items) (front l.command (texts_from l.i l.words)) ≡ front l.command (map string_bytes l.words);
}

abbrev pub decreases-words : goal.decreases-words
decreases-words l = length l.words - l.i
