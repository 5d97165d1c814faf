use Rattle.std.proofs.Common.{◌≡◌, ◌≤◌, ◌-◌, map, length, drop}
use Rattle.ifl_conf.specs.Grammar.{value_of}
use Rattle.ifl_conf.specs.GivenOption.{given}
use Rattle.ifl_conf.proofs.grammar.value_of.Given as goal

abbrev pub invariant-options : goal.invariant-options
invariant-options l = record {
  within : l.i ≤ length l.options;
  read : value_of l.name (map given (drop l.i l.options)) ≡ value_of l.name (map given l.options);
}

abbrev pub decreases-options : goal.decreases-options
decreases-options l = length l.options - l.i
