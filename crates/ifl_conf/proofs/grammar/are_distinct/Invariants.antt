use Rattle.std.proofs.Common.{◌≡◌, ◌≤◌, ◌-◌, map, length, drop}
use Rattle.ifl_conf.specs.Grammar.{are_distinct}
use Rattle.ifl_conf.specs.GivenOption.{given}
use Rattle.ifl_conf.proofs.grammar.are_distinct.Given as goal

abbrev pub invariant-options : goal.invariant-options
invariant-options l = record {
  within : l.i ≤ length l.options;
  read : are_distinct (map given (drop l.i l.options)) ≡ are_distinct (map given l.options);
}

abbrev pub decreases-options : goal.decreases-options
decreases-options l = length l.options - l.i
