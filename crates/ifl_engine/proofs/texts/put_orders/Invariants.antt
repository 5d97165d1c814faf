use Rattle.std.proofs.Common.{◌≡◌, ◌++◌, take}
use Rattle.std.specs.List.{flat_map}
use Rattle.std.specs.String.{string_bytes}
use Rattle.ifl_engine.specs.Texts.{order_line}
use Rattle.ifl_engine.proofs.texts.put_orders.Given as goal

abbrev pub invariant-loop-l : goal.invariant-loop-l
invariant-loop-l v = string_bytes v.out ≡ string_bytes v.fn.out ++ flat_map order_line (take v.l-index v.lines)
