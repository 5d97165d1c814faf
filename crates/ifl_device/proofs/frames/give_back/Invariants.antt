use Rattle.std.proofs.Common.{◌≡◌, ◌⊎◌, List, length}
use mathlib.Core.List.{reverse}
use Rattle.std.specs.Prelude.{vec_capacity}
use Rattle.ifl_desc.specs.declared.desc.Desc.{Desc}
use Rattle.ifl_desc.specs.Ends.{IsDevice}
use Rattle.ifl_device.proofs.Returning.{Giving}
use Rattle.ifl_device.proofs.frames.give_back.Given as goal

abbrev pub invariant-loop-d : goal.invariant-loop-d
invariant-loop-d g l = ((left : List Desc) × (l.frame.items ≡ reverse left) × Giving l.fn.status (g.R.DescRing.device_sees l.fn.device) (g.R.DescRing.device_sees l.device) l.fn.frame.items left)
    × (vec_capacity l.frame ≡ vec_capacity l.fn.frame) × ((l.frame.items ≡ reverse l.fn.frame.items) ⊎ IsDevice (g.R.DescRing.device_sees l.device))

abbrev pub decreases-loop-d : goal.decreases-loop-d
decreases-loop-d g l = length l.frame.items
