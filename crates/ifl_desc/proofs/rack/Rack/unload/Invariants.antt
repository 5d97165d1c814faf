use Rattle.std.proofs.Common.{◌≡◌, ◌+◌, ◌++◌, length, take, drop, map, replicate}
use Rattle.std.specs.Prelude.{vec_capacity, Some, None}
use Rattle.ifl_desc.specs.declared.rack.Rack.{Rack}
use Rattle.ifl_desc.specs.History.{sent}
use Rattle.ifl_desc.specs.Rule.{laid}
use Rattle.ifl_desc.specs.Rack.{SameSeat, placed, seen_of, ahead}
use Rattle.ifl_desc.proofs.rack.Rack.unload.Given as goal

abbrev pub invariant-loop-at : goal.invariant-loop-at
invariant-loop-at g l = let a : Rack = l.initial.self in
    SameSeat a.seat l.self.seat
    × (l.self.seat.me.1 ≡ laid a.size (length (sent g.R.IsSide.side (seen_of a))) (replicate l.at None ++ (map Some (drop l.at (placed a)) ++ (replicate a.bare None ++ map Some (ahead g.R.IsSide.side (seen_of a) a.left)))))
    × (l.out.items ≡ l.initial.out.items ++ take l.at (placed a))
    × (vec_capacity l.out ≡ vec_capacity l.initial.out) × (length l.out.items ≡ length l.initial.out.items + l.at)
    × (l.self.left ≡ a.left) × (l.self.bare ≡ a.bare) × (l.self.put ≡ a.put) × (l.self.first ≡ a.first) × (l.self.size ≡ a.size)
