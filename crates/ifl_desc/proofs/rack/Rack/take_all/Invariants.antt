use Rattle.std.proofs.Common.{◌≡◌, ◌+◌, ◌++◌, length}
use Rattle.std.specs.Prelude.{vec_capacity}
use Rattle.ifl_desc.specs.declared.rack.Rack.{Rack}
use Rattle.ifl_desc.specs.Rack.{IsRack, SameSeat, placed, seen_of, ahead}
use Rattle.ifl_desc.proofs.rack.Rack.take_all.Given as goal

abbrev pub invariant-loop : goal.invariant-loop
invariant-loop g l = let a : Rack = l.initial.self in
    IsRack g.R.IsSide.side l.self × SameSeat a.seat l.self.seat × (placed l.self ≡ placed a)
    × (l.out.items ++ ahead g.R.IsSide.side (seen_of a) l.self.left ≡ l.initial.out.items ++ ahead g.R.IsSide.side (seen_of a) a.left)
    × (vec_capacity l.out ≡ vec_capacity l.initial.out) × (length l.out.items ≡ length l.initial.out.items + l.counter)
    × (l.self.left + l.counter ≡ a.left) × (l.self.bare ≡ a.bare + l.counter) × (l.self.put ≡ a.put) × (l.self.first ≡ a.first) × (l.self.size ≡ a.size)
