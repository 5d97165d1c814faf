use Rattle.std.proofs.Common.{◌≡◌, ◌-◌}
use Rattle.ifl_desc.specs.Rack.{SameSeat, spin}
use Rattle.ifl_desc.proofs.rack.swap_at.Given as goal

abbrev pub invariant-loop : goal.invariant-loop
invariant-loop g l = SameSeat l.fn.seat l.seat × (l.seat.me.1 ≡ spin l.counter l.fn.seat.me.1)

abbrev pub invariant-loop-2 : goal.invariant-loop-2
invariant-loop-2 g l = SameSeat l.initial.seat l.seat × (l.seat.me.1 ≡ spin (l.counter - l.at) l.initial.seat.me.1)
