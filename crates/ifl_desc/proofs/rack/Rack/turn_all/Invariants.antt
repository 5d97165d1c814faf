use Rattle.std.proofs.Common.{◌≡◌}
use Rattle.ifl_desc.specs.Rack.{SameSeat, spin}
use Rattle.ifl_desc.proofs.rack.Rack.turn_all.Given as goal

abbrev pub invariant-loop : goal.invariant-loop
invariant-loop l = SameSeat l.initial.self.seat l.self.seat × (l.self.seat.me.1 ≡ spin l.counter l.initial.self.seat.me.1) × (l.self.put ≡ l.initial.self.put) × (l.self.bare ≡ l.initial.self.bare) × (l.self.left ≡ l.initial.self.left) × (l.self.first ≡ l.initial.self.first) × (l.self.size ≡ l.initial.self.size)
