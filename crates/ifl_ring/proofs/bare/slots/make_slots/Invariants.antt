use Rattle.std.proofs.Common.{◌≡◌, ◌<◌, replicate, vec_len}
use Rattle.std.specs.Prelude.{vec_capacity}
use Rattle.ifl_ring.specs.declared.place.Place.TheVariants.{Vacant}
use Rattle.ifl_ring.proofs.bare.slots.make_slots.Given as goal

abbrev pub invariant-loop : goal.invariant-loop
invariant-loop g l = (l.slots.items ≡ replicate l.counter Vacant) × (vec_len l.slots ≡ l.counter) × (l.size < vec_capacity l.slots)
