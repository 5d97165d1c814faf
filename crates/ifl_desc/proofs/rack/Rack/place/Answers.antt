use Rattle.std.proofs.Common.{◌∙◌, sym, arith, refl}
use Rattle.std.specs.Prelude.{None}
use Rattle.ifl_desc.proofs.Turning.{same_head}
use Rattle.ifl_desc.proofs.Racks.{counted, place_there, place_done}
use Rattle.ifl_desc.proofs.rack.Rack.place.Goals as goal

pub swap_at-old-requires-clause-count : goal.swap_at-old-requires-clause-count
swap_at-old-requires-clause-count g c = let room = c.requires.room in (counted g.R.IsSide.side c.args.self.now c.requires.rack, omega arith)

pub swap_at-old-requires-clause-here : goal.swap_at-old-requires-clause-here
swap_at-old-requires-clause-here g c = (None, place_there g.R.IsSide.side c.args.self.now c.requires.rack c.requires.room)

pub unreachable-requires : goal.unreachable-requires
unreachable-requires g c = c.in_default.not-None (same_head _ _ _ _ (sym c.swap_at-old.ensures.value ∙ place_there g.R.IsSide.side c.args.self.now c.requires.rack c.requires.room))

pub returns-clause-rack : goal.returns-clause-rack
returns-clause-rack g c = (place_done g.R.IsSide.side c.args.self.now c.requires.rack c.requires.room c.args.d _ c.swap_at-old.ensures.seat c.swap_at-old.ensures.slots refl refl refl refl refl).0

pub returns-clause-placed : goal.returns-clause-placed
returns-clause-placed g c = (place_done g.R.IsSide.side c.args.self.now c.requires.rack c.requires.room c.args.d _ c.swap_at-old.ensures.seat c.swap_at-old.ensures.slots refl refl refl refl refl).1
