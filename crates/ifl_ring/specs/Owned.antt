-- What lies in a slot between any two steps, by the owner of its place.
use Rattle.std.specs.Prelude.{◌≡◌}
use mathlib.Core.Option.{some, none}
use mathlib.Core.Option as maybe
use Rattle.std.specs.Global.{Box}
use Rattle.ifl_ringcore.specs.declared.owner.Owner.{Owner}
use Rattle.ifl_ringcore.specs.declared.owner.Owner.TheVariants as owner
use Rattle.ifl_ring.specs.declared.place.Place.{Place}
use Rattle.ifl_ring.specs.declared.place.Place.TheVariants.{Item, Vacant, Post}
use Rattle.ifl_ring.specs.declared.place.Outlet.{Outlet}

module _ {I D : Type 0} where
  -- a free place's slot is vacant, one with a published item holds it, and what others own is with them
  abbrev pub LiesFor : Owner → maybe.Option (maybe.Option (Place I D)) → Type 0
  LiesFor owner.Free h = h ≡ some (some Vacant)
  LiesFor (owner.Reserver seat) h = h ≡ some none
  LiesFor owner.Ring h = (x : I) × (h ≡ some (some (Item x)))
  LiesFor (owner.Consumer seat) h = h ≡ some none

  -- the drainer lies in its slot
  abbrev pub IsPosted : maybe.Option (maybe.Option (Place I D)) → Type 0
  IsPosted h = (b : Box (Outlet I D)) × (h ≡ some (some (Post b)))
