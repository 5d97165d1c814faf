-- What lies in the slots, by the owners of their places.
use Rattle.std.proofs.Common.{◌≡◌, ℕ, List, subst, arith}
use Rattle.std.specs.Prelude.{Option, Some, None, take}
use Rattle.ifl_base.specs.declared.word.Flag.{Flag}
use mathlib.Core.Option.{some, none}
use mathlib.Core.Option as maybe
use lib.ListN.{get_elem?}
use Rattle.atomic_table.specs.Table.{State}
use Rattle.ifl_ringcore.specs.declared.history.Meaning.{Meaning}
use Rattle.ifl_ringcore.specs.declared.owner.Owner.{Owner}
use Rattle.ifl_ringcore.specs.declared.owner.Owner.TheVariants as owner
use Rattle.ifl_ringcore.specs.Owners.{IsOwner}
use Rattle.ifl_ringcore.specs.State.{Consumer}
use Rattle.ifl_ringcore.proofs.Owning.{reach_is}
use Rattle.ifl_ringcore.proofs.Reservations.{reservation_of-within}
use Rattle.ifl_ring.specs.declared.place.Key.{Key}
use Rattle.ifl_ring.specs.declared.place.Place.{Place}
use Rattle.ifl_ring.specs.declared.place.Place.TheVariants.{Vacant, Item}
use Rattle.ifl_ring.specs.declared.view.View.{View}
use Rattle.ifl_ring.specs.Law.{Lawful, Posted}
use Rattle.ifl_ring.specs.Owned.{LiesFor, IsPosted}

module _ {I D O : Type 0} (meaning : I → Meaning) (origin : D → O) (settled full : D → Type 0) (stands_for : D → List Meaning → Type 0) where
  pub lies_for : (key : Key O) (s : State (Place I D) (View O)) (l : Lawful meaning origin settled full stands_for key s) (place : ℕ) (o : Owner) → IsOwner key.size l.now place o → LiesFor o (get_elem? s.homes place)
  lies_for key s l place owner.Free (m, at, low, high, free) = subst (λ (z : ℕ). get_elem? s.homes z ≡ some (some Vacant)) at (l.shelf.vacant m free high)
  lies_for key s l place (owner.Reserver seat) (m, at, low, high, has) =
      let t = reservation_of-within seat l.now.published l.now.reservations l.now.reserved has.0 l.good.covered has.1 in let a = t.0 in let b = t.1 in let from = has.2 in let to = has.3 in
      subst (λ (z : ℕ). get_elem? s.homes z ≡ some none) at (l.shelf.held m (omega arith) (omega arith))
  lies_for key s l place owner.Ring (m, at, low, high, has) = let t = l.shelf.ready m has.0 has.1 in (t.0, subst (λ (z : ℕ). get_elem? s.homes z ≡ some (some (Item t.0))) at t.1)
  lies_for key s l place (owner.Consumer seat) (m, at, low, high, has) =
      let e = reach_is l.now seat has.0 has.1 in let known = has.2 in subst (λ (z : ℕ). get_elem? s.homes z ≡ some none) at (l.shelf.taken m low (omega arith))

  posted : (size : ℕ) (f : Flag) (o : O) (done : List Meaning) (h : maybe.Option (maybe.Option (Place I D))) → Posted meaning origin settled full stands_for size f o done None h → IsPosted h
  posted size f o done h t = (t.0, t.1)

  -- the drainer lies in its slot where nobody consumes, and is with the consumer else
  pub drainer_lies : (key : Key O) (s : State (Place I D) (View O)) (l : Lawful meaning origin settled full stands_for key s) → l.now.consumer ≡ None → IsPosted (get_elem? s.homes key.size)
  drainer_lies key s l none_ = posted key.size l.now.flag key.origin _ _ (subst (λ (z : Option Consumer). Posted meaning origin settled full stands_for key.size l.now.flag key.origin (take l.now.released l.now.items) z (get_elem? s.homes key.size)) none_ l.shelf.posted)

  pub drainer_away : (key : Key O) (s : State (Place I D) (View O)) (l : Lawful meaning origin settled full stands_for key s) (d : Consumer) → l.now.consumer ≡ Some d → get_elem? s.homes key.size ≡ some none
  drainer_away key s l d some_ = subst (λ (z : Option Consumer). Posted meaning origin settled full stands_for key.size l.now.flag key.origin (take l.now.released l.now.items) z (get_elem? s.homes key.size)) some_ l.shelf.posted
