use Rattle.std.proofs.Common.{◌+◌, ◌%◌, ◌∙◌, ap, sym, arith, subst, refl, length}
use Rattle.ifl_desc.specs.declared.rack.Rack.{Rack}
use Rattle.ifl_desc.specs.declared.history.Side.TheVariants.{Driver}
use Rattle.ifl_desc.specs.History.{sent}
use Rattle.ifl_desc.specs.Frames.{open_after}
use Rattle.ifl_desc.specs.Ends.{DriverSees}
use Rattle.ifl_desc.specs.Calls.{Flushes}
use Rattle.ifl_desc.specs.Rack.{seen_of}
use Rattle.ifl_desc.proofs.Rows.{slot_at}
use Rattle.ifl_desc.specs.Sides.{driver_of, DriverOk}
use Rattle.ifl_desc.proofs.DriverCalls.{driver_lawful, flush_done}
use Rattle.ifl_writeback.proofs.WordSteps.{rings}
use Rattle.ifl_writeback.proofs.ring.WritebackRingDescRing.flush.Goals as goal

pub store-requires : goal.store-requires
store-requires c = let h : Rack = c.end.inside.rack in let k : DriverOk h = c.end.invariant in let v = c.end.view_is in let z = c.self.invariant in
    let t = ap (λ (x : DriverSees). x.ring) v ∙ c.requires.ring ∙ sym c.self.view_is in
    let slots = ap (λ x. x.slots) (sym t) ∙ k.rack.size in
    (t, omega arith, rings h k _ _ h.seat.id _ slots (z.2 ∙ sym z.1 ∙ slots) (ap (λ (x : DriverSees). open_after 0 x.pending) v ∙ c.requires.whole) refl (slot_at h.size (length (sent Driver (seen_of h))) h.first h.put k.rack.first))

pub invariant_of-end : goal.invariant_of-end
invariant_of-end c = let h : Rack = c.end.inside.rack in let k : DriverOk h = c.end.invariant in let v = c.end.view_is in
    let t = ap (λ (x : DriverSees). x.ring) v ∙ c.requires.ring ∙ sym c.self.view_is in
    let slots = ap (λ x. x.slots) (sym t) ∙ k.rack.size in
    (flush_done h _ k _ _ slots (slot_at h.size (length (sent Driver (seen_of h))) h.first h.put k.rack.first) c.store.ensures.2 c.store.ensures.0 refl refl refl refl refl).0

pub returns-clause-list : goal.returns-clause-list
returns-clause-list c = let h : Rack = c.end.inside.rack in let k : DriverOk h = c.end.invariant in let v = c.end.view_is in
    let t = ap (λ (x : DriverSees). x.ring) v ∙ c.requires.ring ∙ sym c.self.view_is in
    let slots = ap (λ x. x.slots) (sym t) ∙ k.rack.size in
    let h' : Rack = record { seat = c.store.new.seat; size = h.size; first = (h.first + h.put) % h.size; put = 0; bare = h.bare; left = h.left } in
    subst (λ (x : DriverSees). Flushes x (driver_of h')) v
    (flush_done h h' k _ _ slots (slot_at h.size (length (sent Driver (seen_of h))) h.first h.put k.rack.first) c.store.ensures.2 c.store.ensures.0 refl refl refl refl refl).1

pub returns-clause-lawful : goal.returns-clause-lawful
returns-clause-lawful c = driver_lawful _ (invariant_of-end c)
