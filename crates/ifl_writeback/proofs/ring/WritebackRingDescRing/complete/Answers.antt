use Rattle.std.proofs.Common.{◌+◌, ◌%◌, ◌∙◌, ap, sym, arith, subst, refl}
use Rattle.ifl_desc.specs.declared.rack.Rack.{Rack}
use Rattle.ifl_desc.specs.Ends.{DeviceSees}
use Rattle.ifl_desc.specs.Calls.{Completes}
use Rattle.ifl_desc.specs.Sides.{device_of, DeviceOk}
use Rattle.ifl_desc.proofs.DeviceCalls.{device_lawful, place_ok, return_done, room_of_device}
use Rattle.ifl_writeback.proofs.WordSteps.{returns}
use Rattle.ifl_writeback.proofs.ring.WritebackRingDescRing.complete.Goals as goal

pub store-requires : goal.store-requires
store-requires c = let h : Rack = c.end.inside.rack in let k : DeviceOk h = c.end.invariant in let z = c.self.invariant in
    let p = c.place.ensures in let n = p.counts in let pos = room_of_device h k c.args.end.now c.end.view_is c.requires.fetched in
    let t = p.seat.0 ∙ (ap (λ (x : DeviceSees). x.ring) c.end.view_is ∙ c.requires.ring ∙ sym c.self.view_is) in
    let slots = ap (λ x. x.slots) (sym t) ∙ p.rack.size in
    (t, (let w = z.0 in omega arith), returns h c.place.new.self c.args.d c.requires.settled k p.rack p.seat p.placed pos n.0 n.1 n.2 n.4 c.if-last.true _ _ _ slots (z.2 ∙ sym z.1 ∙ slots))

pub invariant_of-end : goal.invariant_of-end
invariant_of-end c = let h : Rack = c.end.inside.rack in let k : DeviceOk h = c.end.invariant in
    let p = c.place.ensures in let n = p.counts in let pos = room_of_device h k c.args.end.now c.end.view_is c.requires.fetched in
    let t = p.seat.0 ∙ (ap (λ (x : DeviceSees). x.ring) c.end.view_is ∙ c.requires.ring ∙ sym c.self.view_is) in
    let slots = ap (λ x. x.slots) (sym t) ∙ p.rack.size in
    let g = c.place.new.self in
    let h' : Rack = record { seat = c.store.new.seat; size = g.size; first = (g.first + g.put) % g.size; put = 0; bare = g.bare; left = g.left } in
    (return_done h g c.args.d c.requires.settled k p.rack p.seat p.placed pos n.0 n.1 n.2 n.4 c.if-last.true h' _ slots c.store.ensures.2 c.store.ensures.0 refl refl refl refl refl).0

pub returns-then-last-clause-list : goal.returns-then-last-clause-list
returns-then-last-clause-list c = let h : Rack = c.end.inside.rack in let k : DeviceOk h = c.end.invariant in
    let p = c.place.ensures in let n = p.counts in let pos = room_of_device h k c.args.end.now c.end.view_is c.requires.fetched in
    let t = p.seat.0 ∙ (ap (λ (x : DeviceSees). x.ring) c.end.view_is ∙ c.requires.ring ∙ sym c.self.view_is) in
    let slots = ap (λ x. x.slots) (sym t) ∙ p.rack.size in
    let g = c.place.new.self in
    let h' : Rack = record { seat = c.store.new.seat; size = g.size; first = (g.first + g.put) % g.size; put = 0; bare = g.bare; left = g.left } in
    subst (λ (x : DeviceSees). Completes x c.args.d (device_of h')) c.end.view_is
    (return_done h g c.args.d c.requires.settled k p.rack p.seat p.placed pos n.0 n.1 n.2 n.4 c.if-last.true h' _ slots c.store.ensures.2 c.store.ensures.0 refl refl refl refl refl).1

pub returns-then-last-clause-lawful : goal.returns-then-last-clause-lawful
returns-then-last-clause-lawful c = device_lawful _ (invariant_of-end c)

pub invariant_of-end-else-last : goal.invariant_of-end-else-last
invariant_of-end-else-last c = let h : Rack = c.end.inside.rack in let k : DeviceOk h = c.end.invariant in
    let p = c.place.ensures in let n = p.counts in let pos = room_of_device h k c.args.end.now c.end.view_is c.requires.fetched in
    place_ok h c.place.new.self c.args.d c.requires.settled k p.rack p.seat p.placed pos n.0 n.1 n.2 n.4 c.if-last.false

pub returns-else-last-clause-lawful : goal.returns-else-last-clause-lawful
returns-else-last-clause-lawful c = device_lawful _ (invariant_of-end-else-last c)
