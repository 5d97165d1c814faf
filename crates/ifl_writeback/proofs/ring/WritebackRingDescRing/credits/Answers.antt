use Rattle.std.proofs.Common.{ℕ, ◌+◌, ◌-◌, ◌%◌, ◌∙◌, ap, sym, arith, subst}
use Rattle.ifl_desc.specs.declared.rack.Rack.{Rack}
use Rattle.ifl_desc.specs.Ends.{DriverSees}
use Rattle.ifl_desc.specs.Calls.{Credits}
use Rattle.ifl_desc.specs.Sides.{driver_of, DriverOk}
use Rattle.ifl_desc.proofs.DriverCalls.{driver_lawful, learn_count, learn_done}
use Rattle.ifl_writeback.proofs.WordSteps.{learns}
use Rattle.ifl_writeback.proofs.ring.WritebackRingDescRing.credits.Goals as goal

pub load-found-requires : goal.load-found-requires
load-found-requires c = let h : Rack = c.end.inside.rack in let k : DriverOk h = c.end.invariant in let z = c.self.invariant in
    let t = ap (λ (x : DriverSees). x.ring) c.end.view_is ∙ c.requires ∙ sym c.self.view_is in
    let slots = ap (λ x. x.slots) (sym t) ∙ k.rack.size in
    (t, (let w = z.0 in omega arith), learns h k _ _ h.seat.id slots (z.2 ∙ sym z.1 ∙ slots))

pub invariant_of-end : goal.invariant_of-end
invariant_of-end c = let h : Rack = c.end.inside.rack in let k : DriverOk h = c.end.invariant in
    let t = ap (λ (x : DriverSees). x.ring) c.end.view_is ∙ c.requires ∙ sym c.self.view_is in
    let slots = ap (λ x. x.slots) (sym t) ∙ k.rack.size in let q = c.turn_all.ensures.counts in let s = c.turn_all.ensures.seat in
    let n : ℕ = (c.load-found.result + (h.size - (((h.first + h.put) + h.bare) + h.left) % h.size)) % h.size in
    let g = c.turn_all.new.self in
    let h' : Rack = record { seat = g.seat; size = g.size; first = g.first; put = g.put; bare = g.bare; left = g.left + n } in
    (learn_done h h' k c.load-found.new.seat.me _ c.load-found.result n slots (learn_count h k c.load-found.result) c.load-found.ensures.2 (s.0 ∙ c.load-found.ensures.0) s.2 c.turn_all.ensures.slots q.4 q.3 q.0 q.1 (ap (λ (x : ℕ). x + n) q.2)).0

pub returns-clause-list : goal.returns-clause-list
returns-clause-list c = let h : Rack = c.end.inside.rack in let k : DriverOk h = c.end.invariant in
    let t = ap (λ (x : DriverSees). x.ring) c.end.view_is ∙ c.requires ∙ sym c.self.view_is in
    let slots = ap (λ x. x.slots) (sym t) ∙ k.rack.size in let q = c.turn_all.ensures.counts in let s = c.turn_all.ensures.seat in
    let n : ℕ = (c.load-found.result + (h.size - (((h.first + h.put) + h.bare) + h.left) % h.size)) % h.size in
    let g = c.turn_all.new.self in
    let h' : Rack = record { seat = g.seat; size = g.size; first = g.first; put = g.put; bare = g.bare; left = g.left + n } in
    subst (λ (x : DriverSees). Credits x n (driver_of h')) c.end.view_is
    (learn_done h h' k c.load-found.new.seat.me _ c.load-found.result n slots (learn_count h k c.load-found.result) c.load-found.ensures.2 (s.0 ∙ c.load-found.ensures.0) s.2 c.turn_all.ensures.slots q.4 q.3 q.0 q.1 (ap (λ (x : ℕ). x + n) q.2)).1

pub returns-clause-lawful : goal.returns-clause-lawful
returns-clause-lawful c = driver_lawful _ (invariant_of-end c)
