use Rattle.std.proofs.Common.{arith, ap, ◌∙◌, ◌-◌, ◌≡◌, length, length-drop}
use mathlib.Core.Logic.{dite}
use native.Mathlib.Decide.{dec_le}
use Rattle.ifl_ring.proofs.Offering.{front, offered, gathered_long}
use Rattle.ifl_ring.proofs.bare.BareRing.offer.Goals as goal

pub gather-slot-requires-clause-front : goal.gather-slot-requires-clause-front
gather-slot-requires-clause-front g c κs within = front g.D.Item.RingItem.meaning g.D.Drainer.origin g.D.Drainer.settled g.D.Drainer.stands_for _ _ _ _ _ _ _ c.requires.consuming

pub drain-k-requires-clause-some : goal.drain-k-requires-clause-some
drain-k-requires-clause-some g c = let x = c.requires.consuming in
    let t = gathered_long _ _ _ _ _ _ _ _ _ (c.gather-slot.ensures.gathered (front g.D.Item.RingItem.meaning g.D.Drainer.origin g.D.Drainer.settled g.D.Drainer.stands_for _ _ _ _ _ _ _ x)) in let cnt = x.count in let some = c.requires.some in
    (dite (dec_le 1 c.gather-slot.result.1) (λ more. let s = c.gather-slot.ensures.stop more in omega arith) (λ none. omega arith), c.gather-slot.ensures.few)

pub returns-clause-less : goal.returns-clause-less
returns-clause-less g c = let x = c.requires.consuming in
    let t = gathered_long _ _ _ _ _ _ _ _ _ (c.gather-slot.ensures.gathered (front g.D.Item.RingItem.meaning g.D.Drainer.origin g.D.Drainer.settled g.D.Drainer.stands_for _ _ _ _ _ _ _ x)) in let cnt = x.count in let few = c.drain-k.ensures.count in
    let long : length c.drain-k.new.batch.items ≡ length c.gather-slot.new.batch.items - c.drain-k.result = ap length c.drain-k.ensures.left ∙ length-drop c.drain-k.result c.gather-slot.new.batch.items in omega arith

pub returns-clause-consuming : goal.returns-clause-consuming
returns-clause-consuming g c = λ x. let f = front g.D.Item.RingItem.meaning g.D.Drainer.origin g.D.Drainer.settled g.D.Drainer.stands_for _ _ _ _ _ _ _ x in
    let big = x.room.0 in let whole = x.room.1 in let kept = c.drain-k.ensures.room in let rm = c.gather-slot.ensures.room in
    offered g.D.Item.RingItem.meaning g.D.Drainer.origin g.D.Drainer.settled g.D.Drainer.stands_for _ _ _ _ _ _ _ _ _ _ c.gather-slot.new.batch c.drain-k.new.batch _ _ x (c.gather-slot.ensures.gathered f) c.gather-slot.ensures.same.2 c.drain-k.ensures.count c.drain-k.ensures.left c.drain-k.ensures.stands c.drain-k.ensures.settled c.drain-k.ensures.origin (omega arith, omega arith) c.gather-slot.ensures.few
