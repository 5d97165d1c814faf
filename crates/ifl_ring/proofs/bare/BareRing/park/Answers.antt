use Rattle.std.proofs.Common.{arith, ap, ◌∙◌, ◌+◌, [], ◌∷◌, ◌++◌, refl, sym}
use Rattle.ifl_ring.specs.declared.place.Place.TheVariants.{Away, Post}
use Rattle.atomic_table.specs.Table.{rest}
use Rattle.std.specs.Box.{with_value}
use Rattle.std.specs.Global.{Box}
use Rattle.std.specs.VecDeque.{deque_capacity}
use Rattle.ifl_ring.specs.declared.place.Outlet.{Outlet}
use Rattle.ifl_ring.specs.Law.{HasRoom}
use Rattle.ifl_ring.proofs.Offering.{first_turn, second_turn, last_turn, parked, X}
use Rattle.ifl_ring.proofs.bare.BareRing.park.Goals as goal

pub turn_by-requires-clause-count : goal.turn_by-requires-clause-count
turn_by-requires-clause-count g c κs within = let k = c.requires.consuming.0 in (first_turn c.args.self.now.size k.consumer.done c.args.n c.args.outlet.value.batch.items k.items c.args.left _ _ k.count k.lies refl).1

pub put_back-requires-clause-front : goal.put_back-requires-clause-front
put_back-requires-clause-front g c κs within = let k = c.requires.consuming.0 in rw c.deref_mut.ensures.value
    (k.consumer.done + c.args.n, X c.args.self.now.size k.consumer.done c.args.n c.args.outlet.value.batch.items k.items, c.requires.consuming.1, (first_turn c.args.self.now.size k.consumer.done c.args.n c.args.outlet.value.batch.items k.items c.args.left _ _ k.count k.lies c.turn_by.ensures.turned).0)

pub turn_by-requires-2-clause-count : goal.turn_by-requires-2-clause-count
turn_by-requires-2-clause-count g c κs within = let back = rw c.deref_mut.ensures.value at c.put_back.ensures.back in let k = c.requires.consuming.0 in let t = first_turn c.args.self.now.size k.consumer.done c.args.n c.args.outlet.value.batch.items k.items c.args.left _ _ k.count k.lies c.turn_by.ensures.turned in
    (second_turn c.args.self.now.size k.consumer.done c.args.n c.args.outlet.value.batch.items k.items c.args.left _ _ k.count (back _ _ c.requires.consuming.1 t.0) refl).1

pub put_post-requires-clause-slot : goal.put_post-requires-clause-slot
put_post-requires-clause-slot g c κs within = let back = rw c.deref_mut.ensures.value at c.put_back.ensures.back in let k = c.requires.consuming.0 in let t = first_turn c.args.self.now.size k.consumer.done c.args.n c.args.outlet.value.batch.items k.items c.args.left _ _ k.count k.lies c.turn_by.ensures.turned in
    let u = second_turn c.args.self.now.size k.consumer.done c.args.n c.args.outlet.value.batch.items k.items c.args.left _ _ k.count (back _ _ c.requires.consuming.1 t.0) c.turn_by-2.ensures.turned in
    u.0 ∙ ap (λ z. (c.args.self.now.size, Away) ∷ rest z) (sym u.0)

pub returns-clause-parked : goal.returns-clause-parked
returns-clause-parked g c = let back = rw c.deref_mut.ensures.value at c.put_back.ensures.back in λ k first. let t = first_turn c.args.self.now.size k.consumer.done c.args.n c.args.outlet.value.batch.items k.items c.args.left _ _ k.count k.lies c.turn_by.ensures.turned in
    let u = second_turn c.args.self.now.size k.consumer.done c.args.n c.args.outlet.value.batch.items k.items c.args.left _ _ k.count (back _ _ first t.0) c.turn_by-2.ensures.turned in
    let view = ap (λ z. z.0) c.put_post.ensures.filled ∙ (c.turn_by-2.ensures.same.2 ∙ (c.put_back.ensures.same.2 ∙ c.turn_by.ensures.same.2)) in
    let parted : Box (Outlet g.row.D-Item.Denot g.row.D.Denot) = with_value c.args.outlet record c.deref_mut.result.now { batch = c.put_back.new.batch } in
    let out = ap (λ z. z.1) c.put_post.ensures.filled ∙ ap (λ z. rest z ++ (c.args.self.now.size, Post parted) ∷ []) u.0
    ∙ last_turn c.args.self.now.size k.consumer.done c.args.n c.args.outlet.value.batch.items k.items (Post parted) in
    let big = k.room.0 in let whole = k.room.1 in let kept = c.put_back.ensures.batch.1 ∙ ap (λ z. deque_capacity z.batch) c.deref_mut.ensures.value in let room : HasRoom c.args.self.now.size c.put_back.new.batch = (omega arith, omega arith) in
    parked g.D.Item.RingItem.meaning g.D.Drainer.origin g.D.Drainer.settled g.D.Drainer.stands_for g.D.Drainer.full _ _ _ _ _ _ parted _ _ k view out (ap (λ z. z.drainer) c.deref_mut.ensures.value) c.put_back.ensures.batch.0 room
