use Rattle.std.proofs.Common.{ℕ, ◌≡◌, ◌≢◌, ◌-◌, ◌++◌, take, drop, false, get_or, ap, ◌∙◌, arith, inl}
use Rattle.std.proofs.lemmas.List.{get_or-set_other}
use Rattle.std.specs.Mem.Slots.{slots_filled}
use Rattle.ifl_ring.specs.Closed.{items_lying}
use Rattle.ifl_ring.proofs.Ending.{ends_at, word_ends, post_ends, batch_room, closes_with, all_emptied}
use Rattle.ifl_ringcore.specs.State.{first_state}
use Rattle.ifl_ringcore.specs.History.{state_after}
use Rattle.ifl_ring.proofs.bare.BareRing.close.Goals as goal

pub read-word-requires-clause-word : goal.read-word-requires-clause-word
read-word-requires-clause-word g c = let e = ends_at g.D.Item.RingItem.meaning g.D.Drainer.origin g.D.Drainer.settled g.D.Drainer.full g.D.Drainer.stands_for _ _ _ _ _ c.args.seat.me c.args.self.keyed c.requires.rest c.requires.whole c.close_with-closed.ensures.values.2 in
    (state_after first_state c.args.seat.me.0.known.seen, word_ends _ _ _ _ _ _ _ _ _ _ _ e c.word.result c.word.ensures)

pub unreachable-requires : goal.unreachable-requires
unreachable-requires g c = let e = ends_at g.D.Item.RingItem.meaning g.D.Drainer.origin g.D.Drainer.settled g.D.Drainer.full g.D.Drainer.stands_for _ _ _ _ _ c.args.seat.me c.args.self.keyed c.requires.rest c.requires.whole c.close_with-closed.ensures.values.2 in
    c.in_default.not-Post e.outlet (post_ends _ _ _ _ _ _ _ _ _ _ _ e c.take.result c.take.ensures.value)

pub sweep-requires-clause-row : goal.sweep-requires-clause-row
sweep-requires-clause-row g c = let o = c.take.ensures.others in let r = c.args.self.sized in let n = c.close_with-closed.ensures.counts.1 in let w = c.read-word.ensures.within in
    (omega arith, omega arith, λ k lo hi. let ne : k ≢ c.args.self.size = (λ (e : k ≡ c.args.self.size). omega arith) in ap (λ z. get_or z k false) o.1 ∙ get_or-set_other (slots_filled c.close_with-closed.result.slots) c.args.self.size k false false ne ∙ c.close_with-closed.ensures.values.1 k (omega arith) (omega arith))

pub sweep-requires-clause-room : goal.sweep-requires-clause-room
sweep-requires-clause-room g c = let e = ends_at g.D.Item.RingItem.meaning g.D.Drainer.origin g.D.Drainer.settled g.D.Drainer.full g.D.Drainer.stands_for _ _ _ _ _ c.args.seat.me c.args.self.keyed c.requires.rest c.requires.whole c.close_with-closed.ensures.values.2 in
    let r = rw (← c.into_inner-drainer.ensures) at (batch_room _ _ _ _ _ _ _ _ _ _ _ e c.in-Post.outlet c.in-Post.ensures.value) in let a = r.0 in let b = r.1 in omega arith

pub sweep-requires-2-clause-row : goal.sweep-requires-2-clause-row
sweep-requires-2-clause-row g c = let o = c.take.ensures.others in let s = c.sweep.ensures.same in let r = c.args.self.sized in let n = c.close_with-closed.ensures.counts.1 in let w = c.read-word.ensures.within in
    (omega arith, omega arith, λ k lo hi. let ne : k ≢ c.args.self.size = (λ (e : k ≡ c.args.self.size). omega arith) in c.sweep.ensures.others k (inl hi) ∙ ap (λ z. get_or z k false) o.1 ∙ get_or-set_other (slots_filled c.close_with-closed.result.slots) c.args.self.size k false false ne ∙ c.close_with-closed.ensures.values.1 k (omega arith) (omega arith))

pub sweep-requires-2-clause-room : goal.sweep-requires-2-clause-room
sweep-requires-2-clause-room g c = let e = ends_at g.D.Item.RingItem.meaning g.D.Drainer.origin g.D.Drainer.settled g.D.Drainer.full g.D.Drainer.stands_for _ _ _ _ _ c.args.seat.me c.args.self.keyed c.requires.rest c.requires.whole c.close_with-closed.ensures.values.2 in
    let r = rw (← c.into_inner-drainer.ensures) at (batch_room _ _ _ _ _ _ _ _ _ _ _ e c.in-Post.outlet c.in-Post.ensures.value) in let a = r.0 in let b = r.1 in let w = c.read-word.ensures.within in let few = c.sweep.ensures.few in let room = c.sweep.ensures.room in omega arith

pub free-requires : goal.free-requires
free-requires g c = let o = c.take.ensures.others in let s = c.sweep.ensures.same in let s2 = c.sweep-2.ensures.same in let r = c.args.self.sized in let n = c.close_with-closed.ensures.counts.1 in let w = c.read-word.ensures.within in
    λ k h. all_emptied c.args.self.size c.read-word.result.cidx _ _ _ _ (omega arith) o.1 c.sweep.ensures.emptied c.sweep.ensures.others c.sweep-2.ensures.emptied c.sweep-2.ensures.others k (omega arith)

pub returns : goal.returns
returns g c = let e = ends_at g.D.Item.RingItem.meaning g.D.Drainer.origin g.D.Drainer.settled g.D.Drainer.full g.D.Drainer.stands_for _ _ _ _ _ c.args.seat.me c.args.self.keyed c.requires.rest c.requires.whole c.close_with-closed.ensures.values.2 in let r = c.args.self.range in
    let same = c.take.ensures.others.0 in let w : ℕ = c.read-word.result.cidx in
    let t = closes_with _ _ _ _ _ _ _ _ _ _ _ e c.word.result c.read-word.result c.in-Post.outlet c.sweep.new.left.items c.sweep-2.new.left.items (omega arith) r.1 c.word.ensures c.read-word.ensures.packs c.read-word.ensures.within c.in-Post.ensures.value
    (rw c.into_inner-drainer.ensures at (c.sweep.ensures.items ∙ ap (λ z. c.into_inner-drainer.result.batch.items ++ items_lying (take (c.args.self.size - w) (drop w z))) same))
    (c.sweep-2.ensures.items ∙ ap (λ z. c.sweep.new.left.items ++ items_lying (take (w - 0) (drop 0 z))) (c.sweep.ensures.same.0 ∙ same)) in
    record { closed = t.0; drainer = rw c.into_inner-drainer.ensures t.1; all = e.all }
